-- What a slip is opened in, and what the opened areas hold.
use Rattle.std.specs.Prelude.{ℕ, ◌*◌, ◌≤◌, Bool, not, List, ◌∷◌, ◌≡◌, eqb, length, take}
use Rattle.outcomes.specs.Chain.{chain}
use Rattle.trees.specs.Rules.{max_nodes, max_bytes, label_bytes}
use Rattle.outcomes.specs.Refusals.{accepted, cut_short}
use Rattle.tables.specs.Tables.{entries, first_bad, sum}
use Rattle.sha256.specs.Sha256 as Sha256
use Rattle.titles.specs.Compose.{composed_text}
use Rattle.engine.specs.Engine.{Judged, RowsLabelled}
use Rattle.answers.specs.declared.Answer.{Answer}
use Rattle.slips.specs.declared.open.Opened.{Opened}
use Rattle.answers.specs.Answers.{refused, taken, answer_of}
use Rattle.tables.specs.Limits.{header_bits}
use Rattle.slips.specs.Check.{count_of, reading_of, end_tests, body_of}

-- the answer to n bytes, from what the engine tells of the rows read
unfoldable pub settled_by : ℕ → ℕ → Bool → List ℕ → Judged → Answer
settled_by n rows whole rest j =
    chain
    ((not (eqb j.number accepted), refused j.number j.place) ∷ (not whole, refused cut_short rows) ∷ end_tests j.one rest)
    (taken n j.blocks j.label)

-- a slip of n entries whose header is taken, and room for its rows, its values and its labels
pub record OpenAsks (s : List ℕ) (n : ℕ) (types counts lengths values labels : List ℕ) : Type 0 where
  pub head : header_bits ≤ 8 * length s
  pub long : length s ≤ max_bytes
  pub counted : n ≡ count_of s
  pub few : n ≤ max_nodes
  pub types_room : n ≤ length types
  pub counts_room : n ≤ length counts
  pub lengths_room : n ≤ length lengths
  pub values_room : length s ≤ length values
  pub labels_room : label_bytes * n ≤ length labels

-- the answer, the table of the rows read, and the label of each internal row
pub record OpenGives (s : List ℕ) (r : Opened) (types counts lengths values labels : List ℕ) : Type 0 where
  pub answer : answer_of r.answer ≡ body_of Sha256.label composed_text s
  pub count : r.rows ≡ length (reading_of s).rows
  pub rows : entries (take r.rows types) (take r.rows counts) (take r.rows lengths) (take r.used values) ≡ (reading_of s).rows
  pub formed : first_bad 0 (take r.rows types) (take r.rows counts) (take r.rows lengths) ≡ r.rows
  pub used : r.used ≡ sum (take r.rows lengths)
  pub few : r.rows ≤ count_of s
  pub room : r.used ≤ length values
  pub labelled : RowsLabelled Sha256.label composed_text (reading_of s).rows (take r.rows counts) labels

-- a slip of n entries whose header is taken, of at most `bytes` bytes and `nodes` nodes
pub record Counted (s : List ℕ) (n bytes nodes : ℕ) : Type 0 where
  pub head : header_bits ≤ 8 * length s
  pub long : length s ≤ bytes
  pub counted : n ≡ count_of s
  pub few : n ≤ nodes
