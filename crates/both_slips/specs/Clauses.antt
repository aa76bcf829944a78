-- What two slips are held in, and what the columns then hold.
use Rattle.std.specs.Prelude.{ℕ, ◌+◌, ◌*◌, ◌≤◌, Result, Ok, Err, List, ◌≡◌, length, take, drop}
use Rattle.trees.specs.Nodes.{label}
use Rattle.trees.specs.Rules.{label_bytes, max_nodes}
use Rattle.trees.specs.Join.{Alike}
use Rattle.outcomes.specs.Refusals.{accepted}
use Rattle.sha256.specs.Sha256 as Sha256
use Rattle.titles.specs.Compose.{composed_text}
use Rattle.join_rows.specs.Plans.{TwoTables}
use Rattle.slips.specs.declared.open.Opened.{Opened}
use Rattle.slips.specs.Check.{count_of, body_of}
use Rattle.slips.specs.Opening.{OpenGives}
use Rattle.slips.specs.SlipTree.{slip_tree}
use Rattle.slips.specs.HoldingLaws.{Rooms}
use Rattle.answers.specs.declared.Answer.{Answer}
use Rattle.both_slips.specs.declared.Held.{Held}
use Rattle.both_slips.specs.declared.headed.HeadedSlip.{HeadedSlip}
use Rattle.answers.specs.Both.{both_of}

-- the columns and the areas of tables that are held
pub record Areas : Type 0 where
  pub types : List ℕ
  pub counts : List ℕ
  pub lengths : List ℕ
  pub values : List ℕ
  pub labels : List ℕ

abbrev pub areas : List ℕ → List ℕ → List ℕ → List ℕ → List ℕ → Areas
areas ts cs ls vs bs = record { types = ts; counts = cs; lengths = ls; values = vs; labels = bs }

-- room for a slip of m entries behind so many rows and value bytes
pub record BehindAsks (u : List ℕ) (m first used : ℕ) (types counts lengths values labels : List ℕ) : Type 0 where
  pub low : first ≤ max_nodes
  pub types_room : first + m ≤ length types
  pub counts_room : first + m ≤ length counts
  pub lengths_room : first + m ≤ length lengths
  pub values_room : used + length u ≤ length values
  pub labels_room : label_bytes * (first + m) ≤ length labels

-- the slip is opened behind the rows and value bytes, which are as they were
pub record BehindGives (u : List ℕ) (first used : ℕ) (r : Opened) (x y : Areas) : Type 0 where
  pub opens :
      OpenGives u r (drop first y.types) (drop first y.counts) (drop first y.lengths) (drop used y.values)
      (drop (label_bytes * first) y.labels)
  pub rooms : Rooms (count_of u) (drop first y.types) (drop first y.counts) (drop first y.lengths) (drop (label_bytes * first) y.labels)
  pub types_kept : take first y.types ≡ take first x.types
  pub counts_kept : take first y.counts ≡ take first x.counts
  pub lengths_kept : take first y.lengths ≡ take first x.lengths
  pub values_kept : take used y.values ≡ take used x.values
  pub labels_kept : take (label_bytes * first) y.labels ≡ take (label_bytes * first) x.labels

-- room for both tables end to end
pub record BothAsks (one two : HeadedSlip) (types counts lengths values labels : List ℕ) : Type 0 where
  pub types_room : one.nodes + two.nodes ≤ length types
  pub counts_room : one.nodes + two.nodes ≤ length counts
  pub lengths_room : one.nodes + two.nodes ≤ length lengths
  pub values_room : length one.bytes.now + length two.bytes.now ≤ length values
  pub labels_room : label_bytes * (one.nodes + two.nodes) ≤ length labels

-- the columns, cut at the rows of both, with the areas hold the trees of two slips with one root label
pub record Tables (s u : List ℕ) (r : Held) (types counts lengths values labels : List ℕ) : Type 0 where
  pub types_room : r.rows ≤ length types
  pub counts_room : r.rows ≤ length counts
  pub lengths_room : r.rows ≤ length lengths
  pub alike : Alike Sha256.label (slip_tree s) (slip_tree u)
  pub labelled : label Sha256.label (slip_tree s) ≡ r.answer.label
  pub two :
      TwoTables Sha256.label (slip_tree s) (slip_tree u) r.first (take r.rows types) (take r.rows counts) (take r.rows lengths) values
      labels

-- the answer to two slips whose headers are taken
abbrev pub both_answer : List ℕ → List ℕ → Answer
both_answer s u = both_of (body_of Sha256.label composed_text s) (body_of Sha256.label composed_text u)

-- the answer; where it refuses neither, what the areas hold
abbrev pub BothGives : List ℕ → List ℕ → Result Held Answer → List ℕ → List ℕ → List ℕ → List ℕ → List ℕ → Type 0
BothGives s u (Err a) types counts lengths values labels = (a ≡ both_answer s u) × (a.number ≡ accepted → ⊥)
BothGives s u (Ok r) types counts lengths values labels =
    (r.answer ≡ both_answer s u) × (r.answer.number ≡ accepted) × Tables s u r types counts lengths values labels
