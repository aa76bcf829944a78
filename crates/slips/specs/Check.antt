-- What the check answers: "Slip: 1, 2 for the header, 3, 4; then each entry in turn: 2, 5, 6, 7 at its internal node, 8 at its leaf; then 9, 10."
use Rattle.std.specs.Prelude.{ℕ, ◌*◌, Bool, not, ◌&&◌, List, [], ◌∷◌, ltb, eqb, length, take, drop, Result, Ok, Err}
use Rattle.outcomes.specs.Chain.{chain}
use Rattle.bits.specs.Bits.{bits_of, num_of}
use Rattle.trees.specs.Rules.{max_bytes}
use Rattle.trees.specs.Rows.{Tag, Verdict, faulty, left, verdict}
use Rattle.tables.specs.Limits.{edition, edition_bits, count_bits, header_bits}
use Rattle.outcomes.specs.Refusals.{accepted, too_long, cut_short, other_edition, no_nodes, not_one_tree, bad_padding, number_of}
use Rattle.outcomes.specs.declared.numbers.Refusal.{Refusal}
use Rattle.codec.specs.Reading.{Reading, read_all}
use Rattle.engine.specs.Engine.{one_tree, root_label}
use Rattle.answers.specs.declared.Answer.{Answer}
use Rattle.answers.specs.Answers.{refused, taken}

abbrev pub edition_of : List ℕ → ℕ
edition_of s = num_of (take edition_bits (bits_of s))

abbrev pub count_of : List ℕ → ℕ
count_of s = num_of (take count_bits (drop edition_bits (bits_of s)))

-- the entries that the bits behind the header hold
abbrev pub reading_of : List ℕ → Reading
reading_of s = read_all (count_of s) (drop header_bits (bits_of s))

-- "0 to 7 zero bits to the byte's end, and nothing more"
unfoldable pub padding_fits : List ℕ → Bool
padding_fits rest = ltb (length rest) 8 && eqb (num_of rest) 0

-- "then 9, 10", by whether one tree waits and what is left of the bits
abbrev pub end_tests : Bool → List ℕ → List (Bool × Answer)
end_tests one rest = (not one, refused not_one_tree 0) ∷ (not (padding_fits rest), refused bad_padding 0) ∷ []

-- the entry at which the bits end, then 9, then 10
abbrev pub settled_tests : Reading → List Tag → List (Bool × Answer)
settled_tests r st = (not r.whole, refused cut_short (length r.rows)) ∷ end_tests (one_tree st) r.rest

-- the answer to n bytes whose entries were read and judged: a refusal of an entry read comes first
unfoldable pub settled : ℕ → Reading → Verdict → Answer
settled n r (faulty k i) = refused k i
settled n r (left st b) = chain (settled_tests r st) (taken n b (root_label st))

-- the refusal of a header, or 0 and the node count
pub record Header : Type 0 where
  pub number : ℕ
  pub count : ℕ

-- what the code answers of a header
abbrev pub header_seen : Result ℕ Refusal → Header
header_seen (Ok n) = record { number = accepted; count = n }
header_seen (Err r) = record { number = number_of r; count = 0 }

-- "1, 2 for the header, 3, 4"
abbrev pub header_tests : List ℕ → List (Bool × Header)
header_tests s =
    (ltb max_bytes (length s), record { number = too_long; count = 0 })
    ∷ (ltb (8 * length s) header_bits, record { number = cut_short; count = 0 })
    ∷ (not (eqb (edition_of s) edition), record { number = other_edition; count = 0 })
    ∷ (eqb (count_of s) 0, record { number = no_nodes; count = 0 })
    ∷ []

-- what the tests come to
unfoldable pub header_of : List ℕ → Header
header_of s = chain (header_tests s) (record { number = accepted; count = count_of s })

-- a refusal of the header, or the answer behind it
abbrev pub headed : Header → Answer → Answer
headed h a = chain ((not (eqb h.number accepted), refused h.number 0) ∷ []) a

module _ (H : List ℕ → List ℕ) (composed : List ℕ → Bool) where
  -- the answer once the header has been taken
  unfoldable pub body_of : List ℕ → Answer
  body_of s = settled (length s) (reading_of s) (verdict H composed (reading_of s).rows)

  -- the check of a slip
  unfoldable pub check_of : List ℕ → Answer
  check_of s = headed (header_of s) (body_of s)
