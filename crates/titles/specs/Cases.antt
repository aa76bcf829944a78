-- The ● cases of document 01 for titles, by computation. A title is given as its bytes in hexadecimal, as the document has them.
use Rattle.std.specs.Prelude.{◌≡◌, refl, List, [], ◌∷◌, ℕ, ◌≤◌, length}
use Rattle.std.proofs.Common.{arith}
use Rattle.outcomes.specs.Refusals.{not_utf8, outside_repertoire, loose_mark}
use Rattle.nfc.specs.Utf8.{width, encode, encodes, within, low, high, tail, two_bytes, three_bytes, four_bytes, character, front, chars, decode}
use Rattle.nfc.specs.Repertoire.{member, marks, is_mark, plain}
use Rattle.nfc.specs.Pairs.{found, pairs}
use Rattle.nfc.specs.Joining.{joined, clusters, outs, none_bad, accepts, composed}
use Rattle.outcomes.specs.Outcome.{still}
use Rattle.titles.specs.Compose.{text, fault, refusal, answer_from, accepted_with, compose_of}
use Rattle.titles.specs.ComposeLaws.{taken, refused}

-- "45 CC 81 74 65 CC 81"
abbrev pub loose : List ℕ
loose = 0x45 ∷ 0xCC ∷ 0x81 ∷ 0x74 ∷ 0x65 ∷ 0xCC ∷ 0x81 ∷ []

-- "C3 89 74 C3 A9"
abbrev pub whole : List ℕ
whole = 0xC3 ∷ 0x89 ∷ 0x74 ∷ 0xC3 ∷ 0xA9 ∷ []

-- what a title is read as and composes to, with all of it open to computation
computed : List ℕ → List ℕ
unfolding width encode encodes within low high tail two_bytes three_bytes four_bytes character front chars decode member marks is_mark plain found pairs joined clusters outs none_bad accepts composed text fault answer_from
computed title = text title

-- ● "45 CC 81 74 65 CC 81 composes to C3 89 74 C3 A9."
pub loose_composes : (out : List ℕ) → 5 ≤ length out → compose_of loose out ≡ accepted_with whole out
unfolding computed
loose_composes out room = taken loose whole out refl refl refl room

-- ● "The same composed title returns itself."
pub whole_itself : (out : List ℕ) → 5 ≤ length out → compose_of whole out ≡ accepted_with whole out
unfolding computed
whole_itself out room = taken whole whole out refl refl refl room

-- ● "Empty gives empty."
pub empty_empty : (out : List ℕ) → compose_of [] out ≡ accepted_with [] out
unfolding computed
empty_empty out = taken [] [] out refl refl refl (omega arith)

-- ● "CC 81 alone: 20 at 0."
pub mark_alone : (out : List ℕ) → compose_of (0xCC ∷ 0x81 ∷ []) out ≡ still (refusal loose_mark 0) out
unfolding computed
mark_alone out = refused (0xCC ∷ 0x81 ∷ []) (refusal loose_mark 0) out refl refl refl

-- ● "41 CC 88 CC 81: 20 at 3."
pub second_mark : (out : List ℕ) → compose_of (0x41 ∷ 0xCC ∷ 0x88 ∷ 0xCC ∷ 0x81 ∷ []) out ≡ still (refusal loose_mark 3) out
unfolding computed
second_mark out = refused (0x41 ∷ 0xCC ∷ 0x88 ∷ 0xCC ∷ 0x81 ∷ []) (refusal loose_mark 3) out refl refl refl

-- ● "C3: 18 at 0."
pub cut_short_lem : (out : List ℕ) → compose_of (0xC3 ∷ []) out ≡ still (refusal not_utf8 0) out
unfolding computed
cut_short_lem out = refused (0xC3 ∷ []) (refusal not_utf8 0) out refl refl refl

-- ● "7F: 19 at 0."
pub control : (out : List ℕ) → compose_of (0x7F ∷ []) out ≡ still (refusal outside_repertoire 0) out
unfolding computed
control out = refused (0x7F ∷ []) (refusal outside_repertoire 0) out refl refl refl
