-- "The ● cases form a single proved table": each line of document 01's list with a ●.
use Rattle.std.specs.Prelude.{ℕ, ◌≤◌, Bool, List, [], ◌∷◌, ◌≡◌, refl, length, replicate}
use Rattle.bits.specs.Bits.{bits_in, bits_of, num_of, octets, packed}
use Rattle.trees.specs.Rows.{node, tip}
use Rattle.outcomes.specs.Refusals.{cut_short, other_edition, no_nodes, bad_padding, not_utf8, outside_repertoire, loose_mark}
use Rattle.codec.specs.Reading.{read_value, read_leaf, read_rest, read_one, read_all}
use Rattle.codec.specs.Writing.{leaf_bits, entry_bits, all_bits, slip_bits, slip_of}
use Rattle.outcomes.specs.Outcome.{still}
use Rattle.titles.specs.Compose.{compose_of, refusal, accepted_with}
use Rattle.titles.specs.Cases.{loose, whole, loose_composes, whole_itself, empty_empty, mark_alone, second_mark, cut_short_lem, control}
use Rattle.answers.specs.Answers.{refused, taken, clashed}
use Rattle.slips.specs.Check.{padding_fits, settled, header_of, body_of, check_of}
use Rattle.slips.specs.Cases.{bare, bare_accepted, bare_padding_set, bare_cut, no_nodes_lem, other_edition_lem, no_bytes}
use Rattle.join_tables.specs.Joined.{joined_of}
use Rattle.join.specs.Join.{join_of}
use Rattle.trees.specs.Examples.{length_label}

-- a line of the list
pub data Line : Type 0 where
  composes : List ℕ → List ℕ → Line
  untitled : List ℕ → ℕ → ℕ → Line
  accepts : List ℕ → ℕ → List ℕ → Line
  refuses : List ℕ → ℕ → ℕ → Line
  clashing : List ℕ → List ℕ → ℕ → ℕ → Line

-- what it says: a title composes to bytes wherever they have room, or is refused with a number at a place; a slip is accepted with blocks
-- and a label, or refused, whatever the label function; two slips clash at two entries under "a label of 32 copies of prelabel length
-- modulo 256"
abbrev pub Says : Line → Type 0
Says (composes title bytes) = (out : List ℕ) → length bytes ≤ length out → compose_of title out ≡ accepted_with bytes out
Says (untitled title k p) = (out : List ℕ) → compose_of title out ≡ still (refusal k p) out
Says (accepts slip b l) = (H : List ℕ → List ℕ) (composed : List ℕ → Bool) → check_of H composed slip ≡ taken (length slip) b l
Says (refuses slip k p) = (H : List ℕ → List ℕ) (composed : List ℕ → Bool) → check_of H composed slip ≡ refused k p
Says (clashing s u i j) = (composed : List ℕ → Bool) (out : List ℕ) → join_of length_label composed s u out ≡ still (clashed i j) out

abbrev pub All : List Line → Type 0
All [] = Unit {0}
All (x ∷ xs) = Says x × All xs

-- "two roots, each a salt of 32 bytes and one raw value of type 600"
abbrev pub root : ℕ → List ℕ
root value = slip_of (tip 1 (replicate 32 7) ∷ tip 600 (value ∷ []) ∷ node 2 ∷ [])

abbrev pub marked : List Line
marked =
    composes loose whole ∷
    composes whole whole ∷
    composes [] [] ∷
    untitled (0xCC ∷ 0x81 ∷ []) loose_mark 0 ∷
    untitled (0x41 ∷ 0xCC ∷ 0x88 ∷ 0xCC ∷ 0x81 ∷ []) loose_mark 3 ∷
    untitled (0xC3 ∷ []) not_utf8 0 ∷
    untitled (0x7F ∷ []) outside_repertoire 0 ∷
    accepts (bare (0xE0 ∷ [])) 0 (replicate 32 0xFF) ∷
    refuses (bare (0xE1 ∷ [])) bad_padding 0 ∷
    refuses (bare []) cut_short 0 ∷
    refuses (0x04 ∷ 0x00 ∷ []) no_nodes 0 ∷
    refuses (0x08 ∷ 0x01 ∷ []) other_edition 0 ∷
    refuses [] cut_short 0 ∷
    clashing (root 0x00) (root 0x01) 2 2 ∷
    []

roots_clash : Says (clashing (root 0x00) (root 0x01) 2 2)
unfolding bits_in bits_of num_of octets packed read_value read_leaf read_rest read_one read_all leaf_bits entry_bits all_bits slip_bits slip_of padding_fits settled header_of body_of check_of joined_of join_of
roots_clash composed out = refl

pub all_marked : All marked
all_marked = (loose_composes, (whole_itself, (λ out h. empty_empty out, (mark_alone, (second_mark, (cut_short_lem, (control, (bare_accepted, (bare_padding_set, (bare_cut, (no_nodes_lem, (other_edition_lem, (no_bytes, (roots_clash, tt))))))))))))))
