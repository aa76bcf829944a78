-- What is read is a scalar value, and std's encoding is that of table 3-6.
use Rattle.std.proofs.Common.{◌≡◌, refl, false, Option, None, Some, List, [], ◌∷◌, ℕ, ◌<◌, ◌≤◌, ◌+◌, ◌/◌, ◌++◌, length, drop, slice_set, arith, get_or, ltb, lt-ltb, eqb, eqb-true, ◌∙◌}
use Rattle.std.specs.Option.{SomeIff}
use Rattle.std.specs.Char.{IsScalar, len_utf8}
use lib.Utf8.{scalar as scalar_value, encode as encode_utf8}
use Rattle.lists.specs.TestsLaws.{either}
use Rattle.nfc.specs.Utf8.{ill, scalar, width, follow, encode, front, character}
use Rattle.nfc.specs.BoundsLaws.{width_1, width_2, encode_1, encode_2}
use Rattle.nfc.proofs.SequencesLaws.{front_starts}
use Rattle.utf8.specs.Clauses.{Reads}

same_scalar : (c : ℕ) → scalar c ≡ scalar_value c
unfolding scalar
same_scalar c = either (ltb c 0xD800) (λ p. rw p) (λ p. rw p)

front_scalar : (s : List ℕ) → eqb (front s) ill ≡ false → IsScalar (front s)
unfolding front character
front_scalar [] well = refl
front_scalar (a ∷ t) well = rw (← same_scalar (front (a ∷ t))) (front_starts a t well).is

pub front_bytes :
    (s : List ℕ) (a b c d : ℕ)
    → a ≡ get_or s 0 0
    → b ≡ get_or s 1 0
    → c ≡ get_or s 2 0
    → d ≡ get_or s 3 0
    → character a b c d ≡ front s
unfolding front
front_bytes s a b c d ea eb ec ed = rw (ea, eb, ec, ed)

-- a first byte below E0 leads no third
pub front_short : (s : List ℕ) (a b : ℕ) → a ≡ get_or s 0 0 → b ≡ get_or s 1 0 → a < 0xE0 → character a b 0 0 ≡ front s
unfolding front character
front_short s a b ea eb small = rw (← ea, ← eb, lt-ltb a 0xE0 small)

-- so `from_u32` refuses what stands for an ill-formed sequence, and nothing else
pub front_read : (s : List ℕ) (v : ℕ) (r : Option ℕ) → v ≡ front s → SomeIff r (IsScalar v) v → Reads (front s) r
front_read s v None e h =
    either (eqb (front s) ill) (λ p. eqb-true (front s) ill p) (λ p. absurd (h (rw e (front_scalar s p))))
front_read s v (Some x) e h = h.1 ∙ e

pub same_width : (c : ℕ) → width c ≡ len_utf8 c
unfolding width
same_width c = refl

pub same_encode : (c : ℕ) → encode c ≡ encode_utf8 c
unfolding encode encode_utf8
same_encode c = refl

pub ascii_put : (c : ℕ) (t : List ℕ) → c < 0x80 → width c ≤ length t → (1 ≡ width c) × (slice_set t 0 c ≡ encode c ++ drop 1 t)
ascii_put c [] small room = absurd (omega (arith, width_1 c small))
ascii_put c (x ∷ t) small room = rw (width_1 c small, encode_1 c small) (refl, refl)

pub pair_put :
    (c : ℕ) (t : List ℕ)
    → 0x80 ≤ c
    → c < 0x800
    → width c ≤ length t
    → (2 ≡ width c) × (slice_set (slice_set t 0 (0xC0 + c / 0x40)) 1 (follow c) ≡ encode c ++ drop 2 t)
pair_put c [] large small room = absurd (omega (arith, width_2 c large small))
pair_put c (x ∷ []) large small room = absurd (omega (arith, width_2 c large small))
pair_put c (x ∷ (y ∷ t)) large small room = rw (width_2 c large small, encode_2 c large small) (refl, refl)
