-- Table 3-6 against table 3-7: the encoding of a scalar value is well-formed, and stands for that value.
use Rattle.std.specs.Prelude.{◌≡◌, true, List, ◌++◌, ℕ, ◌+◌, ◌*◌, ◌-◌, ◌/◌, ◌%◌, ◌≤◌, ◌<◌, ltb, leb, eqb, get_or}
use Rattle.std.proofs.Common.{arith, lt-ltb, le-ltb, ltb-true, ltb-false, leb-true, eqb-true}
use Rattle.lists.specs.TestsLaws.{and_left, and_right, either}
use Rattle.nfc.specs.Utf8.{ill, scalar, follow, encode, low, high, tail, two_bytes, three_bytes, four_bytes, front}
use Rattle.nfc.specs.BoundsLaws.{inside, encode_1, encode_2}
use Rattle.nfc.specs.FrontsLaws.{character_1, character_2, character_3, character_4}

-- the second byte passes its test
module _ (a b : ℕ) (from : 0x80 ≤ b) (to : b ≤ 0xBF) where
  low_passes : (a ≡ 0xE0 → 0xA0 ≤ b) → (a ≡ 0xF0 → 0x90 ≤ b) → low a ≤ b
  unfolding low
  low_passes after_E0 after_F0 =
      either (eqb a 0xE0) (λ e. rw e (after_E0 (eqb-true a 0xE0 e))) λ e.
      rw e (either (eqb a 0xF0) (λ q. rw q (after_F0 (eqb-true a 0xF0 q))) λ q. rw q from)

  high_passes : (a ≡ 0xED → b ≤ 0x9F) → (a ≡ 0xF4 → b ≤ 0x8F) → b ≤ high a
  unfolding high
  high_passes after-ED after-F4 =
      either (eqb a 0xED) (λ e. rw e (omega (arith, after-ED (eqb-true a 0xED e)))) λ e.
      rw e (either (eqb a 0xF4) (λ q. rw q (omega (arith, after-F4 (eqb-true a 0xF4 q)))) λ q. rw q to)

follows : (c : ℕ) → tail (follow c) ≡ true
unfolding tail
follows c = inside 0x80 0xBF (follow c) (omega arith) (omega arith)

-- a surrogate is no scalar value
pub no_surrogate : (c : ℕ) → scalar c ≡ true → 0xD800 ≤ c → 0xE000 ≤ c
unfolding scalar
no_surrogate c e h = leb-true 0xE000 c (and_left (leb 0xE000 c) (ltb c ill) (rw (le-ltb c 0xD800 h) at e))

pub scalar_below : (c : ℕ) → scalar c ≡ true → c < ill
unfolding scalar
scalar_below c e =
    either (ltb c 0xD800) (λ p. omega (arith, ltb-true c 0xD800 p)) λ p.
    ltb-true c ill (and_right (leb 0xE000 c) (ltb c ill) (rw p at e))

one : (c : ℕ) (r : List ℕ) → c < 0x80 → front (encode c ++ r) ≡ c
unfolding front
one c r p = rw (encode_1 c p) (character_1 c (get_or r 0 0) (get_or r 1 0) (get_or r 2 0) p)

two : (c : ℕ) (r : List ℕ) → 0x80 ≤ c → c < 0x800 → front (encode c ++ r) ≡ c
unfolding front two_bytes
two c r p q =
    let a = 0xC0 + c / 0x40 in
    rw (
      encode_2 c p q,
      character_2 a (follow c) (get_or r 0 0) (get_or r 1 0) (omega arith) (omega arith),
      inside 0xC2 0xDF a (omega arith) (omega arith),
      follows c,
    )
    (omega arith)

three : (c : ℕ) (r : List ℕ) → scalar c ≡ true → 0x800 ≤ c → c < 0x10000 → front (encode c ++ r) ≡ c
unfolding front encode three_bytes
three c r s p q =
    let a = 0xE0 + c / 0x1000 in
    let b = follow (c / 0x40) in
    let l : low a ≤ b = low_passes a b (omega arith) (omega arith) (λ e. omega arith) (λ e. omega arith) in
    let h : b ≤ high a = high_passes a b (omega arith) (omega arith) (λ e. either (ltb c 0xD800) (λ u. omega (arith, ltb-true c 0xD800 u)) λ u. omega (arith, no_surrogate c s (ltb-false c 0xD800 u))) (λ e. omega arith) in
    rw (
      le-ltb c 0x80 (omega arith),
      le-ltb c 0x800 p,
      lt-ltb c 0x10000 q,
      character_3 a b (follow c) (get_or r 0 0) (omega arith) (omega arith),
      inside 0xE0 0xEF a (omega arith) (omega arith),
      inside (low a) (high a) b l h,
      follows c,
    )
    (omega arith)

-- six bits at a time
sums :
    (c x y z d e f : ℕ)
    → c ≡ x * 0x40 + f
    → x ≡ y * 0x40 + e
    → y ≡ z * 0x40 + d
    → ((0xF0 + z) - 0xF0) * 0x40000 + ((0x80 + d) - 0x80) * 0x1000 + ((0x80 + e) - 0x80) * 0x40 + ((0x80 + f) - 0x80) ≡ c
sums c x y z d e f p q r = omega arith

four : (c : ℕ) (r : List ℕ) → 0x10000 ≤ c → c < ill → front (encode c ++ r) ≡ c
unfolding front encode four_bytes
four c r p q =
    let a = 0xF0 + c / 0x40000 in
    let b = follow (c / 0x1000) in
    let l : low a ≤ b = low_passes a b (omega arith) (omega arith) (λ e. omega arith) (λ e. omega arith) in
    let h : b ≤ high a = high_passes a b (omega arith) (omega arith) (λ e. omega arith) (λ e. omega arith) in
    rw (
      le-ltb c 0x80 (omega arith),
      le-ltb c 0x800 (omega arith),
      le-ltb c 0x10000 p,
      character_4 a b (follow (c / 0x40)) (follow c) (omega arith),
      inside 0xF0 0xF4 a (omega arith) (omega arith),
      inside (low a) (high a) b l h,
      follows (c / 0x40),
      follows c,
    )
    (let x : c ≡ (c / 0x40) * 0x40 + c % 0x40 = omega arith in
    let y : c / 0x40 ≡ (c / 0x1000) * 0x40 + c / 0x40 % 0x40 = omega arith in
    let z : c / 0x1000 ≡ (c / 0x40000) * 0x40 + c / 0x1000 % 0x40 = omega arith in
    sums c (c / 0x40) (c / 0x1000) (c / 0x40000) (c / 0x1000 % 0x40) (c / 0x40 % 0x40) (c % 0x40) x y z)

-- the character at the front of a scalar value's bytes is that value
pub front_encode : (c : ℕ) (r : List ℕ) → scalar c ≡ true → front (encode c ++ r) ≡ c
front_encode c r s =
    either (ltb c 0x80) (λ p. one c r (ltb-true c 0x80 p)) λ p.
    either (ltb c 0x800) (λ q. two c r (ltb-false c 0x80 p) (ltb-true c 0x800 q)) λ q.
    either (ltb c 0x10000) (λ t. three c r s (ltb-false c 0x800 q) (ltb-true c 0x10000 t)) λ t.
    four c r (ltb-false c 0x10000 t) (scalar_below c s)
