-- Table 3-7 against table 3-6: a well-formed sequence is the encoding of its character, which is a scalar value.
use Rattle.std.specs.Prelude.{◌≡◌, refl, Bool, true, false, cond, ◌&&◌, List, [], ◌∷◌, ◌++◌, ℕ, ◌+◌, ◌*◌, ◌-◌, ◌/◌, ◌≤◌, ◌<◌, ltb, eqb, get_or, drop}
use Rattle.std.proofs.Common.{arith, lt-ltb, le-ltb, le-leb, ltb-true, ltb-false, eqb-true}
use Rattle.std.proofs.lemmas.Bool.{eqb-false}
use Rattle.lists.specs.TestsLaws.{and_left, and_right, either, clash}
use Rattle.nfc.specs.Utf8.{ill, scalar, width, follow, encode, within, low, high, tail, two_bytes, three_bytes, four_bytes, front}
use Rattle.nfc.specs.FrontsLaws.{character_1, character_2, character_3, character_4}
use Rattle.nfc.specs.BoundsLaws.{at_least, at_most, encode_1, encode_2, width_1, width_2}

-- the bounds of the second byte
record Second (a b : ℕ) : Type 0 where
  from : 0x80 ≤ b
  to : b ≤ 0xBF
  after_E0 : a ≡ 0xE0 → 0xA0 ≤ b
  after_F0 : a ≡ 0xF0 → 0x90 ≤ b
  most : b ≤ high a

low_E0 : (a : ℕ) → a ≡ 0xE0 → low a ≡ 0xA0
unfolding low
low_E0 a e = rw e

low_F0 : (a : ℕ) → a ≡ 0xF0 → low a ≡ 0x90
unfolding low
low_F0 a e = rw e

low_least : (a : ℕ) → 0x80 ≤ low a
unfolding low
low_least a =
    either (eqb a 0xE0) (λ e. rw e (omega arith)) λ e. rw e (either (eqb a 0xF0) (λ e'. rw e' (omega arith)) λ e'. rw e' (omega arith))

high_most : (a : ℕ) → high a ≤ 0xBF
unfolding high
high_most a =
    either (eqb a 0xED) (λ e. rw e (omega arith)) λ e. rw e (either (eqb a 0xF4) (λ e'. rw e' (omega arith)) λ e'. rw e' (omega arith))

second : (a b : ℕ) → within (low a) (high a) b ≡ true → Second a b
second a b e =
    let l = at_least (low a) (high a) b e in
    let h = at_most (low a) (high a) b e in
    record {
      from = omega (arith, low_least a);
      to = omega (arith, high_most a);
      after_E0 = λ q. omega (arith, low_E0 a q);
      after_F0 = λ q. omega (arith, low_F0 a q);
      most = h;
    }

-- a sequence that is not ill-formed has passed its tests
passed : (t : Bool) (v : ℕ) → eqb (cond t v ill) ill ≡ false → t ≡ true
passed true v e = refl
passed false v e = absurd (clash refl e)

record Two (a b : ℕ) : Type 0 where
  lead : 0xC2 ≤ a
  last : a ≤ 0xDF
  from : 0x80 ≤ b
  to : b ≤ 0xBF
  value : two_bytes a b ≡ (a - 0xC0) * 0x40 + (b - 0x80)

two : (a b : ℕ) → eqb (two_bytes a b) ill ≡ false → Two a b
unfolding two_bytes tail
two a b e =
    let t = passed (within 0xC2 0xDF a && within 0x80 0xBF b) ((a - 0xC0) * 0x40 + (b - 0x80)) e in
    let p = and_left (within 0xC2 0xDF a) (within 0x80 0xBF b) t in
    let q = and_right (within 0xC2 0xDF a) (within 0x80 0xBF b) t in
    record {
      lead = at_least 0xC2 0xDF a p;
      last = at_most 0xC2 0xDF a p;
      from = at_least 0x80 0xBF b q;
      to = at_most 0x80 0xBF b q;
      value = rw t;
    }

record Three (a b c : ℕ) : Type 0 where
  lead : 0xE0 ≤ a
  last : a ≤ 0xEF
  next : Second a b
  from : 0x80 ≤ c
  to : c ≤ 0xBF
  value : three_bytes a b c ≡ (a - 0xE0) * 0x1000 + (b - 0x80) * 0x40 + (c - 0x80)

three : (a b c : ℕ) → eqb (three_bytes a b c) ill ≡ false → Three a b c
unfolding three_bytes tail
three a b c e =
    let A = within 0xE0 0xEF a in
    let B = within (low a) (high a) b in
    let C = within 0x80 0xBF c in
    let t = passed (A && (B && C)) ((a - 0xE0) * 0x1000 + (b - 0x80) * 0x40 + (c - 0x80)) e in
    let r = and_right A (B && C) t in
    record {
      lead = at_least 0xE0 0xEF a (and_left A (B && C) t);
      last = at_most 0xE0 0xEF a (and_left A (B && C) t);
      next = second a b (and_left B C r);
      from = at_least 0x80 0xBF c (and_right B C r);
      to = at_most 0x80 0xBF c (and_right B C r);
      value = rw t;
    }

record Four (a b c d : ℕ) : Type 0 where
  lead : 0xF0 ≤ a
  last : a ≤ 0xF4
  next : Second a b
  from : 0x80 ≤ c
  to : c ≤ 0xBF
  from' : 0x80 ≤ d
  to' : d ≤ 0xBF
  value : four_bytes a b c d ≡ (a - 0xF0) * 0x40000 + (b - 0x80) * 0x1000 + (c - 0x80) * 0x40 + (d - 0x80)

four : (a b c d : ℕ) → eqb (four_bytes a b c d) ill ≡ false → Four a b c d
unfolding four_bytes tail
four a b c d e =
    let A = within 0xF0 0xF4 a in
    let B = within (low a) (high a) b in
    let C = within 0x80 0xBF c in
    let D = within 0x80 0xBF d in
    let t = passed (A && (B && (C && D))) ((a - 0xF0) * 0x40000 + (b - 0x80) * 0x1000 + (c - 0x80) * 0x40 + (d - 0x80)) e in
    let r = and_right A (B && (C && D)) t in
    let q = and_right B (C && D) r in
    record {
      lead = at_least 0xF0 0xF4 a (and_left A (B && (C && D)) t);
      last = at_most 0xF0 0xF4 a (and_left A (B && (C && D)) t);
      next = second a b (and_left B (C && D) r);
      from = at_least 0x80 0xBF c (and_left C D q);
      to = at_most 0x80 0xBF c (and_left C D q);
      from' = at_least 0x80 0xBF d (and_right C D q);
      to' = at_most 0x80 0xBF d (and_right C D q);
      value = rw t;
    }

-- some bytes start with those of the scalar value v
pub record Starts (v : ℕ) (s : List ℕ) : Type 0 where
  pub is : scalar v ≡ true
  pub splits : encode v ++ drop (width v) s ≡ s

-- D76: what lies below the surrogates, and what lies above them
low_scalar : (v : ℕ) → v < 0xD800 → scalar v ≡ true
unfolding scalar
low_scalar v p = rw (lt-ltb v 0xD800 p)

high_scalar : (v : ℕ) → 0xE000 ≤ v → v < ill → scalar v ≡ true
unfolding scalar
high_scalar v p q = rw (le-ltb v 0xD800 (omega arith), le-leb 0xE000 v p, lt-ltb v ill q)

starts_1 : (a : ℕ) (r : List ℕ) → a < 0x80 → Starts a (a ∷ r)
starts_1 a r p = record { is = low_scalar a (omega arith); splits = rw (encode_1 a p, width_1 a p) }

starts_2 : (a b : ℕ) (r : List ℕ) → Two a b → Starts (two_bytes a b) (a ∷ b ∷ r)
starts_2 a b r w =
    let v = (a - 0xC0) * 0x40 + (b - 0x80) in
    let p : 0x80 ≤ v = omega (arith, w.lead, w.from) in
    let q : v < 0x800 = omega (arith, w.last, w.to) in
    let ea : 0xC0 + v / 0x40 ≡ a = omega (arith, w.lead, w.from, w.to) in
    let eb : follow v ≡ b = omega (arith, w.lead, w.from, w.to) in
    record { is = rw w.value (low_scalar v (omega arith)); splits = rw (w.value, encode_2 v p q, width_2 v p q, ea, eb) }

-- no surrogate: ED leads nothing from U+D800 on
scalar_3 : (a b c : ℕ) → Three a b c → scalar ((a - 0xE0) * 0x1000 + (b - 0x80) * 0x40 + (c - 0x80)) ≡ true
unfolding high
scalar_3 a b c w =
    let v = (a - 0xE0) * 0x1000 + (b - 0x80) * 0x40 + (c - 0x80) in
    let n = w.next in
    either (ltb v 0xD800) (λ p. low_scalar v (ltb-true v 0xD800 p)) λ p.
    let above = ltb-false v 0xD800 p in
    either (eqb a 0xED)
    (λ e. let most = rw (eqb-true a 0xED e) at n.most in absurd (omega (arith, eqb-true a 0xED e, n.from, w.to)))
    (λ e. high_scalar v (omega (arith, eqb-false a 0xED e, w.lead, n.to, w.to)) (omega (arith, w.last, n.to, w.to)))

starts_3 : (a b c : ℕ) (r : List ℕ) → Three a b c → Starts (three_bytes a b c) (a ∷ b ∷ c ∷ r)
unfolding encode width
starts_3 a b c r w =
    let v = (a - 0xE0) * 0x1000 + (b - 0x80) * 0x40 + (c - 0x80) in
    let n = w.next in
    let p : 0x800 ≤ v =
    either (eqb a 0xE0) (λ e. omega (arith, n.after_E0 (eqb-true a 0xE0 e))) λ e. omega (arith, eqb-false a 0xE0 e)
    in
    let q : v < 0x10000 = omega (arith, w.last, n.to, w.to) in
    let ea : 0xE0 + v / 0x1000 ≡ a = omega (arith, w.lead, n.from, n.to, w.from, w.to) in
    let h : v / 0x40 ≡ (a - 0xE0) * 0x40 + (b - 0x80) = omega (arith, w.lead, n.from, w.from, w.to) in
    let eb : follow (v / 0x40) ≡ b = rw h (omega (arith, n.from, n.to)) in
    let ec : follow v ≡ c = omega (arith, w.from, w.to) in
    record {
      is = rw w.value (scalar_3 a b c w);
      splits = rw (w.value, le-ltb v 0x80 (omega arith), le-ltb v 0x800 p, lt-ltb v 0x10000 q, ea, eb, ec);
    }

-- nothing above U+10FFFF: F4 leads nothing beyond it
most_4 : (a b c d : ℕ) → Four a b c d → (a - 0xF0) * 0x40000 + (b - 0x80) * 0x1000 + (c - 0x80) * 0x40 + (d - 0x80) < ill
unfolding high
most_4 a b c d w =
    let n = w.next in
    either (eqb a 0xF4)
    (λ e. let most = rw (eqb-true a 0xF4 e) at n.most in omega (arith, eqb-true a 0xF4 e, w.to, w.to'))
    (λ e. omega (arith, eqb-false a 0xF4 e, w.last, n.to, w.to, w.to'))

starts_4 : (a b c d : ℕ) (r : List ℕ) → Four a b c d → Starts (four_bytes a b c d) (a ∷ b ∷ c ∷ d ∷ r)
unfolding encode width
starts_4 a b c d r w =
    let v = (a - 0xF0) * 0x40000 + (b - 0x80) * 0x1000 + (c - 0x80) * 0x40 + (d - 0x80) in
    let n = w.next in
    let p : 0x10000 ≤ v =
    either (eqb a 0xF0) (λ e. omega (arith, n.after_F0 (eqb-true a 0xF0 e))) λ e. omega (arith, eqb-false a 0xF0 e)
    in
    let ea : 0xF0 + v / 0x40000 ≡ a = omega arith in
    let g : v / 0x1000 ≡ (a - 0xF0) * 0x40 + (b - 0x80) = omega arith in
    let h : v / 0x40 ≡ (a - 0xF0) * 0x1000 + (b - 0x80) * 0x40 + (c - 0x80) = omega arith in
    let eb : follow (v / 0x1000) ≡ b = rw g (omega arith) in
    let ec : follow (v / 0x40) ≡ c = rw h (omega arith) in
    let ed : follow v ≡ d = omega arith in
    record {
      is = rw w.value (high_scalar v (omega arith) (most_4 a b c d w));
      splits = rw (w.value, le-ltb v 0x80 (omega arith), le-ltb v 0x800 (omega arith), le-ltb v 0x10000 p, ea, eb, ec, ed);
    }

-- by the first byte; a byte that is missing reads as 0 and follows nothing
by_two : (a : ℕ) (t : List ℕ) → 0x80 ≤ a → a < 0xE0 → eqb (front (a ∷ t)) ill ≡ false → Starts (front (a ∷ t)) (a ∷ t)
unfolding front
by_two a [] p q e = absurd (omega (arith, two a 0 (rw (character_2 a 0 0 0 p q) at e)))
by_two a (b ∷ r) p q e =
    let same = character_2 a b (get_or r 0 0) (get_or r 1 0) p q in
    rw same (starts_2 a b r (two a b (rw same at e)))

by_three : (a : ℕ) (t : List ℕ) → 0xE0 ≤ a → a < 0xF0 → eqb (front (a ∷ t)) ill ≡ false → Starts (front (a ∷ t)) (a ∷ t)
unfolding front
by_three a [] p q e = absurd (omega (arith, (three a 0 0 (rw (character_3 a 0 0 0 p q) at e)).from))
by_three a (b ∷ []) p q e = absurd (omega (arith, (three a b 0 (rw (character_3 a b 0 0 p q) at e)).from))
by_three a (b ∷ (c ∷ r)) p q e =
    let same = character_3 a b c (get_or r 0 0) p q in
    rw same (starts_3 a b c r (three a b c (rw same at e)))

by_four : (a : ℕ) (t : List ℕ) → 0xF0 ≤ a → eqb (front (a ∷ t)) ill ≡ false → Starts (front (a ∷ t)) (a ∷ t)
unfolding front
by_four a [] p e = absurd (omega (arith, (four a 0 0 0 (rw (character_4 a 0 0 0 p) at e)).from))
by_four a (b ∷ []) p e = absurd (omega (arith, (four a b 0 0 (rw (character_4 a b 0 0 p) at e)).from))
by_four a (b ∷ (c ∷ [])) p e = absurd (omega (arith, (four a b c 0 (rw (character_4 a b c 0 p) at e)).from'))
by_four a (b ∷ (c ∷ (d ∷ r))) p e =
    let same = character_4 a b c d p in
    rw same (starts_4 a b c d r (four a b c d (rw same at e)))

by_one : (a : ℕ) (t : List ℕ) → a < 0x80 → Starts (front (a ∷ t)) (a ∷ t)
unfolding front
by_one a t p = rw (character_1 a (get_or t 0 0) (get_or t 1 0) (get_or t 2 0) p) (starts_1 a t p)

-- a well-formed sequence is the encoding of its character, a scalar value
pub front_starts : (a : ℕ) (t : List ℕ) → eqb (front (a ∷ t)) ill ≡ false → Starts (front (a ∷ t)) (a ∷ t)
front_starts a t e =
    either (ltb a 0x80) (λ p. by_one a t (ltb-true a 0x80 p)) λ p.
    either (ltb a 0xE0) (λ q. by_two a t (ltb-false a 0x80 p) (ltb-true a 0xE0 q) e) λ q.
    either (ltb a 0xF0) (λ r. by_three a t (ltb-false a 0xE0 q) (ltb-true a 0xF0 r) e) λ r.
    by_four a t (ltb-false a 0xF0 r) e
