-- A title's clusters, one at a time, from the bytes at a place.
use Rattle.std.specs.Prelude.{◌≡◌, refl, true, false, List, [], ◌∷◌, ℕ, ◌+◌, ◌≤◌, ◌<◌, ltb, eqb, length, get_or, drop}
use Rattle.std.proofs.Common.{◌∙◌, ap, arith, add-zero, get_or-drop, length-drop, drop_of_length-le, ltb-true, ltb-false, eq-eqb, ne_eqb, eqb-true}
use Rattle.std.proofs.Math.Seq.{drop-drop}
use Rattle.lists.specs.TestsLaws.{either}
use Rattle.nfc.specs.Utf8.{ill, width, character, front, decode}
use Rattle.nfc.specs.Repertoire.{plain, all_plain}
use Rattle.nfc.specs.Joining.{joined, Cluster, bad, one, two, clusters}
use Rattle.nfc.specs.BoundsLaws.{at_least, at_most, width_2, encode_2}
use Rattle.nfc.proofs.DecodingLaws.{decode_next, decode_end, front_fits}
use Rattle.nfc.proofs.SequencesLaws.{front_starts}
use Rattle.nfc.proofs.PairsLaws.{joint}
use Rattle.nfc.proofs.MarksLaws.{mark_within, plain_small}

-- the clusters of a title from byte `at` on
abbrev pub from : List ℕ → ℕ → List Cluster
from s at = clusters (decode (drop at s))

pub plain_not_ill : (c : ℕ) → plain c ≡ true → eqb c ill ≡ false
plain_not_ill c e = ne_eqb c ill (λ q. omega (arith, plain_small c e))

-- a plain character, and what is decoded after it
pub plain_next : (s : List ℕ) → 0 < length s → plain (front s) ≡ true → decode s ≡ front s ∷ decode (drop (width (front s)) s)
plain_next s some e = decode_next s some ∙ rw (plain_not_ill (front s) e)

-- a plain character is all there
pub plain_fits : (s : List ℕ) → 0 < length s → plain (front s) ≡ true → width (front s) ≤ length s
plain_fits s some e = front_fits s some (plain_not_ill (front s) e)

-- what joins a letter is a mark
pub mark_bounds : (l m : ℕ) → eqb (joined l m) 0 ≡ false → (0x300 ≤ m) × (m ≤ 0x33F)
mark_bounds l m some =
    let w = mark_within m (joint l m some).mark in
    (at_least 0x300 0x33F m w, at_most 0x300 0x33F m w)

-- past the end there is no mark
pub front_none : (s : List ℕ) → length s ≤ 0 → front s ≡ 0
unfolding front character
front_none [] p = refl
front_none (b ∷ t) p = absurd (omega arith)

joins_some : (l : ℕ) (s : List ℕ) → eqb (joined l (front s)) 0 ≡ false → 0 < length s
joins_some l s some =
    either (ltb 0 (length s)) (λ p. ltb-true 0 (length s) p)
    (λ p. absurd (omega (arith, (mark_bounds l (front s) some).0, front_none s (ltb-false 0 (length s) p))))

-- a mark's first byte is CC
lead : (b : ℕ) (t : List ℕ) → 0x300 ≤ front (b ∷ t) → front (b ∷ t) ≤ 0x33F → b ≡ 0xCC
lead b t p q =
    let m = front (b ∷ t) in
    let e = (front_starts b t (ne_eqb m ill (λ x. omega arith))).splits in
    let f = rw (encode_2 m (omega arith) (omega arith)) at e in
    omega (arith, ap (λ (l : List ℕ). get_or l 0 0) f)

pub no_mark : (l : ℕ) (s : List ℕ) → (get_or s 0 0 ≡ 0xCC → ⊥) → joined l (front s) ≡ 0
no_mark l [] off = eqb-true _ 0 (either (eqb (joined l (front [])) 0) (λ p. p) (λ p. absurd (omega (arith, joins_some l [] p))))
no_mark l (b ∷ t) off =
    eqb-true _ 0
    (either (eqb (joined l (front (b ∷ t))) 0) (λ p. p)
    (λ p. absurd (off (lead b t (mark_bounds l (front (b ∷ t)) p).0 (mark_bounds l (front (b ∷ t)) p).1))))

pub no_mark_at : (l : ℕ) (s : List ℕ) (at : ℕ) → (get_or s at 0 ≡ 0xCC → ⊥) → joined l (front (drop at s)) ≡ 0
no_mark_at l s at off = no_mark l (drop at s) (λ e. off (rw (get_or-drop, add-zero) at e))

-- what is ill-formed is no mark
pub no_mark_ill : (l m : ℕ) → m ≡ ill → joined l m ≡ 0
no_mark_ill l m e = eqb-true _ 0 (either (eqb (joined l m) 0) (λ p. p) (λ p. absurd (omega (arith, (mark_bounds l m p).1))))

pub clusters_bad : (c : ℕ) (cs : List ℕ) → plain c ≡ false → clusters (c ∷ cs) ≡ bad c ∷ []
unfolding clusters
clusters_bad c [] e = rw e
clusters_bad c (m ∷ cs) e = rw e

clusters_one : (c : ℕ) (s : List ℕ) → plain c ≡ true → eqb (joined c (front s)) 0 ≡ true → clusters (c ∷ decode s) ≡ one c ∷ clusters (decode s)
unfolding clusters
clusters_one c s e none =
    either (ltb 0 (length s))
    (λ p. rw (decode_next s (ltb-true 0 (length s) p), e, none))
    (λ p. rw (decode_end s (ltb-false 0 (length s) p), e))

clusters_two :
    (c : ℕ) (s : List ℕ)
    → plain c ≡ true
    → eqb (joined c (front s)) 0 ≡ false
    → clusters (c ∷ decode s) ≡ two c (front s) ∷ clusters (decode (drop (width (front s)) s))
unfolding clusters
clusters_two c s e some =
    let m = front s in
    let b = mark_bounds c m some in
    let well : eqb m ill ≡ false = ne_eqb m ill (λ x. omega arith) in
    rw (decode_next s (joins_some c s some), well, e, some)

-- the cluster that starts at byte `at`, whose character is c
module _ (s : List ℕ) (at c : ℕ) (more : at < length s) (is : c ≡ front (drop at s)) where
  left : 0 < length (drop at s)
  left = rw (length-drop at s) (omega arith)

  pub bad_at : plain c ≡ false → from s at ≡ bad c ∷ []
  bad_at e = rw (decode_next (drop at s) left, ← is) (clusters_bad c _ e)

  pub not_plain_at : plain c ≡ false → all_plain (decode (drop at s)) ≡ false
  unfolding all_plain
  not_plain_at e = rw (decode_next (drop at s) left, ← is, e)

  module _ (e : plain c ≡ true) where
    pub decoded_at : decode (drop at s) ≡ c ∷ decode (drop (at + width c) s)
    decoded_at = rw is (plain_next (drop at s) left (rw is at e) ∙ rw (drop-drop (width (front (drop at s))) at s))

    pub plain_at : all_plain (decode (drop at s)) ≡ all_plain (decode (drop (at + width c) s))
    unfolding all_plain
    plain_at = rw (decoded_at, e)

    pub next_fits : at + width c ≤ length s
    next_fits = rw is (omega (arith, rw (length-drop at s) at (plain_fits (drop at s) left (rw is at e))))

    pub one_at : joined c (front (drop (at + width c) s)) ≡ 0 → from s at ≡ one c ∷ from s (at + width c)
    one_at none = rw decoded_at (clusters_one c (drop (at + width c) s) e (eq-eqb _ 0 none))

    module _ (m : ℕ) (next : m ≡ front (drop (at + width c) s)) (some : eqb (joined c m) 0 ≡ false) where
      rest : List ℕ
      rest = drop (at + width c) s

      pub mark_width : width m ≡ 2
      mark_width = let b = mark_bounds c m some in width_2 m (omega arith) (omega arith)

      pub mark_fits : (at + width c) + 2 ≤ length s
      unfolding rest
      mark_fits =
          let b = mark_bounds c m some in
          let joins = rw next at some in
          let w = front_fits rest (joins_some c rest joins) (ne_eqb (front rest) ill (λ x. omega (arith, next))) in
          omega (arith, rw (length-drop (at + width c) s, ← next, mark_width) at w)

      pub two_at : from s at ≡ two c m ∷ from s ((at + width c) + 2)
      unfolding rest
      two_at =
          rw decoded_at
          (clusters_two c rest e (rw next at some)
          ∙ rw (← next, mark_width, drop-drop 2 (at + width c) s))

pub all_plain_end : (s : List ℕ) (at : ℕ) → length s ≤ at → all_plain (decode (drop at s)) ≡ true
unfolding all_plain
all_plain_end s at end = rw (drop_of_length-le s end, decode_end [] (omega arith))
