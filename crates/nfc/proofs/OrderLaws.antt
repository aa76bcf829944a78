-- A text in which no two characters of a class above 0 stand together is in canonical order; and if the ordered text is such a text, nothing was moved.
use Rattle.std.specs.Prelude.{◌≡◌, Bool, true, false, not, ◌&&◌, List, [], ◌∷◌, ℕ, ltb}
use Rattle.std.proofs.Math.Path.{refl}
use Rattle.std.proofs.Common.{◌∙◌, ap, arith, lt-ltb, ltb-true}
use Rattle.lists.specs.TestsLaws.{and_left, and_right, either, clash}
use Rattle.nfc.specs.Repertoire.{plain}
use Rattle.nfc.specs.Nfc.{class_of, reorderable, moved, ordered}
use Rattle.nfc.proofs.MarksLaws.{plain_class}
use Rattle.nfc.proofs.Composition.{Composes, done, stay, join, letter_plain}

-- a character of a class above 0, which a starter has not
unfoldable pub classed : ℕ → Bool
classed c = ltb 0 (class_of c)

-- no two characters of a class above 0 stand together
unfoldable pub apart : List ℕ → Bool
apart [] = true
apart (a ∷ []) = true
apart (a ∷ (b ∷ xs)) = not (classed a && classed b) && apart (b ∷ xs)

first_classed : (a b : ℕ) → reorderable a b ≡ true → classed a ≡ true
unfolding reorderable classed
first_classed a b e = lt-ltb 0 (class_of a) (omega (arith, ltb-true (class_of b) (class_of a) (and_left _ (ltb 0 (class_of b)) e)))

second_classed : (a b : ℕ) → reorderable a b ≡ true → classed b ≡ true
unfolding reorderable classed
second_classed a b e = and_right (ltb (class_of b) (class_of a)) _ e

plain_unclassed : (c : ℕ) → plain c ≡ true → classed c ≡ false
unfolding classed
plain_unclassed c p = rw (plain_class c p)

-- what is moved behind another leaves two such characters together
not_apart : (a b : ℕ) (xs : List ℕ) → classed a ≡ true → classed b ≡ true → apart (b ∷ moved a xs) ≡ true → ⊥
unfolding apart moved
not_apart a b [] p q e = clash e (rw (p, q))
not_apart a b (x ∷ xs) p q e =
    either (reorderable a x)
    (λ r. clash (rw r at e) (rw (q, second_classed a x r)))
    (λ r. clash (rw r at e) (rw (q, p)))

moved_none : (a : ℕ) (xs : List ℕ) → apart (moved a xs) ≡ true → moved a xs ≡ a ∷ xs
unfolding moved
moved_none a [] e = refl
moved_none a (b ∷ xs) e =
    either (reorderable a b)
    (λ r. absurd (not_apart a b xs (first_classed a b r) (second_classed a b r) (rw r at e)))
    (λ r. rw r)

apart_tail : (a : ℕ) (xs : List ℕ) → apart (a ∷ xs) ≡ true → apart xs ≡ true
unfolding apart
apart_tail a [] e = refl
apart_tail a (b ∷ xs) e = and_right (not (classed a && classed b)) (apart (b ∷ xs)) e

pub ordered_same : (xs : List ℕ) → apart (ordered xs) ≡ true → ordered xs ≡ xs
unfolding ordered
ordered_same [] e = refl
ordered_same (a ∷ xs) e =
    let q = moved_none a (ordered xs) e in
    q ∙ ap (λ (l : List ℕ). a ∷ l) (ordered_same xs (apart_tail a (ordered xs) (rw q at e)))

-- in a text that composes no two such characters stand together
after_plain : (c : ℕ) (cs : List ℕ) → plain c ≡ true → apart cs ≡ true → apart (c ∷ cs) ≡ true
unfolding apart
after_plain c [] p e = refl
after_plain c (b ∷ xs) p e = rw (plain_unclassed c p, e)

before_plain : (m c : ℕ) (cs : List ℕ) → plain c ≡ true → apart (c ∷ cs) ≡ true → apart (m ∷ (c ∷ cs)) ≡ true
unfolding apart
before_plain m c cs p e = rw (plain_unclassed c p, e) (either (classed m) (λ q. rw q) (λ q. rw q))

after_mark : {cs os : List ℕ} (m : ℕ) → Composes cs os → apart cs ≡ true → apart (m ∷ cs) ≡ true
after_mark m done e = unfold apart in refl
after_mark m (stay {c} {cs} p h) e = before_plain m c cs p e
after_mark m (join {l} {m = m'} {w} {cs} j n h) e = before_plain m l (m' ∷ cs) (letter_plain l m' w j n) e

pub composes_apart : {cs os : List ℕ} → Composes cs os → apart cs ≡ true
unfolding apart
composes_apart done = refl
composes_apart (stay {c} {cs} p h) = after_plain c cs p (composes_apart h)
composes_apart (join {l} {m} {w} {cs} e n h) =
    after_plain l (m ∷ cs) (letter_plain l m w e n) (after_mark m h (composes_apart h))

-- such a text is in canonical order
moved_apart : (a : ℕ) (xs : List ℕ) → apart (a ∷ xs) ≡ true → moved a xs ≡ a ∷ xs
unfolding apart moved
moved_apart a [] e = refl
moved_apart a (b ∷ xs) e =
    either (reorderable a b)
    (λ r. absurd (clash e (rw (first_classed a b r, second_classed a b r))))
    (λ r. rw r)

pub apart_ordered : (xs : List ℕ) → apart xs ≡ true → ordered xs ≡ xs
unfolding ordered
apart_ordered [] e = refl
apart_ordered (a ∷ xs) e = rw (apart_ordered xs (apart_tail a xs e)) (moved_apart a xs e)
