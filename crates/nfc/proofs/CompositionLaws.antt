-- Canonical composition of a text that composes gives what it composes to; and a text whose canonical composition is plain composes to that.
use Rattle.std.specs.Prelude.{◌≡◌, refl, true, false, not, ◌&&◌, List, [], ◌∷◌, ◌++◌, ℕ, eqb}
use Rattle.std.proofs.Common.{sym, ◌∙◌, ap, eq-eqb}
use Rattle.lists.specs.TestsLaws.{and_left, and_right, and_both, either, clash, refuted}
use Rattle.nfc.specs.Repertoire.{plain, all_plain}
use Rattle.nfc.specs.Pairs.{pairs}
use Rattle.nfc.specs.Nfc.{class_of, blocked, composite, composing, composed_from}
use Rattle.nfc.specs.Joining.{joined}
use Rattle.nfc.proofs.PairsLaws.{latin, no_letter, joint, composed_told, joinless}
use Rattle.nfc.proofs.MarksLaws.{plain_class}
use Rattle.nfc.proofs.Composition.{Composes, done, stay, join, letter_plain, starts}

-- a composite is a pair's, or one outside U+00C0 to U+00FF
composite_cases :
    (l m : ℕ) (A : Type 0)
    → eqb (composite l m) 0 ≡ false
    → (composite l m ≡ joined l m → A)
    → (plain (composite l m) ≡ false → no_letter (composite l m) ≡ true → A)
    → A
composite_cases l m A n f g =
    let t = composed_told l m n in
    either (latin (composite l m)) (λ i. f (sym (t.within_joined i))) (λ o. g (t.outside_plain o) (t.outside_last o))

composite_joined : (l m w : ℕ) → joined l m ≡ w → eqb w 0 ≡ false → composite l m ≡ w
composite_joined l m w e n = (joint l m (rw e n)).made ∙ e

-- a plain character composes with nothing before it
composite_plain : (l c : ℕ) → plain c ≡ true → eqb (composite l c) 0 ≡ true
composite_plain l c p =
    either (eqb (composite l c) 0) (λ e. e) (λ n. absurd (clash p (composed_told l c n).second))

plain_starter : (c : ℕ) → plain c ≡ true → eqb (class_of c) 0 ≡ true
plain_starter c p = eq-eqb (class_of c) 0 (plain_class c p)

-- one turn of the algorithm
starter_turn : (x c : ℕ) (cs : List ℕ) → plain c ≡ true → composing x [] (c ∷ cs) ≡ x ∷ composing c [] cs
unfolding composing blocked
starter_turn x c cs p = rw (composite_plain x c p, plain_starter c p)

joined_turn : (l m w : ℕ) (cs : List ℕ) → joined l m ≡ w → eqb w 0 ≡ false → composing l [] (m ∷ cs) ≡ composing w [] cs
unfolding composing blocked
joined_turn l m w cs e n = rw (composite_joined l m w e n, n)

pub composing_composes : {cs os : List ℕ} (x : ℕ) → Composes cs os → composing x [] cs ≡ x ∷ os
unfolding composing
composing_composes x done = refl
composing_composes x (stay {c} {cs} p h) =
    starter_turn x c cs p ∙ ap (λ (l : List ℕ). x ∷ l) (composing_composes c h)
composing_composes x (join {l} {m} {w} {cs} e n h) =
    starter_turn x l (m ∷ cs) (letter_plain l m w e n)
    ∙ ap (λ (t : List ℕ). x ∷ t) (joined_turn l m w cs e n ∙ composing_composes w h)

pub from_composes : {cs os : List ℕ} → Composes cs os → composed_from cs ≡ os
unfolding composed_from
from_composes done = refl
from_composes (stay {c} {cs} p h) = rw (plain_starter c p) (composing_composes c h)
from_composes (join {l} {m} {w} {cs} e n h) =
    rw (plain_starter l (letter_plain l m w e n)) (joined_turn l m w cs e n ∙ composing_composes w h)

-- the other way
plain_left : (xs ys : List ℕ) → all_plain (xs ++ ys) ≡ true → all_plain xs ≡ true
unfolding all_plain
plain_left [] ys e = refl
plain_left (x ∷ xs) ys e = and_both _ _ (and_left (plain x) _ e) (plain_left xs ys (and_right (plain x) _ e))

-- what has stayed after a starter stays to the end
kept : (l : ℕ) (k cs : List ℕ) → all_plain (composing l k cs) ≡ true → all_plain k ≡ true
unfolding composing all_plain
kept l k [] e = and_right (plain l) (all_plain k) e
kept l k (c ∷ cs) e =
    either (not (blocked k c) && not (eqb (composite l c) 0))
    (λ t. kept (composite l c) k cs (rw t at e))
    (λ t.
    either (eqb (class_of c) 0)
    (λ s. plain_left k (composing c [] cs) (and_right (plain l) _ (rw (t, s) at e)))
    (λ s. plain_left k (c ∷ []) (kept l (k ++ (c ∷ [])) cs (rw (t, s) at e))))

-- a character of a class above 0 is not plain
class_not_plain : (c : ℕ) → eqb (class_of c) 0 ≡ false → plain c ≡ false
class_not_plain c s = refuted (plain c) (λ p. clash (plain_starter c p) s)

-- no row has it for a letter, so it takes no mark
last_letter : (x m w : ℕ) → no_letter x ≡ true → joined x m ≡ w → eqb w 0 ≡ false → ⊥
unfolding joined
last_letter x m w none e n = clash (eq-eqb w 0 (sym e ∙ joinless x m pairs none)) n

-- a composite that stays plain is a pair's
whole_back :
    (l c : ℕ) (cs os : List ℕ)
    → eqb (composite l c) 0 ≡ false
    → Composes (composite l c ∷ cs) os
    → Composes (l ∷ (c ∷ cs)) os
whole_back l c cs os n h =
    composite_cases l c (Composes (l ∷ (c ∷ cs)) os) n
    (λ e.
    starts (Composes (l ∷ (c ∷ cs)) os) h
    (λ rest q p g. rw q (join (sym e) n g))
    (λ m w ds rest q r j v g. absurd (last_letter (composite l c) m w (rw e (joint l c (rw e at n)).last) j v)))
    (λ outside last.
    starts (Composes (l ∷ (c ∷ cs)) os) h
    (λ rest q p g. absurd (clash p outside))
    (λ m w ds rest q r j v g. absurd (last_letter (composite l c) m w last j v)))

pub composes_composing : (l : ℕ) (cs : List ℕ) → all_plain (composing l [] cs) ≡ true → Composes (l ∷ cs) (composing l [] cs)
unfolding composing blocked all_plain
composes_composing l [] e = stay (and_left (plain l) true e) done
composes_composing l (c ∷ cs) e =
    either (eqb (composite l c) 0)
    (λ z.
    either (eqb (class_of c) 0)
    (λ s.
    let f = rw (z, s) at e in
    rw (z, s) (stay (and_left (plain l) _ f) (composes_composing c cs (and_right (plain l) _ f))))
    (λ s.
    let f = kept l (c ∷ []) cs (rw (z, s) at e) in
    absurd (clash (and_left (plain c) true f) (class_not_plain c s))))
    (λ n. rw n (whole_back l c cs _ n (composes_composing (composite l c) cs (rw n at e))))

pub composes_from : (cs : List ℕ) → all_plain (composed_from cs) ≡ true → Composes cs (composed_from cs)
unfolding composed_from all_plain
composes_from [] e = done
composes_from (c ∷ cs) e =
    either (eqb (class_of c) 0)
    (λ s. rw s (composes_composing c cs (rw s at e)))
    (λ s. absurd (clash (and_left (plain c) _ (rw s at e)) (class_not_plain c s)))
