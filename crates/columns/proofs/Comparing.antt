-- Laws of one step of a comparison of heads.
use mathlib.Core.Path.{◌≡◌, refl, ap}
use mathlib.Core.Bool.{Bool, true, ◌&&◌, ◌||◌}
use mathlib.Core.List.{List, [], ◌∷◌}
use Prim.Native.Nat.{ℕ, zero, suc, ◌+◌, ◌-◌}
use native.Mathlib.Numerals.{add-one, sub-one}
use native.Mathlib.Omega.{arith}
use lib.Dec.{eqb}
use lib.ListN.{get_or}
use borrow.Author.Tests.{eqb-true}
use Rattle.lists.specs.TestsLaws.{or_cases}
use Rattle.trees.specs.Nodes.{Head}
use Rattle.columns.specs.Columns.{heads_back, same_head, heads_agree, none_left}

-- where a side has no head left, both agree
agree_left : (h : ℕ → Head) (s : List ℕ) (k l e f : ℕ) → e ≡ 0 → heads_agree (heads_back h s k e) (heads_back h s l f) ≡ true
unfolding heads_agree heads_back
agree_left h s zero l e f q = refl
agree_left h s (suc k) l zero f q = refl
agree_left h s (suc k) l (suc e) f q = absurd (omega arith)

agree_nil : (xs : List Head) → heads_agree xs [] ≡ true
unfolding heads_agree
agree_nil [] = refl
agree_nil (x ∷ xs) = refl

agree_right : (h : ℕ → Head) (s : List ℕ) (k l e f : ℕ) → f ≡ 0 → heads_agree (heads_back h s k e) (heads_back h s l f) ≡ true
unfolding heads_back
agree_right h s k zero e f q = agree_nil (heads_back h s k e)
agree_right h s k (suc l) e zero q = agree_nil (heads_back h s k e)
agree_right h s k (suc l) e (suc f) q = absurd (omega arith)

pub agree_none : (h : ℕ → Head) (s : List ℕ) (k e f : ℕ) → k ≡ 0 → heads_agree (heads_back h s k e) (heads_back h s k f) ≡ true
unfolding heads_agree heads_back
agree_none h s zero e f q = refl
agree_none h s (suc k) e f q = absurd (omega arith)

pub agree_over : (h : ℕ → Head) (s : List ℕ) (k e f : ℕ) → none_left k e f ≡ true → heads_agree (heads_back h s k e) (heads_back h s k f) ≡ true
agree_over h s k e f q =
    or_cases (eqb k 0) (eqb e 0 || eqb f 0) q
    (λ p. agree_none h s k e f (eqb-true k 0 p))
    (λ p. or_cases (eqb e 0) (eqb f 0) p (λ o. agree_left h s k k e f (eqb-true e 0 o)) (λ o. agree_right h s k k e f (eqb-true f 0 o)))

-- one head more on each side
pub agree_step : (h : ℕ → Head) (s : List ℕ) (k n e f : ℕ) → k ≡ n + 1 → (e ≡ 0 → ⊥) → (f ≡ 0 → ⊥)
    → heads_agree (heads_back h s k e) (heads_back h s k f)
    ≡ (same_head (h (e - 1)) (h (f - 1)) && heads_agree (heads_back h s n (get_or s (e - 1) 0)) (heads_back h s n (get_or s (f - 1) 0)))
unfolding heads_agree heads_back
agree_step h s k n zero f p q r = absurd (q refl)
agree_step h s k n (suc e) zero p q r = absurd (r refl)
agree_step h s k n (suc e) (suc f) p q r = rw (p, add-one) (simp sub-one)
