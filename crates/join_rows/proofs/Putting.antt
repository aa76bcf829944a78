-- Laws of a plan that is filled from its end.
use mathlib.Core.Path.{◌≡◌, refl, sym, ap, ap₂, ◌∙◌}
use mathlib.Core.List.{List, ◌∷◌, ◌++◌}
use Prim.Native.Nat.{ℕ, zero, suc, ◌-◌, ◌≤◌, ◌<◌}
use native.Mathlib.Numerals.{sub-one}
use native.Mathlib.Omega.{arith}
use lib.ListN.{length, drop, set, length-set}
use lib.Seq.{drop-cons, get_or-set_same, drop-set-lt}
use Rattle.lists.specs.Lists.{upto}

drop_set_here : (l : List ℕ) (j v : ℕ) → j < length l → drop j (set l j v) ≡ v ∷ drop (suc j) l
drop_set_here l j v h =
    drop-cons (set l j v) j 0 (omega (arith, length-set l j v))
    ∙ ap₂ (λ (x : ℕ) (y : List ℕ). x ∷ y) (get_or-set_same l j v 0 h) (drop-set-lt (suc j) l j v (omega arith))

-- one row more in front
pub put_more : (l m : List ℕ) (low row to at : ℕ) → (low ≡ 0 → ⊥) → 0 < row → row ≤ to → low ≤ length l
    → drop low l ≡ upto row (to - row) ++ drop at m
    → drop (low - 1) (set l (low - 1) (row - 1)) ≡ upto (row - 1) (to - (row - 1)) ++ drop at m
put_more l m zero row to at q h k g e = absurd (q refl)
put_more l m (suc low) zero to at q h k g e = absurd (omega arith)
put_more l m (suc low) (suc row) to at q h k g e =
    let n : to - row ≡ suc (to - suc row) = omega arith in
    rw (sub-one, sub-one) (drop_set_here l low row (omega arith) ∙ ap (λ (x : List ℕ). row ∷ x) e ∙ ap (λ (x : ℕ). upto row x ++ drop at m) (sym n))
