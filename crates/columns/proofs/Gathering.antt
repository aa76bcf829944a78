-- Laws of one row more of a plan.
use mathlib.Core.Path.{◌≡◌, sym, ap, ◌∙◌}
use mathlib.Core.List.{List, [], ◌∷◌, ◌++◌, map, append_assoc, append-nil}
use Prim.Native.Nat.{ℕ, ◌+◌, ◌-◌, ◌≤◌, ◌<◌}
use native.Mathlib.Numerals.{add-one}
use native.Mathlib.Omega.{arith}
use lib.ListN.{length, take, drop, get_or, set, length-append, length-drop, drop_of_length-le}
use lib.Seq.{drop-cons, take-suc-set, take_at, length-take-le, take_all}
use Rattle.tables.specs.Tables.{sum}
use Rattle.columns.specs.Columns.{value_at}
use Rattle.lists.specs.Lists.{concat}

-- the rows left, from row k on
pub rest_more : (plan : List ℕ) (k : ℕ) → k < length plan → drop k plan ≡ get_or plan k 0 ∷ drop (k + 1) plan
rest_more plan k h = drop-cons plan k 0 h ∙ ap (λ (n : ℕ). get_or plan k 0 ∷ drop n plan) (sym (add-one k))

-- a cell more
pub cells_more : (f : ℕ → ℕ) (plan out whole : List ℕ) (k v : ℕ) → k < length plan → k < length out → v ≡ f (get_or plan k 0)
    → take k out ++ map f (drop k plan) ≡ whole → take (k + 1) (set out k v) ++ map f (drop (k + 1) plan) ≡ whole
cells_more f plan out whole k v h g q e =
    ap (λ (x : List ℕ). x ++ map f (drop (k + 1) plan)) (ap (λ (n : ℕ). take n (set out k v)) (add-one k) ∙ take-suc-set out k v g)
    ∙ append_assoc (take k out) (v ∷ []) (map f (drop (k + 1) plan))
    ∙ ap (λ (x : ℕ). take k out ++ (x ∷ map f (drop (k + 1) plan))) q
    ∙ ap (λ (x : List ℕ). take k out ++ map f x) (sym (rest_more plan k h))
    ∙ e

pub cells_done : (f : ℕ → ℕ) (plan out whole : List ℕ) (k : ℕ) → k ≡ length plan → take k out ++ map f (drop k plan) ≡ whole
    → take (length plan) out ≡ whole
cells_done f plan out whole k h e =
    ap (λ (n : ℕ). take n out) (sym h)
    ∙ sym (append-nil (take k out))
    ∙ ap (λ (x : List ℕ). take k out ++ map f x) (sym (drop_of_length-le plan {i = k} (omega arith)))
    ∙ e

-- a number more
pub sum_step : (f : ℕ → ℕ) (plan : List ℕ) (k : ℕ) → k < length plan
    → sum (map f (drop k plan)) ≡ f (get_or plan k 0) + sum (map f (drop (k + 1) plan))
unfolding sum
sum_step f plan k h = ap (λ (x : List ℕ). sum (map f x)) (rest_more plan k h)

pub sum_end : (f : ℕ → ℕ) (plan : List ℕ) (k : ℕ) → length plan ≤ k → sum (map f (drop k plan)) ≡ 0
unfolding sum
sum_end f plan k h = ap (λ (x : List ℕ). sum (map f x)) (drop_of_length-le plan h)

-- a value more: the part from `used` on begins with it
pub values_more : (f : ℕ → List ℕ) (plan out part whole : List ℕ) (k used n : ℕ) (v tail : List ℕ) → k < length plan → used ≤ length out
    → v ≡ f (get_or plan k 0) → length v ≡ n → part ≡ v ++ tail
    → take used out ++ concat (map f (drop k plan)) ≡ whole
    → take (used + n) (take used out ++ part) ++ concat (map f (drop (k + 1) plan)) ≡ whole
values_more f plan out part whole k used n v tail h g q l p e =
    let front : take (used + n) (take used out ++ part) ≡ take used out ++ v =
    ap (λ (x : List ℕ). take (used + n) (take used out ++ x)) p
    ∙ ap (take (used + n)) (sym (append_assoc (take used out) v tail))
    ∙ take_at (take used out ++ v) tail (used + n) (omega (arith, length-append (take used out) v, length-take-le used out g)) in
    ap (λ (x : List ℕ). x ++ concat (map f (drop (k + 1) plan))) front
    ∙ append_assoc (take used out) v (concat (map f (drop (k + 1) plan)))
    ∙ ap (λ (x : List ℕ). take used out ++ (x ++ concat (map f (drop (k + 1) plan)))) q
    ∙ ap (λ (x : List ℕ). take used out ++ concat (map f x)) (sym (rest_more plan k h))
    ∙ e

pub values_done : (f : ℕ → List ℕ) (plan out whole : List ℕ) (k used : ℕ) → length plan ≤ k
    → take used out ++ concat (map f (drop k plan)) ≡ whole → take used out ≡ whole
values_done f plan out whole k used h e =
    sym (append-nil (take used out))
    ∙ ap (λ (x : List ℕ). take used out ++ concat (map f x)) (sym (drop_of_length-le plan h))
    ∙ e

-- what a copy leaves begins with what was copied
pub copied : (last v back post : List ℕ) (n : ℕ) → n ≡ length v → last ≡ take n v ++ back → last ++ post ≡ v ++ (back ++ post)
copied last v back post n q e =
    ap (λ (x : List ℕ). x ++ post) (e ∙ ap (λ (x : List ℕ). x ++ back) (take_all n v (omega arith)))
    ∙ append_assoc v back post

-- a row's value, by the places that the code finds
pub value_is : (lengths values offsets : List ℕ) (x l : ℕ) → l ≡ get_or lengths x 0
    → take (get_or offsets x 0 + l - get_or offsets x 0) (drop (get_or offsets x 0) values) ≡ value_at lengths values offsets x
value_is lengths values offsets x l e =
    let z : get_or offsets x 0 + l - get_or offsets x 0 ≡ get_or lengths x 0 = omega arith in
    ap (λ (n : ℕ). take n (drop (get_or offsets x 0) values)) z

pub value_long : (lengths values offsets : List ℕ) (x l : ℕ) → l ≡ get_or lengths x 0 → get_or offsets x 0 + get_or lengths x 0 ≤ length values
    → length (take (get_or offsets x 0 + l - get_or offsets x 0) (drop (get_or offsets x 0) values)) ≡ l
value_long lengths values offsets x l e h =
    length-take-le (get_or offsets x 0 + l - get_or offsets x 0) (drop (get_or offsets x 0) values) (omega (arith, length-drop (get_or offsets x 0) values))
    ∙ omega arith
