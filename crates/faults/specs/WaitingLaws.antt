-- The columns of the last nodes that wait.
use Rattle.std.specs.Prelude.{ℕ, ◌-◌, ◌≡◌, refl, List, [], ◌∷◌, map, length, take, drop}
use Rattle.std.proofs.Common.{sym, ap, ◌∙◌}
use Rattle.std.proofs.lemmas.List.{length-map}
use Rattle.lists.specs.PartsLaws.{map_drop, tail_part}
use Rattle.trees.specs.Rows.{Tag, highest_of, kids}
use Rattle.faults.specs.Waiting.{kind_of, height_of, greatest, StackColumns}

pub greatest_is : (gs : List Tag) → greatest (map height_of gs) ≡ highest_of gs
unfolding greatest
greatest_is [] = refl
greatest_is (g ∷ gs) = rw (greatest_is gs)

-- Columns that are a stack's have its length.
pub columns_long : {st : List Tag} {kinds heights sizes : List ℕ} → StackColumns st kinds heights sizes → length st ≡ length kinds
columns_long {st} cols = sym (ap length cols.kinds_are ∙ length-map st kind_of)

-- the part `[d - k..]` of a stack's column is that of its last k nodes
pub kids_column :
    (st : List Tag) {w : List ℕ} (k : ℕ) (f : Tag → ℕ) (d : ℕ)
    → length st ≡ d
    → w ≡ map f st
    → take (length w - (d - k)) (drop (d - k) w) ≡ map f (kids k st)
kids_column st {w} k f d e p =
    tail_part w (d - k) ∙ ap (drop (d - k)) p ∙ map_drop f (d - k) st ∙ ap (λ (n : ℕ). map f (drop (n - k) st)) (sym e)
