-- The rows that marks pick from a table.
use Rattle.std.specs.Prelude.{ℕ, zero, suc, List, [], ◌∷◌, ◌++◌, take, drop}
use Rattle.trees.specs.Rules.{label_bytes}
use Rattle.trees.specs.Rows.{Entry, node, tip}
use Rattle.prune_rows.specs.declared.marks.Mark.{Mark}
use Rattle.prune_rows.specs.declared.marks.Mark.TheVariants.{Gone, Kept, CutOff}

-- what each row gives by its mark, its entry and what stands beside it, end to end
abbrev pub picked {ℓ ℓ'} : {A : Type ℓ} {B : Type ℓ'} → (Mark → Entry → A → List B) → List Mark → List Entry → List A → List B
picked g [] es xs = []
picked g (m ∷ ms) [] xs = []
picked g (m ∷ ms) (e ∷ es) [] = []
picked g (m ∷ ms) (e ∷ es) (x ∷ xs) = g m e x ++ picked g ms es xs

-- a row that is gone gives no entry, one that is kept its own, one that is cut off a dangling one with its label; a leaf is never cut off
abbrev pub row_by : Mark → Entry → List ℕ → List Entry
row_by Gone e l = []
row_by Kept e l = e ∷ []
row_by CutOff (node c) l = tip 0 l ∷ []
row_by CutOff (tip t v) l = tip t v ∷ []

-- the labels of k rows, end to end in one area
abbrev pub label_rows : ℕ → List ℕ → List (List ℕ)
label_rows zero bs = []
label_rows (suc k) bs = take label_bytes bs ∷ label_rows k (drop label_bytes bs)
