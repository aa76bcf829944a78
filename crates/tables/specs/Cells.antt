-- An entry as the cells of a row.
use Rattle.std.specs.Prelude.{ℕ, List, [], ◌∷◌, ◌++◌, length}
use Rattle.trees.specs.Rows.{Entry, node, tip}

-- "An internal row has type 0, length 0 and a count of 1 to 32": its cells; a leaf's type, no child, and its length
abbrev pub type_cell : Entry → ℕ
type_cell (node k) = 0
type_cell (tip t v) = t

abbrev pub count_cell : Entry → ℕ
count_cell (node k) = k
count_cell (tip t v) = 0

abbrev pub value_cell : Entry → List ℕ
value_cell (node k) = []
value_cell (tip t v) = v

abbrev pub length_cell : Entry → ℕ
length_cell e = length (value_cell e)

-- "one area with the values and dangling labels end to end"
abbrev pub values_of : List Entry → List ℕ
values_of [] = []
values_of (e ∷ es) = value_cell e ++ values_of es
