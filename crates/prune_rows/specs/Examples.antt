-- The definitions on a small tree, computed: a root with a dangling child and an internal child over two salts.
use Rattle.std.specs.Prelude.{◌≡◌, refl, true, List, [], ◌∷◌, map, ℕ, length}
use Rattle.lists.specs.Lists.{same}
use Rattle.trees.specs.Nodes.{Node, inner, leaf, nil, cons}
use Rattle.trees.specs.Rows.{node, tip, rows, pruned_rows}
use Rattle.trees.specs.RowLabels.{labels_of}
use Rattle.tables.specs.Measure.{row_bits}
use Rattle.tables.specs.PruningList.{named, first_fault, pruned}
use Rattle.tables.specs.Cells.{count_cell}
use Rattle.prune_rows.specs.Names.{numbers}
use Rattle.prune_rows.specs.Marks.{gone, kept, cut_off, at_end, walk, marks_of}
use Rattle.prune_rows.specs.Picked.{picked, row_by}
use Rattle.prune_rows.specs.Width.{width}

-- a label that is the prelabel's length alone
abbrev short : List ℕ → List ℕ
short x = length x ∷ []

abbrev small : Node
small = inner (cons (leaf 0 (9 ∷ [])) (cons (inner (cons (leaf 1 (7 ∷ [])) (cons (leaf 0 (8 ∷ [])) nil))) nil))

abbrev counts : List ℕ
counts = map count_cell (rows small)

pub small_counts : counts ≡ 0 ∷ 0 ∷ 0 ∷ 2 ∷ 2 ∷ []
small_counts = refl

-- row 3 is cut off, and its two children go
pub marks_3 : (walk (named (3 ∷ [])) counts 0 at_end).marks ≡ kept ∷ gone ∷ gone ∷ cut_off ∷ kept ∷ []
unfolding named
marks_3 = refl

-- "A name below another named node adds nothing."
pub marks_both : (walk (named (3 ∷ 4 ∷ [])) counts 0 at_end).marks ≡ gone ∷ gone ∷ gone ∷ gone ∷ cut_off ∷ []
unfolding named
marks_both = refl

-- "Each becomes dangling with its label": the prelabel of row 3 has 10 bytes
pub rows_3 : picked row_by (marks_of (named (3 ∷ [])) 0 small) (rows small) (labels_of short small) ≡ tip 0 (9 ∷ []) ∷ tip 0 (10 ∷ []) ∷ node 2 ∷ []
unfolding named
rows_3 = refl

pub pruned_3 : rows (pruned short (3 ∷ []) small) ≡ pruned_rows short (named (3 ∷ [])) 0 small
unfolding named
pruned_3 = refl

-- a list without fault; "not rising, out of range, or not an internal node", each at its index
pub fault_none : first_fault counts 0 0 (3 ∷ 4 ∷ []) ≡ 2
unfolding first_fault
fault_none = refl

pub fault_twice : first_fault counts 0 0 (3 ∷ 3 ∷ []) ≡ 1
unfolding first_fault
fault_twice = refl

pub fault_far : first_fault counts 0 0 (3 ∷ 5 ∷ []) ≡ 1
unfolding first_fault
fault_far = refl

pub fault_leaf : first_fault counts 0 0 (2 ∷ 3 ∷ []) ≡ 0
unfolding first_fault
fault_leaf = refl

-- "An entry takes 6, 267 or 20 + 8 × length bits."
pub width_each : width (node 2 ∷ tip 0 [] ∷ tip 2 (1 ∷ 2 ∷ []) ∷ []) ≡ 309
unfolding row_bits
width_each = refl

-- the internal nodes at one place, and at every place
pub names_one : numbers (same (1 ∷ [])) 0 small ≡ 3 ∷ []
names_one = refl

pub names_all : numbers (λ p. true) 0 small ≡ 3 ∷ 4 ∷ []
names_all = refl
