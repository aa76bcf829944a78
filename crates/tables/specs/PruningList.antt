-- The pruning list, and the tree that it leaves.
use Rattle.std.specs.Prelude.{ℕ, ◌+◌, Bool, false, cond, ◌&&◌, ◌||◌, List, [], ◌∷◌, leb, ltb, eqb, get_or}
use Rattle.trees.specs.Nodes.{Node}
use Rattle.trees.specs.Places.{cut}
use Rattle.trees.specs.Rows.{number}

-- the pruning list names entry k
unfoldable pub named : List ℕ → ℕ → Bool
named [] k = false
named (x ∷ xs) k = eqb x k || named xs k

-- "The pruning list names entry numbers of internal nodes, strictly rising": the index of "the first faulty index in the list", counted
-- from i, where no number below low may follow; the list's end where none is faulty. An entry out of range has no children.
unfoldable pub first_fault : List ℕ → ℕ → ℕ → List ℕ → ℕ
first_fault counts i low [] = i
first_fault counts i low (x ∷ xs) =
    cond (leb low x && ltb 0 (get_or counts x 0)) (first_fault counts (i + 1) (x + 1) xs) i

-- the tree that pruning by the list leaves
abbrev pub pruned : (List ℕ → List ℕ) → List ℕ → Node → Node
pruned H list n = cut H (λ p. named list (number n p)) n
