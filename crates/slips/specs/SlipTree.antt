-- The tree of an accepted slip.
use Rattle.std.specs.Prelude.{ℕ, List, [], ◌∷◌}
use Rattle.trees.specs.Nodes.{Node, leaf}
use Rattle.trees.specs.Rows.{Entry, grown}
use Rattle.slips.specs.Check.{reading_of}

-- the tree that waits first; none waits behind no entry
abbrev pub first_tree : List Node → Node
first_tree [] = leaf 0 []
first_tree (n ∷ ns) = n

-- "One entry a node in depth-first post order": the tree that the entries leave waiting, by the stack of document 000 (5.4.2)
abbrev pub tree_of : List Entry → Node
tree_of es = first_tree (grown es [])

-- the tree of a slip
abbrev pub slip_tree : List ℕ → Node
slip_tree s = tree_of (reading_of s).rows
