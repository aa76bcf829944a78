-- The label of each entry's node, in the order of the rows.
use Rattle.std.specs.Prelude.{List, [], ◌∷◌, ◌++◌, ℕ}
use Rattle.trees.specs.Nodes.{Node, Run, inner, leaf, nil, cons, label}

module _ (H : List ℕ → List ℕ) where
  -- the labels of a tree's nodes, one an entry
  abbrev mutual
    pub labels_of : Node → List (List ℕ)
    labels_of (inner r) = labels_in r ++ (label H (inner r) ∷ [])
    labels_of (leaf t v) = v ∷ []

    -- of a run: the children's end to end
    pub labels_in : Run → List (List ℕ)
    labels_in nil = []
    labels_in (cons n r) = labels_of n ++ labels_in r
