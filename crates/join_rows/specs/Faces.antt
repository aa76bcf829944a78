-- What each node of a tree shows of itself, in the order of the rows.
use Rattle.std.specs.Prelude.{List, [], ◌∷◌, ◌++◌, ℕ, ◌+◌, length}
use Rattle.trees.specs.Nodes.{Node, Run, inner, leaf, nil, cons, sizes, Head, prelabel, heads}
use Rattle.trees.specs.Rows.{Entry, node, tip}

-- a leaf shows its type and its label or value, an internal node "the sequence of type-label pairs of the children" (000, 5.2.1)
pub data Face : Type 0 where
  of_leaf : ℕ → List ℕ → Face
  of_inner : List Head → Face

-- what stands where there is no node
abbrev pub no_face : Face
no_face = of_leaf 0 []

-- the entry of a node
abbrev pub entry_of_face : Face → Entry
entry_of_face (of_leaf t v) = tip t v
entry_of_face (of_inner hs) = node (length hs)

-- how many children it has
abbrev pub count_of_face : Face → ℕ
count_of_face (of_leaf t v) = 0
count_of_face (of_inner hs) = length hs

-- how many bytes of the table's area it takes
abbrev pub bytes_of_face : Face → ℕ
bytes_of_face (of_leaf t v) = length v
bytes_of_face (of_inner hs) = 0

module _ (H : List ℕ → List ℕ) where
  -- what its parent hashes of it
  abbrev pub head_of_face : Face → Head
  head_of_face (of_leaf t v) = record { kind = t; text = v }
  head_of_face (of_inner hs) = record { kind = 0; text = H (prelabel hs) }

  -- the faces of a tree's nodes, one an entry
  abbrev mutual
    pub faces : Node → List Face
    faces (inner r) = faces_in r ++ (of_inner (heads H r) ∷ [])
    faces (leaf t v) = of_leaf t v ∷ []

    -- of a run: the children's end to end
    pub faces_in : Run → List Face
    faces_in nil = []
    faces_in (cons n r) = faces n ++ faces_in r

-- the row of a tree's root, where its first row is b
abbrev pub root : ℕ → Node → ℕ
root b (inner r) = b + sizes r
root b (leaf t v) = b
