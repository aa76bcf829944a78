-- A tree's rows are its own: the stack of section 5.4.2 builds the tree back, and no other tree has them.
use Rattle.std.specs.Prelude.{◌≡◌, refl, List, [], ◌∷◌, ◌++◌, ℕ, suc, ◌+◌, ◌-◌, length}
use Rattle.std.proofs.Common.{sym, ap, ap₂, ◌∙◌, append_assoc, append-nil, arith, length-append, take_at, drop_at}
use Rattle.lists.specs.ListsLaws.{cons_head}
use Rattle.trees.specs.Nodes.{Node, Run, inner, leaf, nil, cons, count, size, sizes}
use Rattle.trees.specs.Rows.{Entry, node, rows, rows_in, kids, below, run_of, grown}

-- of a stack with ts on top, the last length ts are ts, and those below are the rest
module _ {A : Type 0} (st ts : List A) (k : ℕ) (e : length ts ≡ k) where
  pub kids_at : kids k (st ++ ts) ≡ ts
  kids_at = drop_at st ts (length (st ++ ts) - k) (omega (arith, length-append st ts))

  pub below_at : below k (st ++ ts) ≡ st
  below_at = take_at st ts (length (st ++ ts) - k) (omega (arith, length-append st ts))

-- the children of a run, as a list
abbrev pub nodes_of : Run → List Node
nodes_of nil = []
nodes_of (cons n r) = n ∷ nodes_of r

-- and back
pub run_of_nodes : (r : Run) → run_of (nodes_of r) ≡ r
run_of_nodes nil = refl
run_of_nodes (cons n r) = ap (cons n) (run_of_nodes r)

-- as many as the run has
pub length_nodes : (r : Run) → length (nodes_of r) ≡ count r
length_nodes nil = refl
length_nodes (cons n r) = ap suc (length_nodes r)

-- a tree has one row a node
mutual
  pub length_rows : (n : Node) → length (rows n) ≡ size n
  length_rows (inner r) = length-append (rows_in r) (node (count r) ∷ []) ∙ ap (λ (k : ℕ). k + 1) (length_rows_in r)
  length_rows (leaf t v) = refl

  pub length_rows_in : (r : Run) → length (rows_in r) ≡ sizes r
  length_rows_in nil = refl
  length_rows_in (cons n r) = length-append (rows n) (rows_in r) ∙ ap₂ ◌+◌ (length_rows n) (length_rows_in r)

-- the rows of a tree, whatever waits and whatever follows, leave that tree waiting
mutual
  pub grown_rows : (n : Node) (es : List Entry) (ns : List Node) → grown (rows n ++ es) ns ≡ grown es (ns ++ (n ∷ []))
  grown_rows (inner r) es ns =
      ap (λ (l : List Entry). grown l ns) (append_assoc (rows_in r) (node (count r) ∷ []) es)
      ∙ grown_rows_in r (node (count r) ∷ es) ns
      ∙ ap₂ (λ (x y : List Node). grown es (x ++ (inner (run_of y) ∷ [])))
      (below_at ns (nodes_of r) (count r) (length_nodes r)) (kids_at ns (nodes_of r) (count r) (length_nodes r))
      ∙ ap (λ (s : Run). grown es (ns ++ (inner s ∷ []))) (run_of_nodes r)
  grown_rows (leaf t v) es ns = refl

  pub grown_rows_in : (r : Run) (es : List Entry) (ns : List Node) → grown (rows_in r ++ es) ns ≡ grown es (ns ++ nodes_of r)
  grown_rows_in nil es ns = ap (grown es) (sym (append-nil ns))
  grown_rows_in (cons n r) es ns =
      ap (λ (l : List Entry). grown l ns) (append_assoc (rows n) (rows_in r) es)
      ∙ grown_rows n (rows_in r ++ es) ns
      ∙ grown_rows_in r es (ns ++ (n ∷ []))
      ∙ ap (grown es) (append_assoc ns (n ∷ []) (nodes_of r))

-- from nothing they leave that tree alone
pub grown_tree : (n : Node) → grown (rows n) [] ≡ n ∷ []
grown_tree n = ap (λ (l : List Entry). grown l []) (sym (append-nil (rows n))) ∙ grown_rows n [] []

-- "two trees of same kind are isomorphic iff they have the same linear description" (000, 5.4.1)
pub rows_inj : (n m : Node) → rows n ≡ rows m → n ≡ m
rows_inj n m e = cons_head (sym (grown_tree n) ∙ ap (λ (l : List Entry). grown l []) e ∙ grown_tree m)
