-- What a pruning list names in a tree, and the list that names the internal nodes of a set of places.
use Rattle.std.specs.Prelude.{ℕ, suc, ◌+◌, ◌≤◌, ◌<◌, Bool, cond, List, [], ◌∷◌, ◌++◌, ◌≡◌, length, get_or, take}
use Rattle.std.proofs.Math.Option.{some}
use Rattle.trees.specs.Nodes.{Node, Run, inner, leaf, nil, cons, size, sizes}
use Rattle.trees.specs.Places.{Place, node_at}
use Rattle.trees.specs.Rows.{number}
use Rattle.tables.specs.ListRule.{Rising}

-- x is the entry number of an internal node
pub record InnerAt (n : Node) (x : ℕ) : Type 0 where
  pub place : Place
  pub run : Run
  pub found : node_at n place ≡ some (inner run)
  pub numbered : number n place ≡ x

-- x is that of a leaf
pub record LeafAt (n : Node) (x : ℕ) : Type 0 where
  pub place : Place
  pub kind : ℕ
  pub text : List ℕ
  pub found : node_at n place ≡ some (leaf kind text)
  pub numbered : number n place ≡ x

-- "The pruning list names entry numbers of internal nodes, strictly rising."
pub record CleanList (n : Node) (list : List ℕ) : Type 0 where
  pub rising : Rising list
  pub inner : (k : ℕ) → k < length list → InnerAt n (get_or list k 0)

-- the number at index k is "not rising, out of range, or not an internal node"
pub data Misnames (n : Node) (list : List ℕ) (k : ℕ) : Type 0 where
  falls : (j : ℕ) → j < k → get_or list k 0 ≤ get_or list j 0 → Misnames n list k
  outside : size n ≤ get_or list k 0 → Misnames n list k
  tipped : LeafAt n (get_or list k 0) → Misnames n list k

-- k is "the first faulty index in the list"
pub record FaultyList (n : Node) (list : List ℕ) (k : ℕ) : Type 0 where
  pub within : k < length list
  pub before : CleanList n (take k list)
  pub fault : Misnames n list k

-- the list that names the internal nodes at the places of f; b is the number of the tree's first entry
abbrev mutual
  pub numbers : (Place → Bool) → ℕ → Node → List ℕ
  numbers f b (inner r) = numbers_in (λ i p. f (i ∷ p)) b r ++ cond (f []) ((b + sizes r) ∷ []) []
  numbers f b (leaf t v) = []

  -- of a run: f names a place by child and place below it
  pub numbers_in : (ℕ → Place → Bool) → ℕ → Run → List ℕ
  numbers_in f b nil = []
  numbers_in f b (cons n r) = numbers (f 0) b n ++ numbers_in (λ i p. f (suc i) p) (b + size n) r
