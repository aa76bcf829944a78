-- Places, what a tree discloses at each, and pruning.
use Rattle.std.specs.Prelude.{◌≡◌, Bool, true, false, not, cond, ◌&&◌, List, [], ◌∷◌, ℕ, zero, suc}
use Rattle.std.proofs.Math.Option.{Option, none, some}
use Rattle.trees.specs.Nodes.{Node, Run, inner, leaf, nil, cons, prelabel, heads}

-- "A place is the list of child numbers from the root."
abbrev pub Place : Type 0
Place = List ℕ

-- the node at a place, where there is one
abbrev mutual
  pub node_at : Node → Place → Option Node
  node_at (inner r) [] = some (inner r)
  node_at (inner r) (i ∷ p) = child_at r i p
  node_at (leaf t v) [] = some (leaf t v)
  node_at (leaf t v) (i ∷ p) = none

  -- the node at the place p below child i of a run; so too in the names below that end in In
  pub child_at : Run → ℕ → Place → Option Node
  child_at nil i p = none
  child_at (cons n r) zero p = node_at n p
  child_at (cons n r) (suc i) p = child_at r i p

-- what can be disclosed at a place: the prelabel of an internal node, or a pair's type and value
pub data Fact : Type 0 where
  opened : List ℕ → Fact
  paired : ℕ → List ℕ → Fact

-- what a leaf discloses: a dangling one nothing, since its label stands in its parent's prelabel already
abbrev pub leaf_tells : ℕ → List ℕ → Option Fact
leaf_tells zero l = none
leaf_tells (suc t) v = some (paired (suc t) v)

-- what stands at a place is dangling: a leaf of type 0
abbrev pub is_dangling : Option Node → Bool
is_dangling none = false
is_dangling (some (inner r)) = false
is_dangling (some (leaf zero l)) = true
is_dangling (some (leaf (suc t) v)) = false

-- no place above p is named, so that the node at p stays
abbrev pub stays : (Place → Bool) → Place → Bool
stays f [] = true
stays f (i ∷ p) = not (f []) && stays (λ q. f (i ∷ q)) p

module _ (H : List ℕ → List ℕ) where
  -- what a tree discloses at a place
  abbrev mutual
    pub tells : Node → Place → Option Fact
    tells (inner r) [] = some (opened (prelabel (heads H r)))
    tells (inner r) (i ∷ p) = tells_in r i p
    tells (leaf t v) [] = leaf_tells t v
    tells (leaf t v) (i ∷ p) = none

    -- below child i of a run
    pub tells_in : Run → ℕ → Place → Option Fact
    tells_in nil i p = none
    tells_in (cons n r) zero p = tells n p
    tells_in (cons n r) (suc i) p = tells_in r i p

  -- a is a pruning of b, document 000's pruned derivative (5.2.3): some internal nodes of b are dangling in a, each with its label
  abbrev mutual
    pub Le : Node → Node → Type 0
    Le (inner r) (inner s) = LeIn r s
    Le (inner r) (leaf u m) = ⊥
    Le (leaf t l) (inner s) = (t ≡ 0) × (l ≡ H (prelabel (heads H s)))
    Le (leaf t l) (leaf u m) = (t ≡ u) × (l ≡ m)

    -- of runs: as many children, each a pruning
    pub LeIn : Run → Run → Type 0
    LeIn nil nil = Unit {0}
    LeIn nil (cons m s) = ⊥
    LeIn (cons n r) nil = ⊥
    LeIn (cons n r) (cons m s) = Le n m × LeIn r s

  -- a tree pruned at a set of places: "Each becomes dangling with its label, and its descendants go."
  abbrev mutual
    pub cut : (Place → Bool) → Node → Node
    cut f (inner r) = cond (f []) (leaf 0 (H (prelabel (heads H r)))) (inner (cut_in (λ i p. f (i ∷ p)) r))
    cut f (leaf t v) = leaf t v

    -- of a run: f names a place by child and place below it
    pub cut_in : (ℕ → Place → Bool) → Run → Run
    cut_in f nil = nil
    cut_in f (cons n r) = cons (cut (f 0) n) (cut_in (λ i p. f (suc i) p) r)

  -- "The root is shared. A child is shared when its parent is shared and internal in both slips with equal prelabels."
  abbrev mutual
    pub Shared : Node → Node → Place → Type 0
    Shared (inner r) (inner s) [] = Unit {0}
    Shared (inner r) (inner s) (i ∷ p) = (prelabel (heads H r) ≡ prelabel (heads H s)) × SharedIn r s i p
    Shared (inner r) (leaf u m) [] = Unit {0}
    Shared (inner r) (leaf u m) (i ∷ p) = ⊥
    Shared (leaf t l) b [] = Unit {0}
    Shared (leaf t l) b (i ∷ p) = ⊥

    -- below child i of both runs
    pub SharedIn : Run → Run → ℕ → Place → Type 0
    SharedIn nil s i p = ⊥
    SharedIn (cons n r) nil i p = ⊥
    SharedIn (cons n r) (cons m s) zero p = Shared n m p
    SharedIn (cons n r) (cons m s) (suc i) p = SharedIn r s i p

-- a and b are "equal outside one place"
abbrev mutual
  pub EqualBut : Node → Node → Place → Type 0
  EqualBut (inner r) b [] = Unit {0}
  EqualBut (inner r) (inner s) (i ∷ p) = EqualButIn r s i p
  EqualBut (inner r) (leaf u m) (i ∷ p) = ⊥
  EqualBut (leaf t l) b [] = Unit {0}
  EqualBut (leaf t l) b (i ∷ p) = ⊥

  -- of runs: every other child is equal
  pub EqualButIn : Run → Run → ℕ → Place → Type 0
  EqualButIn nil s i p = ⊥
  EqualButIn (cons n r) nil i p = ⊥
  EqualButIn (cons n r) (cons m s) zero p = EqualBut n m p × (r ≡ s)
  EqualButIn (cons n r) (cons m s) (suc i) p = (n ≡ m) × EqualButIn r s i p
