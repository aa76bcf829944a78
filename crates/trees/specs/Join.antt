-- The join of two trees, and the clash.
use Rattle.std.specs.Prelude.{◌≡◌, ◌≢◌, ◌⊎◌, cond, List, [], ◌∷◌, ℕ, suc, ◌<◌}
use Rattle.std.proofs.Math.Option.{Option, some}
use Rattle.lists.specs.Lists.{same}
use Rattle.trees.specs.Nodes.{Node, Run, inner, leaf, nil, cons, type_of, prelabel, label, heads}
use Rattle.outcomes.specs.Refusals.{clashing}
use Rattle.trees.specs.Places.{Place, node_at, Fact, opened, tells, tells_in, Le, LeIn, Shared, SharedIn}

-- the join of two nodes: a tree, or the place of the first clash
pub data Joint : Type 0 where
  ok : Node → Joint
  clash : Place → Joint

-- the join of two runs: a run, or the child number and the place below that child
pub data JointRun : Type 0 where
  ok_run : Run → JointRun
  clash_at : ℕ → Place → JointRun

-- "The join of a node is made from its run of children"
abbrev pub wrap : JointRun → Joint
wrap (ok_run t) = ok (inner t)
wrap (clash_at i p) = clash (i ∷ p)

-- "and the join of a run from its first child and the rest": a clash in the first child comes before one in the rest
abbrev pub both : Joint → JointRun → JointRun
both (ok c) (ok_run t) = ok_run (cons c t)
both (ok c) (clash_at i p) = clash_at (suc i) p
both (clash p) t = clash_at 0 p

-- two different prelabels, disclosed where x and y are
pub record Differ (x y : Option Fact) : Type 0 where
  pub one : List ℕ
  pub two : List ℕ
  pub here : x ≡ some (opened one)
  pub there : y ≡ some (opened two)
  pub differ : one ≢ two

module _ (H : List ℕ → List ℕ) where
  -- "At a shared place the join holds the internal node if either slip has one, else the leaf; below a place that is internal in one slip
  -- only, it holds that slip's nodes." Runs of unequal length have unequal prelabels, so their join is never asked for.
  abbrev mutual
    pub join : Node → Node → Joint
    join (inner r) (inner s) = cond (same (prelabel (heads H r)) (prelabel (heads H s))) (wrap (join_run r s)) (clash [])
    join (inner r) (leaf u m) = ok (inner r)
    join (leaf t l) (inner s) = ok (inner s)
    join (leaf t l) (leaf u m) = ok (leaf t l)

    -- the children in turn
    pub join_run : Run → Run → JointRun
    join_run nil s = ok_run s
    join_run (cons n r) nil = ok_run (cons n r)
    join_run (cons n r) (cons m s) = both (join n m) (join_run r s)

  -- two nodes that are joined have the same type and the same label
  pub record Alike (a b : Node) : Type 0 where
    pub types : type_of a ≡ type_of b
    pub labels : label H a ≡ label H b

  -- "A clash is a shared place, internal in both, where the prelabels differ."
  abbrev pub Clash : Node → Node → Place → Type 0
  Clash a b p = Shared H a b p × Differ (tells H a p) (tells H b p)

  -- the same of two runs, at a child's number and the place below that child
  abbrev pub ClashIn : Run → Run → ℕ → Place → Type 0
  ClashIn r s i p = SharedIn H r s i p × Differ (tells_in H r i p) (tells_in H s i p)

  -- "two different texts with one hash"
  pub record Collision (x y : Option Fact) : Type 0 where
    pub texts : Differ x y
    pub hash : H texts.one ≡ H texts.two

  -- c is the join of a and b: both are prunings of it, it is the smallest such, and it discloses exactly what one of them does
  pub record Joined (a b c : Node) : Type 0 where
    pub left : Le H a c
    pub right : Le H b c
    pub least : (u : Node) → Le H a u → Le H b u → Le H c u
    pub exact : (p : Place) (x : Fact) → tells H c p ≡ some x → (tells H a p ≡ some x) ⊎ (tells H b p ≡ some x)

  -- the same of two runs
  pub record JoinedRun (r s t : Run) : Type 0 where
    pub left : LeIn H r t
    pub right : LeIn H s t
    pub least : (u : Run) → LeIn H r u → LeIn H s u → LeIn H t u
    pub exact : (i : ℕ) (p : Place) (x : Fact) → tells_in H t i p ≡ some x → (tells_in H r i p ≡ some x) ⊎ (tells_in H s i p ≡ some x)

-- p comes before q in "this order: a node, then all of its first child's subtree, then the next child's"
abbrev pub Before : Place → Place → Type 0
Before [] [] = ⊥
Before [] (j ∷ q) = Unit {0}
Before (i ∷ p) [] = ⊥
Before (i ∷ p) (j ∷ q) = (i < j) ⊎ ((i ≡ j) × Before p q)

-- p is q, or comes before it
abbrev pub NotAfter : Place → Place → Type 0
NotAfter p q = (p ≡ q) ⊎ Before p q

-- "first clash in this order": a shared place, internal in both trees, where the prelabels differ, and no clash comes before it
pub record FirstClash (H : List ℕ → List ℕ) (a b : Node) (p : Place) : Type 0 where
  pub shared : Shared H a b p
  pub one : Run
  pub two : Run
  pub in_first : node_at a p ≡ some (inner one)
  pub in_second : node_at b p ≡ some (inner two)
  pub differ : prelabel (heads H one) ≢ prelabel (heads H two)
  pub first : (q : Place) → Clash H a b q → NotAfter p q

-- the number of a join's answer in document 01: 0 accepted, 14 clash
abbrev pub refusal : Joint → ℕ
refusal (ok c) = 0
refusal (clash p) = clashing
