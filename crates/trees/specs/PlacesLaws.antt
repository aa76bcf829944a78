-- What a tree discloses at a place stands there.
use Rattle.std.specs.Prelude.{◌≡◌, refl, List, [], ◌∷◌, ℕ, zero, suc}
use Rattle.std.proofs.Common.{ap, arith}
use Rattle.std.proofs.Math.Option.{some}
use Rattle.lists.specs.ListsLaws.{none_some, some_inj}
use Rattle.trees.specs.Nodes.{Node, Run, inner, leaf, nil, cons, prelabel, heads}
use Rattle.trees.specs.Places.{Place, node_at, child_at, opened, paired, leaf_tells, tells, tells_in}

-- the root stands at the empty place
pub at_root : (n : Node) → node_at n [] ≡ some n
at_root (inner r) = refl
at_root (leaf t v) = refl

-- no leaf is an internal node
pub leaf_inner : {t : ℕ} {v : List ℕ} {r : Run} → leaf t v ≡ inner r → ⊥
leaf_inner e = let z : ◌≡◌ {A = ℕ} 0 1 = cc in omega arith

-- what is opened is one prelabel
pub opened_inj : {x y : List ℕ} → some (opened x) ≡ some (opened y) → x ≡ y
opened_inj e = cc

-- a leaf opens no prelabel
pub leaf_shut : (t : ℕ) (v x : List ℕ) → leaf_tells t v ≡ some (opened x) → ⊥
leaf_shut zero v x e = none_some e
leaf_shut (suc t) v x e = let z : ◌≡◌ {A = ℕ} 0 1 = cc in omega arith

-- an internal node pairs nothing
inner_unpaired : {x v : List ℕ} {t : ℕ} → some (opened x) ≡ some (paired t v) → ⊥
inner_unpaired e = let z : ◌≡◌ {A = ℕ} 0 1 = cc in omega arith

leaf_paired : (u t : ℕ) (w v : List ℕ) → leaf_tells u w ≡ some (paired t v) → some (leaf u w) ≡ some (leaf t v)
leaf_paired zero t w v e = absurd (none_some e)
leaf_paired (suc u) t w v e = cc

module _ (H : List ℕ → List ℕ) where
  -- where a prelabel is disclosed stands an internal node with that prelabel
  mutual
    pub opened_at : (n : Node) (p : Place) (x : List ℕ) → tells H n p ≡ some (opened x)
        → (r : Run) × (node_at n p ≡ some (inner r)) × (prelabel (heads H r) ≡ x)
    opened_at (inner r) [] x e = (r, refl, opened_inj e)
    opened_at (inner r) (i ∷ p) x e = opened_in_at r i p x e
    opened_at (leaf t v) [] x e = absurd (leaf_shut t v x e)
    opened_at (leaf t v) (i ∷ p) x e = absurd (none_some e)

    pub opened_in_at : (r : Run) (i : ℕ) (p : Place) (x : List ℕ) → tells_in H r i p ≡ some (opened x)
        → (s : Run) × (child_at r i p ≡ some (inner s)) × (prelabel (heads H s) ≡ x)
    opened_in_at nil i p x e = absurd (none_some e)
    opened_in_at (cons n r) zero p x e = opened_at n p x e
    opened_in_at (cons n r) (suc i) p x e = opened_in_at r i p x e

  -- and an internal node discloses its prelabel
  mutual
    pub at_opened : (n : Node) (p : Place) (r : Run) → node_at n p ≡ some (inner r) → tells H n p ≡ some (opened (prelabel (heads H r)))
    at_opened (inner s) [] r e = ap (λ (n : Node). tells H n []) (some_inj e)
    at_opened (inner s) (i ∷ p) r e = at_opened_in s i p r e
    at_opened (leaf t v) [] r e = absurd (leaf_inner (some_inj e))
    at_opened (leaf t v) (i ∷ p) r e = absurd (none_some e)

    pub at_opened_in : (s : Run) (i : ℕ) (p : Place) (r : Run) → child_at s i p ≡ some (inner r) → tells_in H s i p ≡ some (opened (prelabel (heads H r)))
    at_opened_in nil i p r e = absurd (none_some e)
    at_opened_in (cons n s) zero p r e = at_opened n p r e
    at_opened_in (cons n s) (suc i) p r e = at_opened_in s i p r e

  -- where a pair is disclosed stands that pair
  mutual
    pub paired_at : (n : Node) (p : Place) (t : ℕ) (v : List ℕ) → tells H n p ≡ some (paired t v) → node_at n p ≡ some (leaf t v)
    paired_at (inner r) [] t v e = absurd (inner_unpaired e)
    paired_at (inner r) (i ∷ p) t v e = paired_in_at r i p t v e
    paired_at (leaf u w) [] t v e = leaf_paired u t w v e
    paired_at (leaf u w) (i ∷ p) t v e = absurd (none_some e)

    pub paired_in_at : (r : Run) (i : ℕ) (p : Place) (t : ℕ) (v : List ℕ) → tells_in H r i p ≡ some (paired t v) → child_at r i p ≡ some (leaf t v)
    paired_in_at nil i p t v e = absurd (none_some e)
    paired_in_at (cons n r) zero p t v e = paired_at n p t v e
    paired_in_at (cons n r) (suc i) p t v e = paired_in_at r i p t v e
