-- Document 000's Theorem 1, and what it says of a full record.
use Rattle.std.specs.Prelude.{◌≡◌, refl, ◌⊎◌, Bool, true, false, List, [], ◌∷◌, ℕ, suc}
use Rattle.std.proofs.Common.{sym, ap, subst, inl, inr}
use Rattle.std.proofs.Math.Option.{some}
use Rattle.lists.specs.Lists.{same}
use Rattle.lists.specs.ListsLaws.{same_true, cons_tail, nil_cons}
use Rattle.trees.specs.Nodes.{Node, Run, inner, leaf, nil, cons, prelabel, label, heads}
use Rattle.trees.proofs.NodesLaws.{prelabel_inj}
use Rattle.trees.specs.Places.{Place, node_at, child_at, opened, tells, tells_in, Le, LeIn, Shared, SharedIn}
use Rattle.trees.specs.Join.{Joint, ok, clash, join, Alike, Collision, Joined}
use Rattle.trees.proofs.JoinLaws.{first_alike, root_collision, join_ok, join_clash}

module _ (H : List ℕ → List ℕ) where
  -- how the tree y stands to the tree x
  pub data Relation (y x : Node) : Type 0 where
    -- "(i) Y is isomorphic to a pruned derivative of X (which may be X itself)"
    pruned : Le H y x → Relation y x
    -- "(ii) the label of an internal node of Y is equal to the label of a dangling node of X"
    filled : (p : Place) (t : List ℕ) → tells H y p ≡ some (opened t) → node_at x p ≡ some (leaf 0 (H t)) → Relation y x
    -- "(iii) an internal node of Y has the same label as an internal node of X but a different prelabel"
    collided : (p : Place) → Shared H y x p → Collision H (tells H y p) (tells H x p) → Relation y x

  -- the same of two runs
  data RelationIn (r s : Run) : Type 0 where
    pruned_in : LeIn H r s → RelationIn r s
    filled_in : (i : ℕ) (p : Place) (t : List ℕ) → tells_in H r i p ≡ some (opened t) → child_at s i p ≡ some (leaf 0 (H t)) → RelationIn r s
    collided_in : (i : ℕ) (p : Place) → SharedIn H r s i p → Collision H (tells_in H r i p) (tells_in H s i p) → RelationIn r s

  related_node : (r s : Run) → prelabel (heads H r) ≡ prelabel (heads H s) → RelationIn r s → Relation (inner r) (inner s)
  related_node r s e (pruned_in h) = pruned h
  related_node r s e (filled_in i p t a b) = filled (i ∷ p) t a b
  related_node r s e (collided_in i p a b) = collided (i ∷ p) (e, a) b

  related_run : (n m : Node) (r s : Run) → Relation n m → RelationIn r s → RelationIn (cons n r) (cons m s)
  related_run n m r s (pruned h) (pruned_in k) = pruned_in (h, k)
  related_run n m r s (pruned h) (filled_in i p t a b) = filled_in (suc i) p t a b
  related_run n m r s (pruned h) (collided_in i p a b) = collided_in (suc i) p a b
  related_run n m r s (filled p t a b) k = filled_in 0 p t a b
  related_run n m r s (collided p a b) k = collided_in 0 p a b

  related_gate : (r s : Run) (b : Bool) → same (prelabel (heads H r)) (prelabel (heads H s)) ≡ b → label H (inner r) ≡ label H (inner s)
      → (heads H r ≡ heads H s → RelationIn r s) → Relation (inner r) (inner s)
  related_gate r s true e l h =
      let q : prelabel (heads H r) ≡ prelabel (heads H s) = same_true (prelabel (heads H r)) (prelabel (heads H s)) e in
      related_node r s q (h (prelabel_inj (heads H r) (heads H s) q))
  related_gate r s false e l h = collided [] tt (root_collision H r s e l)

  -- "If X and Y have the same root label, then either (i) .., or (ii) .., or (iii) ..": both nodes stand at one place
  mutual
    pub theorem_1 : (y x : Node) → Alike H y x → Relation y x
    theorem_1 (inner r) (inner s) h =
        related_gate r s (same (prelabel (heads H r)) (prelabel (heads H s))) refl h.labels (λ e. theorem_1_in r s e)
    theorem_1 (inner r) (leaf u m) h =
        filled [] (prelabel (heads H r)) refl (λ i. some (leaf (sym h.types i) (sym h.labels i)))
    theorem_1 (leaf t l) (inner s) h = pruned (h.types, h.labels)
    theorem_1 (leaf t l) (leaf u m) h = pruned (h.types, h.labels)

    theorem_1_in : (r s : Run) → heads H r ≡ heads H s → RelationIn r s
    theorem_1_in nil nil e = pruned_in tt
    theorem_1_in nil (cons m s) e = absurd (nil_cons e)
    theorem_1_in (cons n r) nil e = absurd (nil_cons (sym e))
    theorem_1_in (cons n r) (cons m s) e =
        related_run n m r s
        (theorem_1 n m (first_alike H n m r s e))
        (theorem_1_in r s (cons_tail e))

  -- "a full record, one with no dangling node"
  abbrev pub Full : Node → Type 0
  Full x = (p : Place) (l : List ℕ) → node_at x p ≡ some (leaf 0 l) → ⊥

  -- a full record is a pruning of itself only
  mutual
    pub full_top : (x c : Node) → Full x → Le H x c → x ≡ c
    full_top (inner r) (inner s) f h = ap inner (full_top_in r s (λ i p l e. f (i ∷ p) l e) h)
    full_top (inner r) (leaf u m) f h = absurd h
    full_top (leaf t l) (inner s) f h = absurd (f [] l (λ i. some (leaf (h.0 i) l)))
    full_top (leaf t l) (leaf u m) f h = λ i. leaf (h.0 i) (h.1 i)

    pub full_top_in : (r s : Run) → ((i : ℕ) (p : Place) (l : List ℕ) → child_at r i p ≡ some (leaf 0 l) → ⊥) → LeIn H r s → r ≡ s
    full_top_in nil nil f h = refl
    full_top_in nil (cons m s) f h = absurd h
    full_top_in (cons n r) nil f h = absurd h
    full_top_in (cons n r) (cons m s) f h =
        λ i. cons (full_top n m (λ p l e. f 0 p l e) h.0 i) (full_top_in r s (λ j p l e. f (suc j) p l e) h.1 i)

  -- a tree with the root label of a full record is a pruning of it, or the join of the two exhibits a clash
  pub full_or_clash : (x y : Node) → Full x → Alike H x y
      → Le H y x ⊎ ((p : Place) × (join H x y ≡ clash p) × Shared H x y p × Collision H (tells H x p) (tells H y p))
  full_or_clash x y f h = go (join H x y) refl
    where
      go : (j : Joint) → join H x y ≡ j
          → Le H y x ⊎ ((p : Place) × (join H x y ≡ clash p) × Shared H x y p × Collision H (tells H x p) (tells H y p))
      go (ok c) e =
          let j : Joined H x y c = join_ok H x y c h e in
          inl (subst (Le H y) (sym (full_top x c f j.left)) j.right)
      go (clash p) e = let c = join_clash H x y p h e in inr (p, e, c.0, c.1)
