-- The join is idempotent and commutative, and associative where nothing clashes.
use Rattle.std.specs.Prelude.{◌≡◌, refl, Bool, true, false, cond, List, [], ℕ}
use Rattle.std.proofs.Common.{sym, ap, ap₂, ◌∙◌}
use Rattle.lists.specs.Lists.{same}
use Rattle.lists.specs.ListsLaws.{same_refl, same_comm, same_true, cons_tail, nil_cons}
use Rattle.trees.specs.Nodes.{Node, Run, inner, leaf, nil, cons, prelabel, heads}
use Rattle.trees.proofs.NodesLaws.{prelabel_inj}
use Rattle.trees.specs.Places.{Le}
use Rattle.trees.proofs.OrderLaws.{le_trans, le_antisym}
use Rattle.trees.specs.Join.{ok, clash, ok_run, wrap, both, join, join_run, Alike, Joined}
use Rattle.trees.proofs.JoinLaws.{first_alike, join_ok, join_below, below_alike}

module _ (H : List ℕ → List ℕ) where
  -- a tree joined with itself is itself
  mutual
    pub join_idem : (a : Node) → join H a a ≡ ok a
    join_idem (inner r) =
        ap (λ (b : Bool). cond b (wrap (join_run H r r)) (clash [])) (same_refl (prelabel (heads H r))) ∙ ap wrap (join_run_idem r)
    join_idem (leaf t l) = refl

    pub join_run_idem : (r : Run) → join_run H r r ≡ ok_run r
    join_run_idem nil = refl
    join_run_idem (cons n r) = ap₂ both (join_idem n) (join_run_idem r)

  gate_comm : (r s : Run) (b : Bool) → same (prelabel (heads H r)) (prelabel (heads H s)) ≡ b
      → (heads H r ≡ heads H s → join_run H r s ≡ join_run H s r)
      → cond b (wrap (join_run H r s)) (clash []) ≡ cond b (wrap (join_run H s r)) (clash [])
  gate_comm r s true e h = ap wrap (h (prelabel_inj (heads H r) (heads H s) (same_true (prelabel (heads H r)) (prelabel (heads H s)) e)))
  gate_comm r s false e h = refl

  -- either order gives the same tree, or a clash at the same place
  mutual
    pub join_comm : (a b : Node) → Alike H a b → join H a b ≡ join H b a
    join_comm (inner r) (inner s) h =
        gate_comm r s (same (prelabel (heads H r)) (prelabel (heads H s))) refl (λ e. join_run_comm r s e)
        ∙ ap (λ (b : Bool). cond b (wrap (join_run H s r)) (clash [])) (same_comm (prelabel (heads H r)) (prelabel (heads H s)))
    join_comm (inner r) (leaf u m) h = refl
    join_comm (leaf t l) (inner s) h = refl
    join_comm (leaf t l) (leaf u m) h = λ i. ok (leaf (h.types i) (h.labels i))

    pub join_run_comm : (r s : Run) → heads H r ≡ heads H s → join_run H r s ≡ join_run H s r
    join_run_comm nil nil e = refl
    join_run_comm nil (cons m s) e = absurd (nil_cons e)
    join_run_comm (cons n r) nil e = absurd (nil_cons (sym e))
    join_run_comm (cons n r) (cons m s) e =
        ap₂ both
        (join_comm n m (first_alike H n m r s e))
        (join_run_comm r s (cons_tail e))

  -- where a joins b and then d, b joins d and a joins that, to the same tree
  pub join_assoc : (a b c d e : Node) → Alike H a b → Alike H c d → join H a b ≡ ok c → join H c d ≡ ok e
      → (f : Node) × (join H b d ≡ ok f) × (join H a f ≡ ok e)
  join_assoc a b c d e h k p q =
      let ab : Joined H a b c = join_ok H a b c h p in
      let cd : Joined H c d e = join_ok H c d e k q in
      let ae : Le H a e = le_trans H a c e ab.left cd.left in
      let be : Le H b e = le_trans H b c e ab.right cd.left in
      let bd : (f : Node) × (join H b d ≡ ok f) = join_below H b d e be cd.right in
      let jf : Joined H b d bd.0 = join_ok H b d bd.0 (below_alike H b d e be cd.right) bd.1 in
      let fe : Le H bd.0 e = jf.least e be cd.right in
      let af : (g : Node) × (join H a bd.0 ≡ ok g) = join_below H a bd.0 e ae fe in
      let jg : Joined H a bd.0 af.0 = join_ok H a bd.0 af.0 (below_alike H a bd.0 e ae fe) af.1 in
      let bg : Le H b af.0 = le_trans H b bd.0 af.0 jf.left jg.right in
      let dg : Le H d af.0 = le_trans H d bd.0 af.0 jf.right jg.right in
      let eg : Le H e af.0 = cd.least af.0 (ab.least af.0 jg.left bg) dg in
      (bd.0, bd.1, af.1 ∙ ap ok (le_antisym H af.0 e (jg.least e ae fe) eg))
