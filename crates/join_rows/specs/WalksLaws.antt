-- The walk in step joins: a node from its run, a run from its last child and those before it.
use Rattle.std.specs.Prelude.{◌≡◌, refl, Result, Ok, Err, List, [], ◌∷◌, ◌++◌, map, ℕ, ◌+◌, ◌-◌, ◌≤◌, length, drop}
use Rattle.std.proofs.Common.{sym, ap, ◌∙◌, subst, append_assoc, arith, length-append}
use Rattle.trees.specs.Nodes.{Node, Run, inner, count, size, sizes, heads}
use Rattle.trees.proofs.OrderLaws.{le_heads}
use Rattle.trees.specs.Join.{Joint, ok, clash, JointRun, ok_run, clash_at, wrap, join, join_run}
use Rattle.trees.proofs.JoinLaws.{GoodRun}
use Rattle.trees.specs.Rows.{number_in}
use Rattle.tables.specs.Tables.{sum}
use Rattle.std.specs.Result.{result_unwrap_or}
use Rattle.join_rows.specs.declared.plan.Clash.{Clash}
use Rattle.lists.specs.Lists.{upto, At}
use Rattle.lists.specs.ListsLaws.{at_names, names_append}
use Rattle.join_rows.specs.Faces.{Face, of_inner, no_face, faces, faces_in}
use Rattle.join_rows.specs.FacesLaws.{length_faces}
use Rattle.join_rows.specs.Runs.{snoc, sizes_snoc, number_last, number_front, both_last, Within, faces_snoc, join_snoc, join_within}
use Rattle.join_rows.specs.JoinWeight.{Light, join_light}
use Rattle.join_rows.specs.Walks.{earlier_of, PutGives, Placed, Said, SaidRun}
use Rattle.join_rows.specs.StartsLaws.{inner_at}

-- what is placed in front of what is placed
pub placed_more : {fs : List Face} {at mid low : ℕ} {p q s : List ℕ} {x y : List Face} → Placed fs at mid p q y → Placed fs mid low q s x
    → Placed fs at low p s (x ++ y)
placed_more {fs} {at} {mid} {low} {p} {q} {s} {x} {y} g h =
    record {
      cells = h.cells ++ g.cells;
      spent = omega (arith, g.spent, h.spent, length-append x y);
      is = h.is ∙ ap (λ (l : List ℕ). h.cells ++ l) g.is ∙ sym (append_assoc h.cells g.cells (drop at p));
      names = names_append no_face fs h.cells g.cells x y h.names g.names;
    }

-- rows that are put show what stands there
pub placed_put : {fs : List Face} {from to at low : ℕ} {p q : List ℕ} (x : List Face) → PutGives from to at p q low → At no_face fs from x
    → from + length x ≡ to → length x ≤ at → Placed fs at low p q x
placed_put {fs} {from} {to} {at} {low} {p} {q} x g h e k =
    let n : to - from ≡ length x = omega arith in
    record {
      cells = upto from (length x);
      spent = subst (λ (m : ℕ). low + m ≡ at) n (g.spent (omega arith) (omega arith));
      is = subst (λ (m : ℕ). drop low q ≡ upto from m ++ drop at p) n (g.is (omega arith) (omega arith));
      names = at_names no_face fs from x h;
    }

-- the join has no more nodes than both trees together
abbrev Small : Node → Node → Joint → Type 0
Small a b (ok c) = size c ≤ size a + size b
Small a b (clash p) = Unit {0}

ones : (fs : List Face) → sum (map (λ f. 1) fs) ≡ length fs
unfolding sum
ones [] = refl
ones (f ∷ fs) = let h = ones fs in omega arith

module _ (H : List ℕ → List ℕ) where
  pub join_small : (a b : Node) → Small a b (join H a b)
  join_small a b = go (join H a b) (join_light H (λ f. 1) (λ hs ks. refl) a b)
    where
      ones_node : (n : Node) → sum (map (λ f. 1) (faces H n)) ≡ size n
      ones_node n = ones (faces H n) ∙ length_faces H n

      go : (j : Joint) → Light H (λ f. 1) (λ hs ks. refl) a b j → Small a b j
      go (ok c) h = omega (arith, ones_node c, ones_node a, ones_node b)
      go (clash p) h = tt

  module _ (fs : List Face) where
    -- a clash in front, or the last child's, or both joined
    more_answers : (r s : Run) (n m : Node) (x y at : ℕ) (p q z : List ℕ) (front last : Result ℕ Clash) → count r ≡ count s
        → (j : Joint) → Small n m j → Said H fs n m (x + sizes r) (y + sizes s) at p q last j
        → (k : JointRun) → Within (count r) k → SaidRun H fs r s x y (result_unwrap_or last at) q z front k
        → SaidRun H fs (snoc r n) (snoc s m) x y at p z (earlier_of front last) (both_last (count r) k j)
    more_answers r s n m x y at p q z (Err front) last e j u g (clash_at i o) v h = (
      h.0 ∙ ap (λ (l : ℕ). x + l) (sym (number_front r n i o v)),
      h.1 ∙ ap (λ (l : ℕ). y + l) (sym (number_front s m i o (omega arith))),
    )
    more_answers r s n m x y at p q z (Ok low) (Err last) e (clash o) u g (ok_run t) v h = (
      g.0 ∙ omega (arith, number_last r n o),
      g.1 ∙ omega (arith, number_last s m o ∙ refl, ap (λ (l : ℕ). number_in (snoc s m) l o) e),
    )
    more_answers r s n m x y at p q z (Ok low) (Ok mid) e (ok c) u g (ok_run t) v h = λ room.
        let in_last : Placed fs at mid p q (faces H c) = g (omega (arith, sizes_snoc r n, sizes_snoc s m)) in
        let in_front : Placed fs mid low q z (faces_in H t) =
        h (omega (arith, in_last.spent, length_faces H c, sizes_snoc r n, sizes_snoc s m)) in
        subst (Placed fs at low p z) (sym (faces_snoc H t c)) (placed_more in_last in_front)
    more_answers r s n m x y at p q z (Err front) last e j u g (ok_run t) v h = absurd h
    more_answers r s n m x y at p q z (Ok low) last e j u g (clash_at i o) v h = absurd h
    more_answers r s n m x y at p q z (Ok low) (Err last) e (ok c) u g (ok_run t) v h = absurd g
    more_answers r s n m x y at p q z (Ok low) (Ok mid) e (clash o) u g (ok_run t) v h = absurd g

    -- a run from its last child and those before it
    pub run_more : (r s : Run) (n m : Node) (x y at : ℕ) (p q z : List ℕ) (front last : Result ℕ Clash) → count r ≡ count s
        → Said H fs n m (x + sizes r) (y + sizes s) at p q last (join H n m)
        → SaidRun H fs r s x y (result_unwrap_or last at) q z front (join_run H r s)
        → SaidRun H fs (snoc r n) (snoc s m) x y at p z (earlier_of front last) (join_run H (snoc r n) (snoc s m))
    run_more r s n m x y at p q z front last e g h =
        subst (SaidRun H fs (snoc r n) (snoc s m) x y at p z (earlier_of front last)) (sym (join_snoc H r s n m e))
        (more_answers r s n m x y at p q z front last e (join H n m) (join_small n m) g (join_run H r s) (join_within H r s) h)

    -- a node from its run
    pub node_wraps : (r s : Run) (x y at mid : ℕ) (p q z : List ℕ) (w : Result ℕ Clash) → At no_face fs x (faces H (inner r))
        → PutGives (x + sizes r) (x + sizes r + 1) at p q mid
        → (k : JointRun) → GoodRun H r s k → SaidRun H fs r s x y mid q z w k
        → Said H fs (inner r) (inner s) x y at p z w (wrap k)
    node_wraps r s x y at mid p q z (Ok low) h g (ok_run t) good said = λ room.
        let e : heads H r ≡ heads H t = le_heads H r t good.left in
        let k = inner_at H fs r x h in
        let root : Placed fs at mid p q (of_inner (heads H t) ∷ []) =
        placed_put (of_inner (heads H t) ∷ []) g (k.0, k.1 ∙ ap of_inner e, tt) (omega arith) (omega arith) in
        placed_more root (said (omega (arith, root.spent)))
    node_wraps r s x y at mid p q z (Err c) h g (clash_at i o) good said = said
    node_wraps r s x y at mid p q z (Err c) h g (ok_run t) good said = absurd said
    node_wraps r s x y at mid p q z (Ok low) h g (clash_at i o) good said = absurd said
