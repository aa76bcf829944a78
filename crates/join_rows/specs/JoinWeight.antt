-- Whatever is weighed of each face, the join weighs no more than both trees together.
use Rattle.std.specs.Prelude.{◌≡◌, Bool, true, false, cond, List, [], ◌∷◌, ◌++◌, map, ℕ, ◌+◌, ◌≤◌}
use Rattle.std.proofs.Common.{ap, ◌∙◌, arith}
use Rattle.std.proofs.lemmas.List.{map-append}
use Rattle.lists.specs.Lists.{same}
use Rattle.trees.specs.Nodes.{Node, Run, inner, leaf, nil, cons, Head, prelabel, heads}
use Rattle.trees.specs.Join.{Joint, ok, clash, JointRun, ok_run, clash_at, wrap, both, join, join_run}
use Rattle.tables.specs.Tables.{sum}
use Rattle.tables.specs.TablesLaws.{sum_append}
use Rattle.join_rows.specs.Faces.{Face, of_inner, faces, faces_in}

-- w weighs a face, and the same of every internal node
module _ (H : List ℕ → List ℕ) (w : Face → ℕ) (flat : (hs ks : List Head) → w (of_inner hs) ≡ w (of_inner ks)) where
  abbrev pub weigh : List Face → ℕ
  weigh fs = sum (map w fs)

  weigh_append : (x y : List Face) → weigh (x ++ y) ≡ weigh x + weigh y
  weigh_append x y = ap sum (map-append w x y) ∙ sum_append (map w x) (map w y)

  abbrev pub Light : Node → Node → Joint → Type 0
  Light a b (ok c) = weigh (faces H c) ≤ weigh (faces H a) + weigh (faces H b)
  Light a b (clash p) = Unit {0}

  abbrev pub LightRun : Run → Run → JointRun → Type 0
  LightRun r s (ok_run t) = weigh (faces_in H t) ≤ weigh (faces_in H r) + weigh (faces_in H s)
  LightRun r s (clash_at i p) = Unit {0}

  light_wrap : (r s : Run) (k : JointRun) → LightRun r s k → Light (inner r) (inner s) (wrap k)
  light_wrap r s (ok_run t) h =
      omega (
        arith,
        weigh_append (faces_in H t) (of_inner (heads H t) ∷ []),
        weigh_append (faces_in H r) (of_inner (heads H r) ∷ []),
        weigh_append (faces_in H s) (of_inner (heads H s) ∷ []),
        alone (heads H t),
      )
    where
      alone : (hs : List Head) → weigh (of_inner hs ∷ []) ≡ weigh (of_inner (heads H r) ∷ [])
      alone hs = ap (λ (n : ℕ). sum (n ∷ [])) (flat hs (heads H r))
  light_wrap r s (clash_at i p) h = tt

  light_both : (n m : Node) (r s : Run) (j : Joint) (k : JointRun) → Light n m j → LightRun r s k → LightRun (cons n r) (cons m s) (both j k)
  light_both n m r s (ok c) (ok_run t) f g =
      omega (
        arith,
        weigh_append (faces H c) (faces_in H t),
        weigh_append (faces H n) (faces_in H r),
        weigh_append (faces H m) (faces_in H s),
      )
  light_both n m r s (ok c) (clash_at i p) f g = tt
  light_both n m r s (clash p) k f g = tt

  light_gate : (r s : Run) (b : Bool) → LightRun r s (join_run H r s) → Light (inner r) (inner s) (cond b (wrap (join_run H r s)) (clash []))
  light_gate r s true h = light_wrap r s (join_run H r s) h
  light_gate r s false h = tt

  mutual
    pub join_light : (a b : Node) → Light a b (join H a b)
    join_light (inner r) (inner s) = light_gate r s (same (prelabel (heads H r)) (prelabel (heads H s))) (join_run_light r s)
    join_light (inner r) (leaf u m) = omega arith
    join_light (leaf t l) (inner s) = omega arith
    join_light (leaf t l) (leaf u m) = omega arith

    pub join_run_light : (r s : Run) → LightRun r s (join_run H r s)
    join_run_light nil s = omega arith
    join_run_light (cons n r) nil = omega arith
    join_run_light (cons n r) (cons m s) = light_both n m r s (join H n m) (join_run H r s) (join_light n m) (join_run_light r s)
