-- The walk from both roots gives the plan of the join.
use Rattle.std.specs.Prelude.{◌≡◌, Result, Ok, Err, List, [], ◌++◌, ℕ, ◌+◌, ◌-◌, ◌≤◌, length, drop}
use Rattle.std.proofs.Common.{sym, ap, ◌∙◌, subst, append-nil, zero-add, arith}
use Rattle.std.proofs.Math.Seq.{drop-length}
use Rattle.trees.specs.Nodes.{Node, size}
use Rattle.trees.specs.Join.{Joint, ok, clash, join}
use Rattle.trees.specs.Rows.{number}
use Rattle.join_rows.specs.declared.plan.Clash as code
use Rattle.columns.specs.declared.walkable.Columns.{Columns}
use Rattle.lists.specs.Lists.{At, Names}
use Rattle.lists.specs.ListsLaws.{at_part}
use Rattle.join_rows.specs.Faces.{Face, no_face, faces}
use Rattle.join_rows.specs.FacesLaws.{length_faces}
use Rattle.columns.specs.Columns.{SurveyGives}
use Rattle.join_rows.specs.Walks.{Placed, Said, NodeGives}
use Rattle.join_rows.specs.Plans.{TwoTables, PlannedAs}
use Rattle.join_rows.specs.StartsLaws.{root_last}
use Rattle.join_rows.specs.TwoLaws.{first_rows, all_rows, two_reads}

module _ (H : List ℕ → List ℕ) (a b : Node) (first : ℕ) (k : Columns)
    (h : TwoTables H a b first k.table.types.now k.table.counts.now k.table.lengths.now k.table.values.now k.labels.now)
    (g : SurveyGives k.table.counts.now k.table.lengths.now k.starts.now k.offsets.now) where
  abbrev fs : List Face
  fs = faces H a ++ faces H b

  second_at : At no_face fs first (faces H b)
  second_at =
      subst (λ (n : ℕ). At no_face fs n (faces H b)) (length_faces H a ∙ sym (first_rows H a b first _ _ _ _ _ h))
      (subst (λ (l : List Face). At no_face (faces H a ++ l) (length (faces H a)) (faces H b)) (append-nil (faces H b))
      (at_part no_face (faces H a) (faces H b) []))

  -- what the walk says of the two trees
  pub two_said : (p q : List ℕ) (at : ℕ) (w : Result ℕ code.Clash)
      → NodeGives k p q (first - 1) (length k.table.types.now - 1) at w
      → Said H fs a b 0 first at p q w (join H a b)
  two_said p q at w n =
      let rows : first ≡ size a = first_rows H a b first _ _ _ _ _ h in
      n.said H fs (two_reads H a b first _ _ _ _ _ h k.starts.now k.offsets.now g) a b 0 first
      (at_part no_face [] (faces H a) (faces H b)) second_at
      (omega (arith, root_last 0 a))
      (omega (arith, root_last first b, all_rows H a b first _ _ _ _ _ h))

  -- a clash, with the second tree's own entry number
  pub clash_planned : (p q : List ℕ) (at : ℕ) (w : code.Clash) (j : Joint) → Said H fs a b 0 first at p q (Err w) j
      → (first ≤ w.second) × PlannedAs H a b q (Err (record { first = w.first; second = w.second - first })) j
  clash_planned p q at w (ok c) s = absurd s
  clash_planned p q at w (clash o) s = (omega (arith, s.1), (s.0 ∙ zero-add (number a o), omega (arith, s.1)))

  -- the join's rows
  pub ok_planned : (p q : List ℕ) (at : ℕ) → length q ≡ length p → size a + size b ≤ length p
      → (j : Joint) → Said H fs a b 0 first (length p) p q (Ok at) j
      → PlannedAs H a b q (Ok (length p - at)) j
  ok_planned p q at l room (ok c) s =
      let x : Placed fs (length p) at p q (faces H c) = s room in
      let low : length q - (length p - at) ≡ at = omega (arith, x.spent) in
      let cells : x.cells ≡ drop (length q - (length p - at)) q =
      sym (append-nil x.cells)
      ∙ ap (λ (l : List ℕ). x.cells ++ l) (sym (drop-length p))
      ∙ sym x.is
      ∙ ap (λ (n : ℕ). drop n q) (sym low) in
      (omega (arith, x.spent, length_faces H c), subst (λ (l : List ℕ). Names no_face fs l (faces H c)) cells x.names)
  ok_planned p q at l room (clash o) s = absurd s
