use Prim.Native.Nat.{ℕ, ◌+◌, ◌≤◌, ◌<◌}
use mathlib.Core.Path.{refl, ap, ◌∙◌}
use native.Mathlib.Omega.{arith}
use Rattle.std.proofs.Common.{map}
use Rattle.std.proofs.lemmas.List.{length-map}
use lib.ListN.{length, get_or, length-take, length-drop}
use Rattle.pick_rows.proofs.Picking.{value_part, label_part, mark_held, value_in, value_room, going_none, going_puts, going_more, going_all}
use Rattle.pick_rows.proofs.pick.Given.{Over}
use Rattle.pick_rows.proofs.pick.Goals as goal
use Rattle.pick_rows.proofs.pick.Goals.{In-loop-i}

pub loop-i-init : goal.loop-i-init
loop-i-init g c = (refl, refl, refl, refl, going_none c.requires.pick_asks _ _ _ _)

module _ (g : Over) where
  -- row i has a mark, and its value stands in the area
  marked : (c : In-loop-i g) → c.loop-i.i < length (map g.M.Marking.read c.args.marks.now)
  marked c = omega (arith, length-map c.args.marks.now g.M.Marking.read, c.requires.pick_room.1, c.loop-i-test.true)

  value_there : (c : In-loop-i g) → c.loop-i.at + get_or c.args.t.lengths.now c.loop-i.i 0 ≤ length c.args.t.values.now
  value_there c = value_in c.requires.pick_asks c.loop-i.invariant.4 c.loop-i-test.true (marked c)

pub overflow_add-end : goal.overflow_add-end
overflow_add-end g c =
    omega (arith, value_there g (goal.at.overflow_add-end g c).In-loop-i, c.cell.ensures.0, c.well_formed)

pub slice_bounds-turn-end : goal.slice_bounds-turn-end
slice_bounds-turn-end g c =
    omega (arith, value_there g (goal.at.slice_bounds-turn-end g c).In-loop-i, c.cell.ensures.0)

pub turn-p-requires : goal.turn-p-requires
turn-p-requires g c =
    let p = c.requires in
    let a = c.args in
    let l = c.loop-i in
    let r = p.pick_room.0 in
    let here : l.i < length a.t.types.now = c.loop-i-test.true in
    let some = marked g (goal.at.turn-p-requires g c).In-loop-i in (
      λ e. p.pick_asks.cuts l.i here (mark_held _ _ some c.index-marks-i.is c.mark.ensures ∙ e),
      simp (length-take, length-drop) (omega (arith, here, p.pick_asks.labels_room)),
      going_puts p.pick_asks l.invariant.4 here some _ (value_part a.t.values.now l.at c.cell.result _ c.cell.ensures.0)
          (omega (arith, r.types_room, l.invariant.0)) (omega (arith, r.counts_room, l.invariant.1)) (omega (arith, r.lengths_room, l.invariant.2))
          (omega (arith, r.values_room, l.invariant.3)),
      value_room p.pick_asks l.invariant.4 here some (length l.values2) (omega (arith, r.values_room, l.invariant.3)),
    )

pub loop-i-preserved : goal.loop-i-preserved
loop-i-preserved g c =
    let a = c.args in
    let l = c.loop-i in
    let turn = c.turn-p in
    let cell = c.cell in
    let here : l.i < length a.t.types.now = c.loop-i-test.true in
    let some = marked g (goal.at.loop-i-preserved g c).In-loop-i in (
      turn.auto.types2 ∙ l.invariant.0,
      turn.auto.counts2 ∙ l.invariant.1,
      turn.auto.lengths2 ∙ l.invariant.2,
      turn.auto.values2 ∙ l.invariant.3,
      going_more c.requires.pick_asks l.invariant.4 here some _ _
          (value_part a.t.values.now l.at cell.result _ cell.ensures.0) (label_part a.labels.now l.i)
          (mark_held _ _ some c.index-marks-i.is c.mark.ensures) (ap (λ (k : ℕ). l.at + k) cell.ensures.0) turn.ensures,
    )

pub returns : goal.returns
returns g c = going_all c.requires.pick_asks c.loop-i-test.false c.loop-i.auto.i-end c.loop-i.invariant.4
