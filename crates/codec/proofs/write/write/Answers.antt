use mathlib.Core.Path.{◌∙◌}
use native.Mathlib.Omega.{arith}
use Rattle.codec.proofs.WriteTurns.{Cells, value_fits, row_form, row_room, turned, closed, head_room, rows_room, written}
use Rattle.codec.proofs.write.write.Goals as goal
use Rattle.codec.proofs.write.write.Goals.{After-cell}

pub write_head-pen-requires : goal.write_head-pen-requires
write_head-pen-requires c =
    let t = c.args.t in
    (c.requires.form.columns.few, head_room t.types.now t.counts.now t.lengths.now t.values.now c.args.out.now c.requires)

-- what the cells of row i tell
row : (c : After-cell) → Cells c.args.t.types.now c.args.t.counts.now c.args.t.lengths.now c.loop-i.i c.cell-kind.result c.cell-count.result c.cell.result
row c = record { within = c.loop-i-test.true; type = c.cell-kind.ensures.0; count = c.cell-count.ensures.0; size = c.cell.ensures.0 }

pub slice_bounds-write_row-end : goal.slice_bounds-write_row-end
slice_bounds-write_row-end c =
    value_fits c.loop-i.invariant.0 c.requires.form.columns (row (goal.at.slice_bounds-write_row-end c).After-cell)

pub write_row-requires : goal.write_row-requires
write_row-requires c =
    let l = c.loop-i in
    let h = c.write_head-pen in
    let r = row (goal.at.write_row-requires c).After-cell in (
      row_form l.invariant.0 c.requires.form.columns r,
      row_room l.invariant.0 c.requires.form.columns r (rows_room _ _ _ _ c.args.out.now c.requires h.result h.new.out h.ensures h.auto.out) l.invariant.1,
    )

pub loop-i-preserved : goal.loop-i-preserved
loop-i-preserved c =
    let l = c.loop-i in
    let w = c.write_row in
    (turned l.invariant.0 c.requires.form.columns (row (goal.at.loop-i-preserved c).After-cell) w.new.pen w.new.out w.ensures, w.auto.out ∙ l.invariant.1)

pub finish-requires : goal.finish-requires
finish-requires c =
    let l = c.loop-i in
    let h = c.write_head-pen in
    let r = rows_room _ _ _ _ c.args.out.now c.requires h.result h.new.out h.ensures h.auto.out in
    let w = closed l.invariant.0 c.requires.form.columns c.loop-i-test.false in
    (w.ready, omega (arith, w.size, r.fits, l.invariant.1))

pub returns : goal.returns
returns c =
    let l = c.loop-i in
    let h = c.write_head-pen in
    let f = c.finish in
    written _ _ _ _ c.args.out.now c.requires h.result h.new.out l.pen l.out f.result f.new.out h.ensures
    (closed l.invariant.0 c.requires.form.columns c.loop-i-test.false) f.ensures
