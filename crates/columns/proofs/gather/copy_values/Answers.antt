use Rattle.std.proofs.Common.{◌+◌, ◌-◌, ◌≤◌, ◌<◌, length, take, drop, get_or, length-take, length-drop, ◌++◌, refl, arith}
use borrow.Rule.Slice.PartMut.{mid_of, post_of}
use Rattle.columns.specs.Columns.{value_at}
use Rattle.columns.specs.Gathers.{cell_of}
use Rattle.columns.proofs.Gathering.{sum_step, sum_end, values_more, values_done, copied, value_is, value_long}
use Rattle.columns.proofs.gather.copy_values.Goals as goal
use Rattle.columns.proofs.gather.copy_values.Goals.{In-loop-row}

-- the plan's row has its cells and its value, and the area has room for that
fits : (c : In-loop-row) →
    let l = c.loop-row in
    let a = c.args in
    let x = get_or a.plan.now l.row-index 0 in
    (x < length a.t.lengths.now)
    × (x < length a.offsets.now)
    × (get_or a.offsets.now x 0 + get_or a.t.lengths.now x 0 ≤ length a.t.values.now)
    × (l.used + get_or a.t.lengths.now x 0 ≤ length l.out)
fits c =
    let l = c.loop-row in
    let a = c.args in
    let p = c.requires in
    let h = p.0 l.row-index (omega arith) in
    let s = sum_step (cell_of a.t.lengths.now) a.plan.now l.row-index (omega arith) in
    (h, omega (arith, h, p.1), p.2 _ h, omega (arith, s, l.invariant.0, l.auto.out, p.3))

pub copy-requires : goal.copy-requires
copy-requires c =
    let f = fits (goal.at.copy-requires c).In-loop-row in
    simp (length-take, length-drop) (omega (arith, f.2, f.3, c.from-length.ensures))

pub loop-row-preserved : goal.loop-row-preserved
loop-row-preserved c =
    let l = c.loop-row in
    let a = c.args in
    let f = fits (goal.at.loop-row-preserved c).In-loop-row in
    let s = sum_step (cell_of a.t.lengths.now) a.plan.now l.row-index (omega arith) in
    let n = c.from-length in
    let x = get_or a.plan.now l.row-index 0 in
    let y = c.copy in
    let o = get_or a.offsets.now x 0 in
    let w = take (o + n.result - o) (drop o a.t.values.now) in
    let m = length l.out - l.used in
    let tail = drop (length w) (mid_of l.used m l.out) in
    let post = post_of l.used m l.out in (
      omega (arith, s, l.invariant.0, n.ensures),
      values_more (value_at a.t.lengths.now a.t.values.now a.offsets.now) a.plan.now l.out (y.new.dst ++ post) _ l.row-index l.used
          n.result w (tail ++ post) (omega arith) (omega (arith, f.3))
          (value_is a.t.lengths.now a.t.values.now a.offsets.now x n.result n.ensures)
          (value_long a.t.lengths.now a.t.values.now a.offsets.now x n.result n.ensures f.2)
          (copied y.new.dst w tail post (length w) refl y.ensures.1) l.invariant.1,
    )

pub returns : goal.returns
returns c =
    let l = c.loop-row in
    let a = c.args in (
      omega (arith, l.invariant.0, sum_end (cell_of a.t.lengths.now) a.plan.now l.row-index (omega arith)),
      values_done (value_at a.t.lengths.now a.t.values.now a.offsets.now) a.plan.now l.out _ l.row-index l.used (omega arith) l.invariant.1,
    )
