use Rattle.std.proofs.Common.{sym, arith}
use Rattle.columns.proofs.Surveying.{sum_none, sum_take, offsets_more}
use Rattle.columns.proofs.survey.fill_offsets.Goals as goal

pub loop-i-init : goal.loop-i-init
loop-i-init c = (omega arith, sym sum_none, λ x h. absurd (omega arith))

pub loop-i-preserved : goal.loop-i-preserved
loop-i-preserved c =
    let l = c.loop-i in
    let ls = c.args.lengths.now in (
      omega arith,
      omega (arith, sum_take ls l.i (omega arith)),
      offsets_more ls l.offsets l.i l.total (omega arith) l.invariant.1 l.invariant.2,
    )
