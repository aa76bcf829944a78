use Rattle.std.proofs.Common.{arith}
use Rattle.join_rows.proofs.Putting.{put_more}
use Rattle.join_rows.proofs.walk.put.Goals as goal

pub loop-row-preserved : goal.loop-row-preserved
loop-row-preserved c =
    let l = c.loop-row in
    let a = c.args in
    record {
      left = omega arith;
      within = omega arith;
      above = λ h. omega arith;
      is = put_more l.plan a.plan.now l.low l.row a.to a.at c.if-low-eq0.false (omega arith) l.invariant.within (omega arith) l.invariant.is;
    }
