use Rattle.std.proofs.Common.{arith, sym, ◌∙◌, subst}
use Rattle.columns.specs.ColumnsLaws.{some_left}
use Rattle.join_rows.specs.Walks.{RunGives}
use Rattle.join_rows.specs.RunSteps.{earlier_low, none_said, run_said}
use Rattle.join_rows.proofs.Meeting.{node_clash, node_take, node_both}
use Rattle.join_rows.proofs.walk.+node_run.Goals as goal

pub node-returns-in-Clash : goal.node-returns-in-Clash
node-returns-in-Clash t c = let a = c.args in node_clash a.c a.plan.now a.i a.j a.at c.meet.result c.meet.ensures c.in-Clash.is

pub node-returns-in-Take : goal.node-returns-in-Take
node-returns-in-Take t c =
    let a = c.args in node_take a.c a.plan.now _ a.i a.j a.at _ _ c.meet.result c.meet.ensures c.in-Take.is c.put.ensures

pub node-returns-in-Both : goal.node-returns-in-Both
node-returns-in-Both t c =
    let a = c.args in
    node_both a.c a.plan.now _ _ a.i a.j a.at _ _ _ c.meet.result c.meet.ensures c.in-Both.is c.put-top.ensures c.from.ensures c.run.ensures

pub run-returns-then-none_left : goal.run-returns-then-none_left
run-returns-then-none_left t c =
    let a = c.args in
    record {
      low = omega arith;
      said = λ H fs reads. none_said H fs _ _ _ _ _ _ _ reads a.count a.e a.f a.at a.plan.now (sym c.none_left.ensures ∙ c.if-none_left.true);
    }

pub run-returns : goal.run-returns
run-returns t c =
    let a = c.args in
    let z = some_left a.count a.e a.f (sym c.none_left.ensures ∙ c.if-none_left.false) in
    let n = c.node-last in
    let r = c.run-front in
    let front = rw c.unwrap_or-low.ensures at r.ensures in
    subst (RunGives a.c a.plan.now _ a.e a.f a.count a.at) (sym c.earlier.ensures)
    (record {
      low = earlier_low r.result n.result a.at n.ensures.low front.low;
      said = λ H fs reads. run_said H fs _ _ _ _ _ _ _ reads a.count a.e a.f a.at a.plan.now _ _ r.result n.result
          (n.ensures.said H fs reads) (front.said H fs reads) z.0;
    })
