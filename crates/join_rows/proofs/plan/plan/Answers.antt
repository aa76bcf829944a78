use Rattle.std.proofs.Common.{arith, length, ◌+◌, ◌≤◌}
use Rattle.trees.specs.Nodes.{size}
use Rattle.trees.specs.Join.{join}
use Rattle.trees.proofs.NodesLaws.{some_size}
use Rattle.join_rows.specs.TwoLaws.{first_rows, first_low, all_rows}
use Rattle.join_rows.specs.PlanLaws.{two_said, clash_planned, ok_planned}
use Rattle.join_rows.proofs.plan.plan.Goals as goal

pub overflow_sub-j : goal.overflow_sub-j
overflow_sub-j c = let p = c.requires in omega (arith, first_low p.H p.a p.b c.args.first _ _ _ _ _ p.two)

pub overflow_sub-first : goal.overflow_sub-first
overflow_sub-first c = let p = c.requires in omega (arith, first_rows p.H p.a p.b c.args.first _ _ _ _ _ p.two, some_size p.a)

pub node-requires : goal.node-requires
node-requires c =
    let p = c.requires in
    let low = first_low p.H p.a p.b c.args.first _ _ _ _ _ p.two in
    let rows = first_rows p.H p.a p.b c.args.first _ _ _ _ _ p.two in
    (omega (arith, low, rows, some_size p.a), omega (arith, low), omega arith)

pub overflow_sub-result-in-Err : goal.overflow_sub-result-in-Err
overflow_sub-result-in-Err c =
    let a = c.args in
    let p = c.requires in
    let said = two_said p.H p.a p.b a.first a.c p.two p.surveyed a.plan.now c.node.new.plan (length a.plan.now) _ c.in-Err.ensures in
    (clash_planned p.H p.a p.b a.first a.c p.two p.surveyed a.plan.now c.node.new.plan (length a.plan.now) c.in-Err.clash (join p.H p.a p.b) said).0

pub returns-in-Ok : goal.returns-in-Ok
returns-in-Ok c = λ H x y h.
    let a = c.args in
    let p = c.requires in
    let said = two_said H x y a.first a.c h p.surveyed a.plan.now c.node.new.plan (length a.plan.now) _ c.in-Ok.ensures in
    let room : size x + size y ≤ length a.plan.now = omega (arith, p.room, all_rows H x y a.first _ _ _ _ _ h) in
    ok_planned H x y a.first a.c h p.surveyed a.plan.now c.node.new.plan c.in-Ok.at c.node.auto.plan room (join H x y) said

pub returns-in-Err : goal.returns-in-Err
returns-in-Err c = λ H x y h.
    let a = c.args in
    let p = c.requires in
    let said = two_said H x y a.first a.c h p.surveyed a.plan.now c.node.new.plan (length a.plan.now) _ c.in-Err.ensures in
    (clash_planned H x y a.first a.c h p.surveyed a.plan.now c.node.new.plan (length a.plan.now) c.in-Err.clash (join H x y) said).1
