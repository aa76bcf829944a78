use Rattle.trees.specs.Join.{join}
use Rattle.sha256.specs.Sha256 as Sha256
use Rattle.join_rows.specs.TwoLaws.{two_ready}
use Rattle.merge.proofs.Merging.{unclashed, clash_joined, plan_long, plan_table, plan_asks, rows_joined}
use Rattle.merge.proofs.merge_in.Goals as goal

pub invariant_of-c : goal.invariant_of-c
invariant_of-c g c =
    let m = c.requires.0 in
    record { walkable = two_ready Sha256.label m.a m.b c.args.first _ _ _ _ _ m.two _ _ c.survey.ensures }

pub overflow_sub-cells : goal.overflow_sub-cells
overflow_sub-cells g c =
    let m = c.requires.0 in
    (plan_long (unclashed Sha256.label m.a m.b c.plan.new.plan c.in-Ok.rows (join Sha256.label m.a m.b) (c.in-Ok.ensures Sha256.label m.a m.b m.two))).0

pub hand_out-requires : goal.hand_out-requires
hand_out-requires g c = λ few.
    let m = c.requires.0 in
    plan_asks c.args.t c.survey.ensures few m (unclashed Sha256.label m.a m.b c.plan.new.plan c.in-Ok.rows (join Sha256.label m.a m.b) (c.in-Ok.ensures Sha256.label m.a m.b m.two))

pub returns-in-Ok : goal.returns-in-Ok
returns-in-Ok g c a b h alike l =
    let x = unclashed Sha256.label a b c.plan.new.plan c.in-Ok.rows (join Sha256.label a b) (c.in-Ok.ensures Sha256.label a b h) in
    rw c.from.ensures
    (rows_joined x _ alike l c.hand_out.ensures.large
    (λ few e. c.hand_out.ensures.fits few x.tree (plan_table c.args.t c.survey.ensures few h x) e))

pub returns-in-Err : goal.returns-in-Err
returns-in-Err g c a b h alike l =
    clash_joined Sha256.label a b c.plan.new.plan c.in-Err.clash (join Sha256.label a b) _ (c.in-Err.ensures Sha256.label a b h) c.clashed.ensures
