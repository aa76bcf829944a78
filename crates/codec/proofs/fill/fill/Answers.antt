use Rattle.std.proofs.Common.{arith}
use Rattle.codec.specs.TableLaws.{row_small}
use Rattle.codec.proofs.ReadTurns.{started, went, ended_whole, ended_short}
use Rattle.codec.proofs.fill.fill.Goals as goal

pub loop-i-init : goal.loop-i-init
loop-i-init c = started _ _ _ _ _ _ c.requires

pub overflow_cast-types : goal.overflow_cast-types
overflow_cast-types c = omega (arith, (row_small _ _ _ c.in-Some.ensures.form).type)

pub overflow_cast-counts : goal.overflow_cast-counts
overflow_cast-counts c = omega (arith, (row_small _ _ _ c.in-Some.ensures.form).count)

pub loop-i-preserved : goal.loop-i-preserved
loop-i-preserved c =
    let l = c.loop-i in
    let p = c.requires in
    went l.invariant c.in-Some.row _ c.loop-i-test.true (omega (arith, p.types_room, l.auto.types)) (omega (arith, p.counts_room, l.auto.counts))
    (omega (arith, p.lengths_room, l.auto.lengths)) (omega (arith, p.values_room, l.auto.values)) c.in-Some.ensures c.copy.ensures

pub returns-in_default : goal.returns-in_default
returns-in_default c =
    let l = c.loop-i in
    let p = c.requires in
    ended_short l.invariant c.loop-i-test.true c.in_default.ensures (omega (arith, p.types_room, l.auto.types)) (omega (arith, p.counts_room, l.auto.counts))
    (omega (arith, p.lengths_room, l.auto.lengths)) (omega (arith, p.values_room, l.auto.values))

pub returns : goal.returns
returns c =
    let l = c.loop-i in
    let p = c.requires in
    ended_whole l.invariant c.loop-i-test.false (omega (arith, p.types_room, l.auto.types)) (omega (arith, p.counts_room, l.auto.counts))
    (omega (arith, p.lengths_room, l.auto.lengths)) (omega (arith, p.values_room, l.auto.values))
