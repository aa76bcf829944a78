use Rattle.std.proofs.Common.{◌<◌, length, sym, ap, ◌∙◌, arith}
use Rattle.lookup.specs.Lookup.{At}
use Rattle.lookup.proofs.Rows.{first_here, first_later, first_none}
use Rattle.lookup.proofs.held.first_of.Goals as goal
use Rattle.lookup.proofs.held.first_of.Goals.{In-loop-i}

-- both columns have row i
both_have : (c : In-loop-i) → (c.loop-i.i < length c.args.t.types.now) × (c.loop-i.i < length c.args.t.lengths.now)
both_have c = (c.loop-i-test.true, rw c.requires.0 c.loop-i-test.true)

pub returns-then-other-kind : goal.returns-then-other-kind
returns-then-other-kind c =
    let l = c.loop-i in
    let h = both_have (goal.at.returns-then-other-kind c).In-loop-i in
    sym (l.invariant.1 ∙ first_here _ l.start _ _ l.i h.0 h.1 c.if-other-kind.true ∙ ap (At l.start) (sym c.cell-size.ensures.0))

pub loop-i-preserved : goal.loop-i-preserved
loop-i-preserved c =
    let l = c.loop-i in
    let h = both_have (goal.at.loop-i-preserved c).In-loop-i in
    let rest = l.invariant.1 ∙ first_later _ l.start _ _ l.i h.0 h.1 c.if-other-kind.false in
    (omega (arith, c.cell-size.ensures.1, l.invariant.0), rw c.cell-size.ensures.0 rest)

pub returns : goal.returns
returns c =
    let l = c.loop-i in
    let a = c.args in
    sym (l.invariant.1 ∙ first_none a.kind l.start a.t.types.now _ l.i c.loop-i-test.false)
