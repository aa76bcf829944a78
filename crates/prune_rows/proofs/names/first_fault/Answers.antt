use Rattle.std.proofs.Common.{◌≡◌, ◌<◌, ◌+◌, ℕ, ◌&&◌, leb, ltb, length, drop, get_or, sym, ap, ◌∙◌, arith}
use Rattle.tables.specs.PruningList.{first_fault}
use Rattle.prune_rows.proofs.Naming.{fault_here, fault_later, fault_none}
use Rattle.prune_rows.proofs.names.first_fault.Goals as goal
use Rattle.prune_rows.proofs.names.first_fault.Goals.{After-may_follow}

-- what the test of the list's number i says
told : (c : After-may_follow) →
    let a = c.args in
    let l = c.loop-i in
    let x = get_or a.list.now l.i 0 in
    ((leb l.low x && ltb 0 (get_or a.counts.now x 0)) ≡ c.may_follow.result) × (l.i < length a.list.now)
told c = (rw c.from-x.ensures at (sym c.may_follow.ensures), c.loop-i-test.true)

pub returns-then-not-may_follow-clause-first : goal.returns-then-not-may_follow-clause-first
returns-then-not-may_follow-clause-first c =
    let l = c.loop-i in
    let t = (told (goal.at.returns-then-not-may_follow-clause-first c).After-may_follow) in
    sym (l.invariant ∙ fault_here _ _ l.i l.low t.1 (t.0 ∙ c.if-not-may_follow.true))

pub loop-i-preserved : goal.loop-i-preserved
loop-i-preserved c =
    let a = c.args in
    let l = c.loop-i in
    let t = (told (goal.at.loop-i-preserved c).After-may_follow) in
    l.invariant
    ∙ fault_later _ _ l.i l.low t.1 (t.0 ∙ c.if-not-may_follow.false)
    ∙ ap (λ (x : ℕ). first_fault a.counts.now (l.i + 1) (x + 1) (drop (l.i + 1) a.list.now)) (sym c.from-x.ensures)

pub returns-clause-first : goal.returns-clause-first
returns-clause-first c =
    let l = c.loop-i in
    let end : length c.args.list.now ≡ l.i = omega (arith, l.auto.i-end, c.loop-i-test.false) in
    end ∙ sym (l.invariant ∙ fault_none _ _ l.i l.low c.loop-i-test.false)
