use Rattle.std.proofs.Common.{◌≡◌, ◌<◌, get_or, length, sym, ◌∙◌, arith}
use Rattle.tables.specs.Tables.{row_fits}
use Rattle.tables.proofs.Rows.{bad_here, bad_later, bad_none}
use Rattle.tables.proofs.form.first_bad.Goals as goal
use Rattle.tables.proofs.form.first_bad.Goals.{After-row_fits, In-loop-i}

-- every column has row i
all_have : (c : In-loop-i) → (c.loop-i.i < length c.args.t.types.now) × (c.loop-i.i < length c.args.t.counts.now) × (c.loop-i.i < length c.args.t.lengths.now)
all_have c = let here = c.loop-i-test.true in (here, rw c.requires.0 here, rw c.requires.1 here)

-- what the test of row i says
row_told : (c : After-row_fits) →
    let t = c.args.t in
    let i = c.loop-i.i in
    row_fits (get_or t.types.now i 0) (get_or t.counts.now i 0) (get_or t.lengths.now i 0) ≡ c.row_fits.result
row_told c = rw (c.cell.ensures.0, c.cell-in-loop-i.ensures.0, c.cell-in-loop-i-2.ensures.0) at (sym c.row_fits.ensures)

pub returns-then-not-row_fits-clause-first : goal.returns-then-not-row_fits-clause-first
returns-then-not-row_fits-clause-first c =
    let l = c.loop-i in
    let h = all_have (goal.at.returns-then-not-row_fits-clause-first c).In-loop-i in
    sym (l.invariant ∙ bad_here _ _ _ l.i h.0 h.1 h.2 (row_told (goal.at.returns-then-not-row_fits-clause-first c).After-row_fits ∙ c.if-not-row_fits.true))

pub loop-i-preserved : goal.loop-i-preserved
loop-i-preserved c =
    let l = c.loop-i in
    let h = all_have (goal.at.loop-i-preserved c).In-loop-i in
    l.invariant ∙ bad_later _ _ _ l.i h.0 h.1 h.2 (row_told (goal.at.loop-i-preserved c).After-row_fits ∙ c.if-not-row_fits.false)

pub returns-clause-first : goal.returns-clause-first
returns-clause-first c =
    let t = c.args.t in
    let l = c.loop-i in
    let end : length t.types.now ≡ l.i = omega (arith, l.auto.i-end, c.loop-i-test.false) in
    end ∙ sym (l.invariant ∙ bad_none t.types.now _ _ l.i c.loop-i-test.false)
