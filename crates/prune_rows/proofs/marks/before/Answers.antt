use mathlib.Core.Path.{sym, ◌∙◌}
use native.Mathlib.Omega.{arith}
use Rattle.prune_rows.proofs.Naming.{before_miss, before_hit}
use Rattle.prune_rows.proofs.marks.before.Goals as goal

pub returns-then-k-eq0 : goal.returns-then-k-eq0
returns-then-k-eq0 c =
    let a = c.args in
    λ rising b. before_miss a.list.now a.i a.k rising b (λ some. absurd (omega arith))

pub returns-then-cell-i : goal.returns-then-cell-i
returns-then-cell-i c =
    let a = c.args in
    λ rising b. before_hit a.list.now a.i a.k rising b (omega arith) (sym c.cell.ensures.0 ∙ c.if-cell-i.true)

pub returns : goal.returns
returns c =
    let a = c.args in
    λ rising b. before_miss a.list.now a.i a.k rising b (λ some e. c.if-cell-i.false (c.cell.ensures.0 ∙ e))
