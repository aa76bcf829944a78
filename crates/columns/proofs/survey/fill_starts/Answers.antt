use Rattle.std.proofs.Common.{ℕ, ap, ◌∙◌, arith}
use Rattle.columns.specs.Columns.{back}
use Rattle.columns.proofs.Surveying.{started_more}
use Rattle.columns.proofs.survey.fill_starts.Goals as goal

pub loop-i-preserved : goal.loop-i-preserved
loop-i-preserved c =
    let l = c.loop-i in
    let e = c.first_row.ensures in
    started_more _ l.starts l.i _ (omega arith) l.invariant (e.0 ∙ ap (λ (k : ℕ). back l.starts k l.i) c.from.ensures) e.1
