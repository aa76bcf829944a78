use Rattle.std.proofs.Common.{◌≡◌, ◌-◌, ◌≤◌}
use Rattle.columns.specs.Columns.{back}
use Rattle.columns.proofs.survey.first_row.Given as goal

abbrev pub invariant-loop-k : goal.invariant-loop-k
invariant-loop-k l = (l.at ≤ l.end) × (back l.starts l.count l.end ≡ back l.starts (l.count - l._k) l.at)
