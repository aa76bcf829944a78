use Rattle.columns.specs.Columns.{Started}
use Rattle.columns.proofs.survey.fill_starts.Given as goal

abbrev pub invariant-loop-i : goal.invariant-loop-i
invariant-loop-i l = Started l.counts l.starts l.i
