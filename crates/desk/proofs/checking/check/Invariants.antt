use Rattle.std.proofs.Common.{◌≤◌}
use Rattle.desk.proofs.checking.check.Given as goal

abbrev pub invariant-loop-i : goal.invariant-loop-i
invariant-loop-i g l = l.refused ≤ l.i
