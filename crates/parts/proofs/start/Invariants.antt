use Rattle.std.proofs.Common.{◌≤◌, length}
use Rattle.parts.proofs.start.Given as goal

abbrev pub invariant-loop-length : goal.invariant-loop-length
invariant-loop-length l = l.at ≤ length l.area
