use Rattle.std.proofs.Common.{◌≤◌, length}
use Rattle.row_lines.proofs.places.depth.Given as goal

abbrev pub invariant-loop-i : goal.invariant-loop-i
invariant-loop-i l = (l.above ≤ length l.counts) × (l.above ≤ l.i) × (l.waiting ≤ l.i)
