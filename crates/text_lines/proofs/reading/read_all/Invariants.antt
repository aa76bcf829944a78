use Rattle.std.proofs.Common.{◌-◌, ◌≤◌, length}
use Rattle.text_lines.proofs.reading.read_all.Given as goal

abbrev pub invariant-loop-n : goal.invariant-loop-n
invariant-loop-n g l = l.n ≤ length l.area

abbrev pub decreases-loop-n : goal.decreases-loop-n
decreases-loop-n g l = length l.area - l.n
