use Rattle.std.proofs.Common.{◌+◌, ◌-◌, ◌*◌, ◌≤◌}
use Rattle.row_lines.proofs.places.first.Given as goal

abbrev pub invariant-loop-at : goal.invariant-loop-at
invariant-loop-at l = (1 ≤ l.waiting) × (l.waiting ≤ 1 + 65535 * (l.row + 1 - l.at))
