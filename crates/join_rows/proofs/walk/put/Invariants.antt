use Rattle.std.proofs.Common.{◌≡◌, ◌+◌, ◌-◌, ◌≤◌, drop, ◌++◌}
use Rattle.lists.specs.Lists.{upto}
use Rattle.join_rows.proofs.walk.put.Given as goal

abbrev pub invariant-loop-row : goal.invariant-loop-row
invariant-loop-row l = record {
  left : l.low + (l.to - l.row) ≡ l.at;
  within : l.row ≤ l.to;
  above : l.from ≤ l.to → l.from ≤ l.row;
  is : drop l.low l.plan ≡ upto l.row (l.to - l.row) ++ drop l.at l.initial.plan;
}
