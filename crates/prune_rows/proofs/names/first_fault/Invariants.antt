use Rattle.std.proofs.Common.{◌≡◌, drop}
use Rattle.tables.specs.PruningList.{first_fault}
use Rattle.prune_rows.proofs.names.first_fault.Given as goal

abbrev pub invariant-loop-i : goal.invariant-loop-i
invariant-loop-i l = first_fault l.counts 0 0 l.list ≡ first_fault l.counts l.i l.low (drop l.i l.list)
