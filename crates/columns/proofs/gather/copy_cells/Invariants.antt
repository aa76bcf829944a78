use Rattle.std.proofs.Common.{◌≡◌, map, take, drop, ◌++◌}
use Rattle.columns.specs.Gathers.{cell_of}
use Rattle.columns.proofs.gather.copy_cells.Given as goal

abbrev pub invariant-loop-k : goal.invariant-loop-k
invariant-loop-k l = take l.k l.out ++ map (cell_of l.column) (drop l.k l.plan) ≡ map (cell_of l.column) l.plan
