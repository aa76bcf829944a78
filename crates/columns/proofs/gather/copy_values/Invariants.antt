use Rattle.std.proofs.Common.{◌≡◌, ◌+◌, map, take, drop, ◌++◌}
use Rattle.tables.specs.Tables.{sum}
use Rattle.lists.specs.Lists.{concat}
use Rattle.columns.specs.Columns.{value_at}
use Rattle.columns.specs.Gathers.{cell_of}
use Rattle.columns.proofs.gather.copy_values.Given as goal

abbrev pub invariant-loop-row : goal.invariant-loop-row
invariant-loop-row l =
    (sum (map (cell_of l.t.lengths.now) l.plan) ≡ l.used + sum (map (cell_of l.t.lengths.now) (drop l.row-index l.plan)))
    × (take l.used l.out ++ concat (map (value_at l.t.lengths.now l.t.values.now l.offsets) (drop l.row-index l.plan)) ≡ concat (map (value_at l.t.lengths.now l.t.values.now l.offsets) l.plan))
