use Rattle.std.proofs.Common.{◌≡◌, ◌≤◌, ◌*◌, ◌-◌, length}
use Rattle.tables.specs.PruningList.{named}
use Rattle.prune_rows.specs.Steps.{Before}
use Rattle.prune_rows.proofs.Marking.{Walked}
use Rattle.prune_rows.proofs.marks.mark_rows.Given as goal

abbrev pub invariant-loop-i : goal.invariant-loop-i
invariant-loop-i g l = (length l.marks ≡ length l.initial.marks)
    × (l.owed ≤ 65535 * (length l.counts - l.i))
    × Before l.list l.i l.k
    × Walked g.M.Marking.made (named l.list) l.counts l.marks l.i l.owed
