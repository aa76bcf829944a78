use Rattle.std.proofs.Common.{◌≡◌, length, map}
use Rattle.pick_rows.proofs.Picking.{Going}
use Rattle.tables.specs.Tables.{entries}
use Rattle.prune_rows.specs.Picked.{label_rows}
use Rattle.pick_rows.proofs.pick.Given as goal

abbrev pub invariant-loop-i : goal.invariant-loop-i
invariant-loop-i g l = (length l.types2 ≡ length l.initial.types2)
    × (length l.counts2 ≡ length l.initial.counts2)
    × (length l.lengths2 ≡ length l.initial.lengths2)
    × (length l.values2 ≡ length l.initial.values2)
    × Going l.t.lengths.now (entries l.t.types.now l.t.counts.now l.t.lengths.now l.t.values.now) (label_rows (length l.t.types.now) l.labels) (map g.M.Marking.read l.marks) l.i l.at l.p.rows l.p.used l.types2 l.counts2 l.lengths2 l.values2
