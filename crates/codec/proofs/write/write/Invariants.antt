use Rattle.std.proofs.Common.{◌≡◌, length}
use Rattle.codec.proofs.WriteTurns.{Penned}
use Rattle.codec.proofs.write.write.Given as goal

abbrev pub invariant-loop-i : goal.invariant-loop-i
invariant-loop-i l =
    Penned l.initial.pen l.initial.out l.t.types.now l.t.counts.now l.t.lengths.now l.t.values.now l.pen l.out l.used l.i × (length l.out ≡ length l.initial.out)
