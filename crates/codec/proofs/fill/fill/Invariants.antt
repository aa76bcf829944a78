use Rattle.codec.proofs.ReadTurns.{Going}
use Rattle.codec.proofs.fill.fill.Given as goal

abbrev pub invariant-loop-i : goal.invariant-loop-i
invariant-loop-i l = Going l.s l.n l.types l.counts l.lengths l.values l.at l.used l.i
