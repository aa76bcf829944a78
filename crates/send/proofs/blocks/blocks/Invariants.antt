use Rattle.send.proofs.Going.{Going}
use Rattle.send.proofs.blocks.blocks.Given as goal

abbrev pub invariant-loop-i : goal.invariant-loop-i
invariant-loop-i l = Going l.counts l.lengths l.waiting.items l.total l.i
