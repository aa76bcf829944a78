use Rattle.std.proofs.Common.{◌*◌}
use Rattle.words.specs.Words.{words}
use Rattle.compression.proofs.Steps.{Begins}
use Rattle.compression.proofs.schedule.schedule.Given as goal

abbrev pub invariant-loop-turn : goal.invariant-loop-turn
invariant-loop-turn l = Begins (words 4 16 l.block) (8 * l.turn) l.w
