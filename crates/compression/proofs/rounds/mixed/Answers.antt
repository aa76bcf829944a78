use Rattle.std.proofs.Common.{refl, arith}
use Rattle.compression.specs.Compression.{rounds}
use Rattle.compression.proofs.Steps.{rounds_more, eight}
use Rattle.compression.proofs.rounds.mixed.Goals as goal

pub loop-turn-init : goal.loop-turn-init
unfolding rounds
loop-turn-init c = refl

pub loop-turn-preserved : goal.loop-turn-preserved
loop-turn-preserved c =
    eight (rounds_more _ _ c.requires) c.loop-turn.turn (omega arith) c.loop-turn.invariant
    c.round.ensures
    c.round-in-loop-turn.ensures
    c.round-in-loop-turn-2.ensures
    c.round-in-loop-turn-3.ensures
    c.round-in-loop-turn-4.ensures
    c.round-in-loop-turn-5.ensures
    c.round-in-loop-turn-6.ensures
    c.round-in-loop-turn-7.ensures
