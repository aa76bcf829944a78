use Rattle.std.proofs.Common.{◌≡◌, ◌*◌}
use Rattle.compression.specs.Compression.{rounds}
use Rattle.words.specs.Sha256.{sha256}
use Rattle.compression.proofs.rounds.mixed.Given as goal

abbrev pub invariant-loop-turn : goal.invariant-loop-turn
invariant-loop-turn l = l.v ≡ rounds sha256 (8 * l.turn) l.initial.v l.w
