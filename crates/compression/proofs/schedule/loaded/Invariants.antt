use Rattle.std.proofs.Common.{◌≡◌, length, take}
use Rattle.words.specs.Words.{words}
use Rattle.compression.proofs.schedule.loaded.Given as goal

abbrev pub invariant-loop-t : goal.invariant-loop-t
invariant-loop-t l = (length l.w ≡ 64) × (take l.t l.w ≡ words 4 l.t l.block)
