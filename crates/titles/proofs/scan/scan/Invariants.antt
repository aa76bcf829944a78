-- `scan` meets its contract: each turn goes one cluster further.
use Rattle.std.proofs.Common.{◌≡◌, ◌-◌, length}
use Rattle.titles.proofs.Reached.{Reached}
use Rattle.titles.proofs.scan.scan.Given as goal

abbrev pub invariant-loop-at : goal.invariant-loop-at
invariant-loop-at l = (length l.room ≡ length l.initial.room) × Reached l.title l.at l.n l.room

abbrev pub decreases-loop-at : goal.decreases-loop-at
decreases-loop-at l = length l.title - l.at
