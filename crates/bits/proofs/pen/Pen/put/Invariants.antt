-- `bits::pen::Pen::put` meets its contract. The loop's invariant: the bytes and the bits left in the word are those at its start. Assumes nothing.
use mathlib.Core.Path.{◌≡◌}
use mathlib.Core.List.{◌++◌}
use Prim.Native.Nat.{◌+◌, ◌*◌, ◌≤◌}
use lib.ListN.{length, take, drop}
use Rattle.bits.specs.Bits.{bits_of, bits_in}
use Rattle.bits.proofs.pen.Pen.put.Given as goal

abbrev pub invariant-loop-held : goal.invariant-loop-held
invariant-loop-held l = (bits_of (take l.at l.out) ++ bits_in l.held l.word ≡ bits_of (take l.initial.at l.initial.out) ++ bits_in l.initial.held l.word)
    × (8 * l.at + l.held ≡ 8 * l.initial.at + l.initial.held)
    × (length l.out ≡ length l.initial.out)
    × (drop l.at l.out ≡ drop l.at l.initial.out)
    × (l.held ≤ l.initial.held)

abbrev pub decreases-loop-held : goal.decreases-loop-held
decreases-loop-held l = l.held
