-- `bits::pen::shift_in` meets its contract. The loop's invariant: dst and what is held are the bits of acc and of the first j bytes. Assumes nothing.
use mathlib.Core.Path.{◌≡◌}
use mathlib.Core.List.{◌++◌}
use Prim.Native.Nat.{◌≤◌, ◌<◌, ◌^◌}
use lib.ListN.{length, take}
use Rattle.bits.specs.Bits.{bits_of, bits_in}
use Rattle.bits.proofs.pen.shift_in.Given as goal

abbrev pub invariant-loop-j : goal.invariant-loop-j
invariant-loop-j l = (bits_of (take l.j l.dst) ++ bits_in l.held l.rest ≡ bits_in l.held l.acc ++ bits_of (take l.j l.src))
    × (l.rest < 2 ^ l.held)
    × (length l.dst ≡ length l.initial.dst)
    × (l.j ≤ length l.src)
