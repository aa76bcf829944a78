-- `bits::read::shift_out` meets its contract. The loop's invariant: the first j bytes of dst are those that begin at the bit. Assumes nothing.
use mathlib.Core.Path.{◌≡◌}
use Prim.Native.Nat.{◌+◌, ◌*◌, ◌≤◌}
use lib.ListN.{length, take, drop}
use Rattle.bits.specs.Bits.{bits_of, octets}
use Rattle.bits.proofs.read.shift_out.Given as goal

abbrev pub invariant-loop-j : goal.invariant-loop-j
invariant-loop-j l = (take l.j l.dst ≡ octets l.j (drop (8 * l.i + l.off) (bits_of l.s))) × (length l.dst ≡ length l.initial.dst) × (l.j ≤ length l.dst)
