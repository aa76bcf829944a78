use mathlib.Core.Path.{refl, sym}
use Prim.Native.Nat.{◌+◌, ◌<◌}
use native.Mathlib.Omega.{arith}
use lib.ListN.{length, length-set}
use Rattle.bits.proofs.Windows.{octets_none, shifted_more}
use Rattle.bits.proofs.read.shift_out.Goals as goal

pub loop-j-init : goal.loop-j-init
loop-j-init c = (sym (octets_none _), refl, omega arith)

pub loop-j-preserved : goal.loop-j-preserved
loop-j-preserved c =
    let l = c.loop-j in
    let a = c.byte-first in
    let room : c.args.i + l.j + 1 < length c.args.s.now = omega (arith, c.requires.1, c.loop-j-test) in (
      shifted_more c.args.s.now l.dst c.args.i c.args.off l.j c.requires.0 room (omega (arith, c.loop-j-test.true, l.invariant.1))
          a.ensures.0 c.byte-second.ensures.0 a.ensures.1 c.byte-second.ensures.1 l.invariant.0,
      simp length-set (omega arith),
      simp length-set (omega arith),
    )
