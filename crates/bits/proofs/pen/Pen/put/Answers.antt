use Prim.Native.Nat.{◌<◌}
use native.Mathlib.Omega.{arith}
use borrow.Author.Rules.{rules}
use lib.ListN.{length, length-set}
use Rattle.bits.proofs.Strokes.{emptied, rest_more, field_written}
use Rattle.bits.proofs.pen.Pen.put.Goals as goal

pub loop-held-preserved : goal.loop-held-preserved
loop-held-preserved c =
    let l = c.loop-held in
    let within : l.at < length l.out = omega (arith, c.requires.0.fits) in (
      emptied l.out l.at _ l.held _ (search rules) within l.invariant.0,
      omega arith,
      simp length-set (omega arith),
      rest_more _ l.out l.at _ l.invariant.3,
      omega arith,
    )

pub returns : goal.returns
returns c =
    let l = c.loop-held in
    let a = c.args in
    let p = c.requires in
    field_written a.self.now a.v a.n _ l.out l.held l.at p.0 p.1 p.2 l.invariant.0 (search rules) l.invariant.1 l.invariant.2 l.invariant.3
