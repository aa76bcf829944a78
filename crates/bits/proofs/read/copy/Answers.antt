-- `bits::read::copy` meets its contract: whole bytes of the slice, or bytes shifted out of two. Assumes nothing.
use native.Mathlib.Omega.{arith}
use Rattle.lists.specs.Lists.{Below}
use Rattle.bits.proofs.Windows.{whole_bytes}
use Rattle.bits.proofs.read.copy.Goals as goal

pub returns-then-off-eq0 : goal.returns-then-off-eq0
returns-then-off-eq0 c =
    let bytes : Below 256 c.args.s.now = λ i. omega (arith, c.type_inv.s i) in
    whole_bytes c.args.s.now c.args.dst.now _ c.args.at bytes c.if-off-eq0.true c.requires
    c.copy_from_slice.ensures.after
