-- `bits::pen::Pen::finish` meets its contract: the field of zero bits fills the last byte. Assumes nothing.
use native.Mathlib.Omega.{arith}
use Rattle.lists.specs.Lists.{Below}
use Rattle.bits.proofs.Strokes.{finished}
use Rattle.bits.proofs.pen.Pen.finish.Goals as goal

pub returns : goal.returns
returns c =
    let p = c.put in
    let bytes : Below 256 p.new.out = λ i. omega (arith, c.type_inv.out i) in
    finished c.args.self c.args.out.now p.new.self p.new.out c.requires.0.few bytes p.ensures
