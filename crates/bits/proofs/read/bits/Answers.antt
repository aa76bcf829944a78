-- `bits::read::bits` meets its contract: the window's law. Assumes nothing.
use Rattle.bits.proofs.Windows.{field_read}
use Rattle.bits.proofs.read.bits.Goals as goal

pub returns : goal.returns
returns c =
    let a = c.byte-first in
    let b = c.byte-second in
    field_read c.args.s.now c.args.at c.args.n c.requires.0 c.requires.1 a.ensures.0 b.ensures.0 c.byte-third.ensures.0
    a.ensures.1 b.ensures.1 c.byte-third.ensures.1
