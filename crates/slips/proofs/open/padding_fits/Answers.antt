use Rattle.std.proofs.Common.{le-ltb, ◌∙◌}
use Rattle.slips.proofs.Settling.{padding_long, padding_short}
use Rattle.slips.proofs.open.padding_fits.Goals as goal

pub returns-else-left-lt8 : goal.returns-else-left-lt8
returns-else-left-lt8 c = let a = c.args in le-ltb _ _ c.if-left-lt8.false ∙ padding_long a.s.now a.at c.if-left-lt8.false

pub returns-then-left-lt8 : goal.returns-then-left-lt8
returns-then-left-lt8 c = let a = c.args in padding_short a.s.now a.at c.bits.result c.if-left-lt8.true c.bits.ensures.value
