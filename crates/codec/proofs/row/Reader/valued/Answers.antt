use Rattle.std.proofs.Common.{arith}
use Rattle.codec.specs.TableLaws.{row_small}
use Rattle.codec.proofs.ReadSteps.{valued_short, valued_is}
use Rattle.codec.proofs.row.Reader.valued.Goals as goal

pub overflow_mul-length : goal.overflow_mul-length
overflow_mul-length c = omega (arith, (row_small _ _ _ c.requires).length)

pub overflow_add-self : goal.overflow_add-self
overflow_add-self c = omega (arith, c.args.self.long, c.args.self.within, (row_small _ _ _ c.requires).length)

pub returns-then-self-length : goal.returns-then-self-length
returns-then-self-length c = valued_short _ _ _ _ c.args.self.within c.if-self-length.true

pub returns : goal.returns
returns c = valued_is _ _ _ _ c.if-self-length.false c.requires
