use Rattle.std.proofs.Common.{arith}
use Rattle.codec.specs.MeasureLaws.{slip_bytes_measured}
use Rattle.codec.proofs.measure.size.Goals as goal

pub returns : goal.returns
returns c vs h = omega (arith, c.measure.ensures.bits, c.div_ceil.ensures, slip_bytes_measured c.args.t.types.now c.args.t.counts.now c.args.t.lengths.now vs h)
