use Rattle.std.proofs.Common.{arith}
use Rattle.codec.specs.Reading.{read_value}
use Rattle.codec.specs.TableLaws.{fits_pair}
use Rattle.codec.proofs.ReadSteps.{gives_on, pair_short, pair_is}
use Rattle.codec.proofs.row.Reader.pair.Goals as goal

pub returns-in_err-length : goal.returns-in_err-length
returns-in_err-length c = rw c.from_residual.ensures (pair_short _ _ _ c.requires.0 c.args.self.within c.in_err-length.ensures.is)

pub valued-requires : goal.valued-requires
valued-requires c = fits_pair _ _ c.requires.0 c.requires.1 (omega (arith, c.in_ok-length.ensures.is.1.small))

pub returns : goal.returns
returns c =
    let e = c.in_ok-length.ensures in
    gives_on _ _ _ _ _ _ (read_value c.args.kind c.in_ok-length.length) _ e.same e.on (pair_is _ _ _ _ c.requires.0 e.is.0 e.is.1.value) c.valued.ensures
