use Rattle.codec.proofs.ReadSteps.{internal_short, internal_is}
use Rattle.codec.proofs.row.Reader.internal.Goals as goal

pub returns-in_err-others : goal.returns-in_err-others
returns-in_err-others c = rw c.from_residual.ensures (internal_short _ _ c.args.self.within c.in_err-others.ensures.is)

pub returns : goal.returns
returns c =
    let e = c.in_ok-others.ensures in
    rw e.on (internal_is _ _ _ e.is.0 e.is.1.value e.is.1.small)
