use Rattle.std.proofs.Common.{arith}
use Rattle.codec.specs.Reading.{read_rest}
use Rattle.codec.proofs.ReadSteps.{gives_on, none_left, first_is}
use Rattle.codec.proofs.row.Reader.row.Goals as goal

pub returns-in_err-lead : goal.returns-in_err-lead
returns-in_err-lead c = rw c.from_residual.ensures (none_left _ _ c.in_err-lead.ensures.is)

pub returns-then-lead-eq0 : goal.returns-then-lead-eq0
returns-then-lead-eq0 c =
    let e = c.in_ok-lead.ensures in
    gives_on _ _ _ _ _ _ (read_rest 0) _ e.same e.on (first_is _ _ _ 0 e.is.0 e.is.1.value c.if-lead-eq0.true) c.leaf.ensures

pub returns-else-lead-eq0 : goal.returns-else-lead-eq0
returns-else-lead-eq0 c =
    let e = c.in_ok-lead.ensures in
    gives_on _ _ _ _ _ _ (read_rest 1) _ e.same e.on
    (first_is _ _ _ 1 e.is.0 e.is.1.value (omega (arith, e.is.1.small, c.if-lead-eq0.false))) c.internal.ensures
