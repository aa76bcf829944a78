use Rattle.std.proofs.Common.{◌≡◌, sym, ap, ◌∙◌, rules, is_ok, Err}
use Rattle.answers.specs.Answers.{answer_of, refusal_answer}
use Rattle.slips.proofs.Settling.{told_faulty, told_cut, told_many, told_padding, told_taken}
use Rattle.slips.proofs.open.settled.Goals as goal

pub returns-in_err-judged : goal.returns-in_err-judged
returns-in_err-judged c =
    let told : c.from_residual.result ≡ Err c.in_err-judged.field-0.0 = search rules in
    ap answer_of told ∙ told_faulty _ _ _ _ c.in_err-judged.was

pub returns-in_default : goal.returns-in_default
returns-in_default c = ap refusal_answer c.at.ensures ∙ told_cut _ _ _ _ c.in_ok-judged.was (ap is_ok c.in_default.is)

pub returns-in_default-root : goal.returns-in_default-root
returns-in_default-root c =
    ap refusal_answer c.at-in_default-root.ensures ∙ told_many _ _ c.in_ok-judged.was c.in-Ok.is c.in_default-root.is

pub returns-then-not-padding_fits : goal.returns-then-not-padding_fits
returns-then-not-padding_fits c =
    ap refusal_answer c.at-then-not-padding_fits.ensures
    ∙ told_padding _ _ c.in_ok-judged.was c.in-Ok.is c.in-Some.is (sym c.padding_fits.ensures ∙ c.if-not-padding_fits.true)

pub returns : goal.returns
returns c =
    told_taken _ _ c.in_ok-judged.was c.in-Ok.is c.in-Some.is (sym c.padding_fits.ensures ∙ c.if-not-padding_fits.false)
