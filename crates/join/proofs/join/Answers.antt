use Rattle.std.proofs.Common.{◌≡◌, sym, ap, ◌∙◌, eqb-true}
use Rattle.std.proofs.lemmas.Bool.{eqb-false}
use Rattle.outcomes.specs.Refusals.{accepted}
use Rattle.answers.specs.declared.Answer.{Answer}
use Rattle.answers.specs.Answers.{refusal_answer}
use Rattle.answers.specs.Both.{sided}
use Rattle.join.proofs.Answering.{headed, join_first, head_first, head_second, by_bodies}
use Rattle.join.proofs.join.Goals as goal

pub returns-in-Err : goal.returns-in-Err
returns-in-Err c =
    head_first _ _ _ _ _ c.in-Err.refusal c.in-Err.ensures (c.sided.ensures ∙ ap (sided 1) (c.from.ensures ∙ ap refusal_answer c.at.ensures))

pub returns-then-not-is_accepted : goal.returns-then-not-is_accepted
returns-then-not-is_accepted c =
    let e = c.check-a.ensures in
    join_first _ _ _ _ _ (λ q. eqb-false c.check-a.result.number accepted (sym c.is_accepted.ensures ∙ c.if-not-is_accepted.true) (ap (λ (a : Answer). a.number) e ∙ q))
    (c.sided-then-not-is_accepted.ensures ∙ ap (sided 1) e)

pub returns-in-Err-header_of : goal.returns-in-Err-header_of
returns-in-Err-header_of c =
    let taken : c.check-a.result.number ≡ accepted = eqb-true _ _ (sym c.is_accepted.ensures ∙ c.if-not-is_accepted.false) in
    head_second _ _ _ _ _ (ap (λ (a : Answer). a.number) (sym c.check-a.ensures) ∙ taken) c.in-Err-header_of.refusal c.in-Err-header_of.ensures
    (c.sided-in-Err-header_of.ensures ∙ ap (sided 2) (c.from-in-Err-header_of.ensures ∙ ap refusal_answer c.at-in-Err-header_of.ensures))

pub invariant_of-first : goal.invariant_of-first
invariant_of-first c = record { headed = headed c.in-Ok.ensures }

pub invariant_of-second : goal.invariant_of-second
invariant_of-second c = record { headed = headed c.in-Ok-header_of.ensures }

pub returns : goal.returns
returns c =
    let one = headed c.in-Ok.ensures in
    let two = headed c.in-Ok-header_of.ensures in
    by_bodies _ _ _ _ _ one.taken two.taken c.join_bodies.ensures
