use Rattle.std.proofs.Common.{rules, refl, sym, ap, ◌∙◌, not}
use Rattle.lists.specs.ListsLaws.{same_is}
use Rattle.answers.specs.Answers.{refusal_answer}
use Rattle.answers.specs.Both.{both_of}
use Rattle.answers.proofs.both.Goals as goal

pub returns-then-not-is_accepted : goal.returns-then-not-is_accepted
unfolding both_of
returns-then-not-is_accepted c = search rules

pub returns-then-not-is_accepted-2 : goal.returns-then-not-is_accepted-2
unfolding both_of
returns-then-not-is_accepted-2 c = search rules

pub returns-then-ne : goal.returns-then-ne
unfolding both_of
returns-then-ne c =
    let a = sym c.is_accepted.ensures ∙ c.if-not-is_accepted.false in
    let b = sym c.is_accepted-2.ensures ∙ c.if-not-is_accepted-2.false in
    let differ = ap not (sym (same_is c.args.a.label c.args.b.label)) ∙ sym c.ne.ensures ∙ c.if-ne.true in
    c.from-then-ne.ensures ∙ ap refusal_answer c.from.ensures ∙ sym (rw (a, b, differ) refl)

pub returns : goal.returns
unfolding both_of
returns c =
    let a = sym c.is_accepted.ensures ∙ c.if-not-is_accepted.false in
    let b = sym c.is_accepted-2.ensures ∙ c.if-not-is_accepted-2.false in
    let alike = ap not (sym (same_is c.args.a.label c.args.b.label)) ∙ sym c.ne.ensures ∙ c.if-ne.false in
    sym (rw (a, b, alike) refl)
