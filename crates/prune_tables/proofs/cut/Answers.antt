use Rattle.std.proofs.Common.{rules, arith, ◌≡◌, ◌≤◌, ◌∙◌, ap, sym, length}
use Rattle.outcomes.specs.Refusals.{bad_list}
use Rattle.tables.specs.PruningList.{first_fault}
use Rattle.sha256.specs.Sha256 as Sha256
use Rattle.answers.specs.Answers.{refused, refusal_answer, answer_of}
use Rattle.send.specs.Sent.{sent_answer}
use Rattle.prune_tables.specs.CutLaws.{packs_as, answers_as, list_faulty, list_clean}
use Rattle.prune_tables.proofs.cut.Goals as goal
use Rattle.prune_tables.proofs.cut.Goals.{After-send_clean}

pub returns-in-Some : goal.returns-in-Some
returns-in-Some c n h e =
    let f = c.in-Some.ensures in
    list_faulty Sha256.label _ _ _ n (omega (arith, f.first, f.within)) (ap refusal_answer c.at.ensures ∙ ap (refused bad_list) f.first)

-- no number of the list is found faulty
clean : (c : After-send_clean) → length c.args.list.now ≤ first_fault c.args.t.counts.now 0 0 c.args.list.now
clean c = omega (arith, c.in_default.ensures.first)

pub returns-in_err-send_clean : goal.returns-in_err-send_clean
returns-in_err-send_clean c n h e =
    let same : answer_of c.from_residual.result ≡ sent_answer c.send_clean.result = search rules in
    packs_as (list_clean Sha256.label _ _ _ n (clean (goal.at.returns-in_err-send_clean c).After-send_clean)) (answers_as same (c.send_clean.ensures n h e))

pub returns : goal.returns
returns c n h e =
    packs_as (list_clean Sha256.label _ _ _ n (clean (goal.at.returns c).After-send_clean))
    (answers_as (ap sent_answer (sym c.in_ok-send_clean.was)) (c.send_clean.ensures n h e))
