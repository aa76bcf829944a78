use Rattle.std.proofs.Common.{◌≡◌, ap, ◌∙◌, sym}
use Rattle.sha256.specs.Sha256 as Sha256
use Rattle.titles.specs.Compose.{composed_text}
use Rattle.outcomes.specs.RefusalsLaws.{numbered}
use Rattle.answers.specs.declared.Answer.{Answer}
use Rattle.answers.specs.Answers.{refusal_answer}
use Rattle.slips.specs.HeaderLaws.{header_taken, header_refused}
use Rattle.prune.specs.PruneCallLaws.{prune_refused}
use Rattle.prune.proofs.pruned.Goals as goal

pub returns-in-Err : goal.returns-in-Err
returns-in-Err c =
    let r = c.in-Err.refusal in
    let told : refusal_answer c.at.result ≡ refusal_answer (record { refusal = r; place = 0 }) = ap refusal_answer c.at.ensures in
    prune_refused Sha256.label composed_text _ _ _ (told ∙ header_refused _ _ _ r c.in-Err.ensures)
    (λ q. numbered r (sym (ap (λ (a : Answer). a.number) told) ∙ q))

pub prune_in-requires-clause-slip : goal.prune_in-requires-clause-slip
prune_in-requires-clause-slip c =
    let t = header_taken c.in-Ok.ensures in
    (record { head = t.0.head; long = c.if-s-le-BYTES.true; counted = t.0.counted; few = c.if-n-le-NODES.true }, t.1)

pub prune_in-requires-2-clause-slip : goal.prune_in-requires-2-clause-slip
prune_in-requires-2-clause-slip c = header_taken c.in-Ok.ensures
