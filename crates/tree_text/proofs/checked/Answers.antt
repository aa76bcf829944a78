use Rattle.std.proofs.Common.{ap, ◌∙◌}
use Rattle.answers.specs.Answers.{refusal_answer}
use Rattle.slips.specs.HeaderLaws.{header_taken, header_refused, check_body}
use Rattle.tree_text.proofs.checked.Goals as goal

pub returns-in-Err : goal.returns-in-Err
returns-in-Err g c = ap refusal_answer c.at.ensures ∙ header_refused _ _ _ c.in-Err.refusal c.in-Err.ensures

pub opened-requires : goal.opened-requires
opened-requires g c = (header_taken c.in-Ok.ensures).0

pub returns : goal.returns
returns g c = c.opened.ensures ∙ check_body _ _ _ (header_taken c.in-Ok.ensures).1
