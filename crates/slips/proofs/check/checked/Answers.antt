use Rattle.std.proofs.Common.{◌≡◌, ap, ◌∙◌, rules, Err}
use Rattle.answers.specs.Answers.{answer_of}
use Rattle.slips.specs.HeaderLaws.{header_taken, header_refused, check_body}
use Rattle.slips.proofs.check.checked.Goals as goal

pub returns-in_err-n : goal.returns-in_err-n
returns-in_err-n c =
    let r = c.in_err-n.field-0.0 in
    let told : c.from_residual.result ≡ Err (record { refusal = r; place = 0 }) = search rules in
    ap answer_of told ∙ header_refused _ _ _ r c.in_err-n.ensures

pub opened-requires-clause-counted : goal.opened-requires-clause-counted
opened-requires-clause-counted c =
    let t = (header_taken c.in_ok-n.ensures).0 in
    record { head = t.head; long = c.if-s-le-BYTES.true; counted = t.counted; few = c.if-n-le-NODES.true }

pub opened-requires-else-s-le-BYTES-clause-counted : goal.opened-requires-else-s-le-BYTES-clause-counted
opened-requires-else-s-le-BYTES-clause-counted c = (header_taken c.in_ok-n.ensures).0

pub returns-then-n-le-NODES : goal.returns-then-n-le-NODES
returns-then-n-le-NODES c = c.opened.ensures ∙ check_body _ _ _ (header_taken c.in_ok-n.ensures).1

pub returns-else-s-le-BYTES : goal.returns-else-s-le-BYTES
returns-else-s-le-BYTES c = c.opened-else-s-le-BYTES.ensures ∙ check_body _ _ _ (header_taken c.in_ok-n.ensures).1
