use Rattle.std.proofs.Common.{◌≡◌, ◌≤◌, sym, ap, ap₂, ◌∙◌, arith, eqb-true}
use lib.Seq.{take-append-le}
use Rattle.lists.specs.ListsLaws.{same_true}
use Rattle.outcomes.specs.Refusals.{accepted}
use Rattle.answers.specs.declared.Answer.{Answer}
use Rattle.answers.specs.Answers.{answer_of}
use Rattle.answers.specs.Both.{both_of}
use Rattle.answers.specs.BothLaws.{both_told}
use Rattle.slips.specs.Check.{count_of}
use Rattle.slips.specs.HoldingLaws.{Rooms, holds_tree}
use Rattle.both_slips.proofs.Holding.{tables_held}
use Rattle.both_slips.proofs.hold_both.Goals as goal

pub returns : goal.returns
returns c =
    let o = c.open_in-a in
    let k = c.open_behind-b in
    let p = c.requires in
    let a = c.args in
    let n = a.first.headed.is.counted in
    let first_few : o.result.rows ≤ a.first.nodes = omega (arith, o.ensures.few, n) in
    let second_few : k.result.rows ≤ a.second.nodes = omega (arith, k.ensures.opens.few, a.second.headed.is.counted) in
    let rooms : Rooms (count_of a.first.bytes.now) o.new.types o.new.counts o.new.lengths o.new.labels =
    record {
      few = omega (arith, n, a.first.headed.is.few);
      types_room = omega (arith, n, p.types_room, o.auto.types);
      counts_room = omega (arith, n, p.counts_room, o.auto.counts);
      lengths_room = omega (arith, n, p.lengths_room, o.auto.lengths);
      labels_room = omega (arith, n, p.labels_room, o.auto.labels);
    } in
    let both : c.both-answer.result ≡ both_of (answer_of o.result.answer) (answer_of k.result.answer) =
    c.both-answer.ensures ∙ ap₂ both_of c.from.ensures c.from-2.ensures in
    let taken : c.both-answer.result.number ≡ accepted = eqb-true _ _ (sym c.is_accepted.ensures ∙ c.if-not-is_accepted.false) in
    let t = both_told (answer_of o.result.answer) (answer_of k.result.answer) (ap (λ (a : Answer). a.number) (sym both) ∙ taken) in (
      both ∙ ap₂ both_of o.ensures.answer k.ensures.opens.answer,
      taken,
      tables_held (holds_tree o.ensures rooms t.one) o.ensures (take-append-le _ _ _ o.ensures.room) k.ensures t.two
          (same_true _ _ t.alike) (both ∙ t.is)
          (omega (arith, first_few, second_few, k.auto.types, o.auto.types, p.types_room))
          (omega (arith, first_few, second_few, k.auto.counts, o.auto.counts, p.counts_room))
          (omega (arith, first_few, second_few, k.auto.lengths, o.auto.lengths, p.lengths_room)),
    )
