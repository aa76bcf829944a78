use Rattle.std.proofs.Common.{ℕ, List, ◌≡◌, sym, ap, ◌∙◌, rules, arith, Err, Result}
use Rattle.sha256.specs.Sha256 as Sha256
use Rattle.titles.specs.Compose.{composed_text}
use Rattle.outcomes.specs.Refusals.{accepted}
use Rattle.outcomes.specs.RefusalsLaws.{numbered}
use Rattle.outcomes.specs.declared.numbers.Refused.{Refused}
use Rattle.answers.specs.declared.Accepted.{Accepted}
use Rattle.answers.specs.declared.Answer.{Answer}
use Rattle.answers.specs.Answers.{answer_of}
use Rattle.slips.specs.Check.{count_of, check_of}
use Rattle.slips.specs.HeaderLaws.{check_body}
use Rattle.slips.specs.SlipTree.{slip_tree}
use Rattle.slips.specs.HoldingLaws.{Rooms, holds_tree}
use Rattle.prune_tables.specs.Pruned.{pruned_of}
use Rattle.prune_tables.specs.CutLaws.{packs_as}
use Rattle.prune.specs.PruneCallLaws.{prune_refused, prune_accepted, counts_held}
use Rattle.prune.proofs.prune_in.Given.{Over}
use Rattle.prune.proofs.prune_in.Goals as goal
use Rattle.prune.proofs.prune_in.Goals.{After-open_in-o, In_ok-label}

module _ (g : Over) where
  -- the answer is the check's
  checked : (c : After-open_in-o g) → answer_of c.open_in-o.result.answer ≡ check_of Sha256.label composed_text c.args.s.now
  checked c = c.open_in-o.ensures.answer ∙ check_body Sha256.label composed_text _ c.requires.slip.1

  -- the areas are as long as they were lent
  rooms : (c : After-open_in-o g)
      → let o = c.open_in-o in Rooms (count_of c.args.s.now) o.new.types o.new.counts o.new.lengths o.new.labels
  rooms c =
      let o = c.open_in-o in
      let p = c.requires.slip.0 in
      record {
        few = omega (arith, p.counted, p.few, c.requires.room);
        types_room = omega (arith, p.counted, p.few, o.auto.types);
        counts_room = omega (arith, p.counted, p.few, o.auto.counts);
        lengths_room = omega (arith, p.counted, p.few, o.auto.lengths);
        labels_room = omega (arith, p.counted, p.few, o.auto.labels, c.requires.room);
      }

  -- an accepted slip is accepted, and the areas hold its tree
  taken_so : (c : In_ok-label g) → (answer_of c.open_in-o.result.answer).number ≡ accepted
  taken_so c = ap (λ (x : Result Accepted Refused). (answer_of x).number) c.in_ok-label.was

pub returns-in_err-label : goal.returns-in_err-label
returns-in_err-label g c =
    let r = c.in_err-label.field-0.0 in
    let told : c.from_residual.result ≡ Err r = search rules in
    prune_refused Sha256.label composed_text _ _ _
    (ap answer_of (told ∙ sym c.in_err-label.was) ∙ checked g (goal.at.returns-in_err-label g c).After-open_in-o)
    (λ q. numbered r.refusal (sym (ap (λ (x : Result Accepted Refused). (answer_of x).number) told) ∙ q))

pub cut-requires : goal.cut-requires
cut-requires g c =
    let t = holds_tree c.open_in-o.ensures (rooms g (goal.at.cut-requires g c).After-open_in-o) (taken_so g (goal.at.cut-requires g c).In_ok-label) in
    record {
      n = slip_tree c.args.s.now;
      holds = t.holds;
      most = omega (arith, c.open_in-o.auto.values, c.requires.room);
    }

pub returns : goal.returns
returns g c =
    let s = c.args.s.now in
    let o = c.open_in-o in
    let e = taken_so g (goal.at.returns g c).In_ok-label in
    let t = holds_tree o.ensures (rooms g (goal.at.returns g c).After-open_in-o) e in
    let answer : answer_of o.result.answer ≡ check_of Sha256.label composed_text s = checked g (goal.at.returns g c).After-open_in-o in
    packs_as
    (ap (λ (cs : List ℕ). pruned_of Sha256.label cs c.args.list.now (slip_tree s) c.args.out.now) (counts_held t)
    ∙ prune_accepted Sha256.label composed_text s _ _ (ap (λ (a : Answer). a.number) (sym answer) ∙ e))
    (c.cut.ensures (slip_tree s) t.holds (ap (λ (a : Answer). a.label) (ap answer_of (sym c.in_ok-label.was) ∙ o.ensures.answer ∙ t.reads_as.answer)))
