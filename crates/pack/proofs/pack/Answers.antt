use Rattle.std.proofs.Common.{ℕ, Ok, Err, Result, is_ok, true, false, true≢false, ◌≡◌, refl, sym, ap, ◌∙◌, ◌++◌, drop}
use Rattle.outcomes.specs.Refusals.{accepted}
use Rattle.outcomes.specs.declared.numbers.Refused.{Refused}
use Rattle.outcomes.specs.RefusalsLaws.{numbered}
use Rattle.tables.specs.Tables.{seen}
use Rattle.codec.specs.Writing.{slip_of}
use Rattle.answers.specs.declared.Accepted.{Accepted}
use Rattle.answers.specs.declared.Answer.{Answer}
use Rattle.answers.specs.Answers.{answer_of}
use Rattle.pack.specs.Pack.{rows_of}
use Rattle.pack.specs.PackLaws.{pack_refused, pack_taken}
use Rattle.pack.proofs.pack.Goals as goal
use Rattle.pack.proofs.pack.Goals.{then-is_ok, else-is_ok}

-- what is Ok is accepted, and nothing else
taken_number : (r : Result Accepted Refused) → is_ok r ≡ true → (answer_of r).number ≡ accepted
taken_number (Ok x) e = refl
taken_number (Err x) e = absurd (true≢false (sym e))

refused_number : (r : Result Accepted Refused) → is_ok r ≡ false → (answer_of r).number ≡ accepted → ⊥
refused_number (Ok x) e = absurd (true≢false e)
refused_number (Err x) e = numbered x.refusal

pub returns : goal.returns
returns c =
    let o = c.outcome-outcome in
    let n = ap (λ (a : Answer). a.number) c.from.ensures in
    let told = c.from.ensures ∙ o.ensures.answer in
    elim c.if-is_ok.branch [
      | then-is_ok w ↦
          let e = w.write.ensures in
          pack_taken _ _ _ _ told (n ∙ taken_number o.result (sym w.if-is_ok.ensures.value))
          (w.out-is ∙ e.bytes ∙ ap (λ (k : ℕ). slip_of (rows_of (seen c.args.t)) ++ drop k c.args.out.now) e.size)
      | else-is_ok w ↦ rw w.out-is (pack_refused _ _ _ _ told (λ q. refused_number o.result (sym w.if-is_ok.ensures.value) (sym n ∙ q)))
    ]
