use Rattle.std.proofs.Common.{ℕ, is_some, unwrap_or, ◌≡◌, Err, length, refl, sym, ap, ◌∙◌, true≢false, arith}
use Rattle.std.proofs.lemmas.Result.{err_from_is_err_and}
use Rattle.outcomes.specs.Refusals.{accepted}
use Rattle.outcomes.specs.declared.numbers.Refused.{Refused}
use Rattle.trees.specs.Rules.{no_label}
use Rattle.outcomes.specs.RefusalsLaws.{numbered}
use Rattle.tables.specs.Tables.{Table, Formed, seen}
use Rattle.codec.specs.Writing.{slip_of}
use Rattle.answers.specs.declared.Answer.{Answer}
use Rattle.answers.specs.Answers.{refused, taken, refusal_answer}
use Rattle.pack.specs.Clauses.{AnswerGives}
use Rattle.pack.specs.Pack.{Fault, rows_of, table_fault}
use Rattle.pack.specs.PackLaws.{values_few, answer_faulty, answer_long, answer_entry, answer_many, answer_roomless, answer_taken}
use Rattle.pack.proofs.FaultLaws.{fault_told}
use Rattle.pack.proofs.outcome.Goals as goal
use Rattle.pack.proofs.outcome.Goals.{After-size-bytes, In_ok-judged}

-- a refusal found nothing
refusal_gives : (t : Table) (room : ℕ) (a : Answer) (r : Refused) → refusal_answer r ≡ a → AnswerGives t room a (Err r)
refusal_gives t room a r e = record { answer = e; roomy = λ q. absurd (true≢false (sym q)) }

pub returns-in_err-formed : goal.returns-in_err-formed
returns-in_err-formed c =
    let p = err_from_is_err_and c.from_residual.result c.from_residual.ensures.1 in
    let e = c.in_err-formed.ensures in
    let n = ap (λ (f : Fault). f.number) e in
    rw (p.1, p.2) (refusal_gives _ _ _ _ (ap (λ (f : Fault). refused f.number f.place) e ∙ answer_faulty _ _ _ _ (λ q. numbered _ (n ∙ q))))

pub size-bytes-requires : goal.size-bytes-requires
size-bytes-requires c = (fault_told _ (sym (ap (λ (f : Fault). f.number) c.in_ok-formed.ensures))).columns

-- once the table is measured it has the form, and the bytes are the slip's
record Measured (c : After-size-bytes) : Type 0 where
  told : (table_fault (seen c.args.t)).number ≡ accepted
  well : Formed (seen c.args.t)
  sized : c.size-bytes.result ≡ length (slip_of (rows_of (seen c.args.t)))

measured : (c : After-size-bytes) → Measured c
measured c =
    let told = sym (ap (λ (f : Fault). f.number) c.in_ok-formed.ensures) in
    let well = fault_told (seen c.args.t) told in
    record { told = told; well = well; sized = c.size-bytes.ensures _ (omega (arith, well.area)) }

pub returns-then-bytes-gt-MAX_BYTES : goal.returns-then-bytes-gt-MAX_BYTES
returns-then-bytes-gt-MAX_BYTES c =
    let m = measured (goal.at.returns-then-bytes-gt-MAX_BYTES c).After-size-bytes in
    rw c.at.ensures (refusal_gives _ _ _ _ (answer_long _ _ _ _ m.told (rw m.sized at c.if-bytes-gt-MAX_BYTES.true)))

pub judged-requires : goal.judged-requires
judged-requires c =
    let m = measured (goal.at.judged-requires c).After-size-bytes in
    (m.well, values_few _ m.well (rw m.sized at c.if-bytes-gt-MAX_BYTES.false))

pub returns-in_err-judged : goal.returns-in_err-judged
returns-in_err-judged c =
    let m = measured (goal.at.returns-in_err-judged c).After-size-bytes in
    let short = rw m.sized at c.if-bytes-gt-MAX_BYTES.false in
    let p = err_from_is_err_and c.from_residual-in_err-judged.result c.from_residual-in_err-judged.ensures.1 in
    rw (p.1, p.2) (refusal_gives _ _ _ _ (answer_entry _ _ _ _ m.told short c.in_err-judged.ensures (numbered _)))

pub returns-in_default : goal.returns-in_default
returns-in_default c =
    let m = measured (goal.at.returns-in_default c).After-size-bytes in
    let short = rw m.sized at c.if-bytes-gt-MAX_BYTES.false in
    rw c.at-in_default.ensures (refusal_gives _ _ _ _ (answer_many _ _ _ _ m.told short c.in_ok-judged.ensures refl (ap is_some c.in_default.is)))

pub returns-then-room-bytes : goal.returns-then-room-bytes
returns-then-room-bytes c =
    let m = measured (goal.at.returns-then-room-bytes c).After-size-bytes in
    let short = rw m.sized at c.if-bytes-gt-MAX_BYTES.false in
    rw c.at-then-room-bytes.ensures (refusal_gives _ _ _ _ (answer_roomless _ _ _ _ m.told short c.in_ok-judged.ensures refl (ap is_some c.in-Some.is) (rw m.sized at c.if-room-bytes.true)))

pub returns : goal.returns
returns c =
    let m = measured (goal.at.returns c).After-size-bytes in
    let short = rw m.sized at c.if-bytes-gt-MAX_BYTES.false in
    let fits = rw m.sized at c.if-room-bytes.false in
    record {
      answer =
          (λ i. taken (m.sized i) c.in_ok-judged.judged.blocks (unwrap_or (sym c.in-Some.is i) no_label))
          ∙ answer_taken _ _ _ _ m.told short c.in_ok-judged.ensures refl (ap is_some c.in-Some.is) fits;
      roomy = λ q. record { form = m.well; fits = fits };
    }
