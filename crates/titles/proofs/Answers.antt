-- The composer's returns against its outcome.
use Rattle.std.proofs.Common.{◌≡◌, refl, sym, ◌∙◌, ap, true, Ok, Err, List, ◌++◌, ℕ, ◌≤◌, ◌<◌, length, take, drop, ltb, arith, lt-ltb, le-ltb, ltb-true, ltb-false}
use Rattle.std.proofs.Math.Seq.{take_all, length-take-le}
use Rattle.lists.specs.TestsLaws.{either, refuted}
use Rattle.titles.specs.declared.composed.Composed.{Composed}
use Rattle.outcomes.specs.declared.numbers.Refused.{Refused}
use Rattle.outcomes.specs.Refusals.{no_room, title_long}
use Rattle.nfc.specs.Utf8.{decode}
use Rattle.nfc.specs.Joining.{accepts}
use Rattle.outcomes.specs.Outcome.{Output, Leaves}
use Rattle.titles.specs.Compose.{text, refusal, acceptance, compose_of, max_title}
use Rattle.titles.specs.ComposeLaws.{long, refused, short, taken, judged_accepts, accepts_judged}
use Rattle.titles.specs.Scan.{Scanned, answer_of}

met :
    (title out left : List ℕ) (r : Composed) (o : Output Composed)
    → compose_of title out ≡ o
    → r ≡ o.answer
    → left ≡ o.left
    → Leaves (compose_of title out) r left
met title out left r o e p q =
    record {
      answered = p ∙ sym (ap (λ (x : Output Composed). x.answer) e);
      written = q ∙ sym (ap (λ (x : Output Composed). x.left) e);
    }

pub met_long : (title out : List ℕ) → max_title < length title → Leaves (compose_of title out) (refusal title_long 0) out
met_long title out over = met title out out _ _ (long title out (lt-ltb max_title (length title) over)) refl refl

module _ (title out buffer : List ℕ) (under : length title ≤ max_title) where
  pub met_refused : (e : Refused) → Scanned title (Err e) buffer → Leaves (compose_of title out) (answer_of (Err e)) out
  met_refused e scanned =
      let not-all =
      refuted (accepts (decode title))
      (λ all. scanned.front (ap (λ (x : Composed). x.number) (scanned.answered ∙ accepts_judged title all)))
      in
      met title out out _ _
      (refused title (answer_of (Err e)) out (le-ltb max_title (length title) under) not-all (sym scanned.answered))
      refl
      refl

  module _ (n : ℕ) (scanned : Scanned title (Ok n) buffer) where
    all : accepts (decode title) ≡ true
    all = judged_accepts title (sym (ap (λ (x : Composed). x.number) scanned.answered))

    size : n ≡ length (text title)
    size = ap (λ (x : Composed). x.length) (scanned.answered ∙ accepts_judged title all)

    pub in_buffer : n ≤ length buffer
    in_buffer =
        either (ltb (length buffer) n)
        (λ p.
        let less = ltb-true (length buffer) n p in
        let whole-buffer = take_all n buffer (omega arith) in
        absurd (omega (arith, size, ap length (sym whole-buffer ∙ scanned.front))))
        (λ p. ltb-false (length buffer) n p)

    -- what is copied of the buffer
    pub part_long : length (take n buffer) ≡ n
    part_long = length-take-le n buffer in_buffer

    pub met_short : length out < n → Leaves (compose_of title out) (refusal no_room 0) out
    met_short less =
        met title out out _ _
        (short title out (le-ltb max_title (length title) under) all (lt-ltb (length out) (length (text title)) (rw size at less)))
        refl
        refl

    pub met_taken : (left : List ℕ) → n ≤ length out → left ≡ take n buffer ++ drop n out → Leaves (compose_of title out) (acceptance n) left
    met_taken left room e =
        met title out left _ _
        (taken title (text title) out (le-ltb max_title (length title) under) all refl (rw size at room))
        (ap acceptance size)
        (e ∙ rw (scanned.front, size))
