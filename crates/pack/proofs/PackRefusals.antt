-- What 16, and 5 to 9, mean of a table that the packer refuses.
use Rattle.std.specs.Prelude.{ℕ, ◌≤◌, Bool, true, false, List, ◌≡◌, refl, length}
use Rattle.std.proofs.Common.{sym, ap, ◌∙◌, arith}
use borrow.Author.Tests.{eq-eqb, le-ltb}
use Rattle.lists.specs.Lists.{all}
use Rattle.trees.specs.Rules.{max_bytes}
use Rattle.trees.specs.Rows.{Entry, formed, Verdict, faulty, left, verdict}
use Rattle.trees.specs.Refused.{Broken, Scattered}
use Rattle.trees.proofs.RefusedLaws.{breaks_number, refused_broken, broken_refused, left_scattered, scattered_left}
use Rattle.outcomes.specs.Refusals.{accepted, not_one_tree, bad_table, children_missing, not_composed}
use Rattle.tables.specs.Tables.{Table, table_fits}
use Rattle.codec.specs.Writing.{slip_of}
use Rattle.answers.specs.declared.Answer.{Answer}
use Rattle.answers.specs.Answers.{refused}
use Rattle.slips.specs.SlipRefusals.{none_left, scattered_tags}
use Rattle.pack.specs.Pack.{rows_of, table_fault, judged_as, answer_of}
use Rattle.pack.specs.PackLaws.{rows_of_formed, judged_cases, number_of, answer_faulty}
use Rattle.pack.proofs.FaultLaws.{fault_cases, refused_unfit, unfit_refused, answer_cases}

-- the form's refusals are 16 and 4
other_fault : (t : Table) (k : ℕ) → children_missing ≤ k → k ≤ not_one_tree → (table_fault t).number ≡ k → ⊥
other_fault t k low high e = fault_cases t (λ n u. omega (arith, e, n)) (λ n u. omega (arith, e, n)) (λ n u. omega (arith, e, n))

module _ (H : List ℕ → List ℕ) (composed : List ℕ → Bool) where
  module _ (es : List Entry) (room : ℕ) (form : all formed es ≡ true) where
    judged_broken : (v : Verdict) → verdict H composed es ≡ v → children_missing ≤ (judged_as es room v).number → (judged_as es room v).number ≤ not_composed
        → Broken H composed es (judged_as es room v).number (judged_as es room v).place
    unfolding judged_as
    judged_broken (faulty k i) e low high = refused_broken H composed es k i form e
    judged_broken (left st b) e low high =
        judged_cases es room st b
        (λ o is. absurd (omega (arith, high, number_of is refl)))
        (λ is. absurd (omega (arith, high, number_of is refl)))
        (λ o fits is. absurd (omega (arith, low, number_of is refl)))

    judged_scattered : (v : Verdict) → verdict H composed es ≡ v → (judged_as es room v).number ≡ not_one_tree → Scattered H composed es
    unfolding judged_as
    judged_scattered (faulty k i) e is = absurd (omega (arith, is, (breaks_number H composed (refused_broken H composed es k i form e).breaks).1))
    judged_scattered (left st b) e n =
        judged_cases es room st b
        (λ o is. left_scattered H composed es st b form e (none_left st o))
        (λ is. absurd (omega (arith, number_of is n)))
        (λ o fits is. absurd (omega (arith, number_of is n)))

    judged_other : (v : Verdict) → verdict H composed es ≡ v → (judged_as es room v).number ≡ bad_table → ⊥
    unfolding judged_as
    judged_other (faulty k i) e is = omega (arith, is, (breaks_number H composed (refused_broken H composed es k i form e).breaks).1)
    judged_other (left st b) e n =
        judged_cases es room st b
        (λ o is. omega (arith, number_of is n))
        (λ is. omega (arith, number_of is n))
        (λ o fits is. omega (arith, number_of is n))

  module _ (t : Table) (room : ℕ) where
    -- 16 is given to tables that don't fit, and to each of them that has rows
    pub pack_unfit : (answer_of H composed t room).number ≡ bad_table → table_fits t ≡ false
    pack_unfit e =
        answer_cases H composed t room
        (λ bad is. refused_unfit t (number_of is e))
        (λ f is. absurd (omega (arith, number_of is e)))
        (λ f short is. absurd (judged_other (rows_of t) room (rows_of_formed t f) (verdict H composed (rows_of t)) refl (number_of is e)))

    pub unfit_packs : (length t.types ≡ 0 → ⊥) → table_fits t ≡ false → (answer_of H composed t room).number ≡ bad_table
    unfit_packs some e =
        let n = unfit_refused t some e in
        sym (ap (λ (x : Answer). x.number) (answer_faulty H composed t room (λ q. omega (arith, n, q)))) ∙ n

    -- 5 to 8: "The place is the entry", and it breaks the rule of that number on the trees before it
    pub pack_broken : children_missing ≤ (answer_of H composed t room).number → (answer_of H composed t room).number ≤ not_composed
        → Broken H composed (rows_of t) (answer_of H composed t room).number (answer_of H composed t room).place
    pack_broken low high =
        answer_cases H composed t room
        (λ bad is. absurd (other_fault t (answer_of H composed t room).number low (omega (arith, high)) (number_of is refl)))
        (λ f is. absurd (omega (arith, low, number_of is refl)))
        (λ f short is.
        rw (sym is) at (judged_broken (rows_of t) room (rows_of_formed t f) (verdict H composed (rows_of t)) refl
        (omega (arith, low, number_of is refl)) (omega (arith, high, number_of is refl))))

    -- 9: the rows are scattered trees
    pub pack_scattered : (answer_of H composed t room).number ≡ not_one_tree → Scattered H composed (rows_of t)
    pack_scattered e =
        answer_cases H composed t room
        (λ bad is. absurd (other_fault t not_one_tree (omega arith) (omega arith) (number_of is e)))
        (λ f is. absurd (omega (arith, number_of is e)))
        (λ f short is. judged_scattered (rows_of t) room (rows_of_formed t f) (verdict H composed (rows_of t)) refl (number_of is e))

    -- and only then, where the table has the form and its slip is not too long
    module _ (free : (table_fault t).number ≡ accepted) (short : length (slip_of (rows_of t)) ≤ max_bytes) where
      judged_is : answer_of H composed t room ≡ judged_as (rows_of t) room (verdict H composed (rows_of t))
      unfolding answer_of
      judged_is = rw (eq-eqb (table_fault t).number accepted free, le-ltb max_bytes (length (slip_of (rows_of t))) short)

      pub broken_packs : (k i : ℕ) → Broken H composed (rows_of t) k i → answer_of H composed t room ≡ refused k i
      unfolding judged_as
      broken_packs k i x = judged_is ∙ rw (broken_refused H composed (rows_of t) k i x)

      pub scattered_packs : Scattered H composed (rows_of t) → answer_of H composed t room ≡ refused not_one_tree 0
      unfolding judged_as
      scattered_packs x = judged_is ∙ rw (scattered_left H composed (rows_of t) x, scattered_tags H composed x.trees x.other)
