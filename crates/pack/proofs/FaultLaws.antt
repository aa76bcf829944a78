-- The cases of the packer's tests; in proofs/, since a must-fail edit of their definition makes them false.
use Rattle.std.specs.Prelude.{ℕ, ◌≤◌, Bool, true, false, List, ◌≡◌, refl, ltb, eqb, length}
use Rattle.std.proofs.Common.{true≢false, ◌∙◌, arith}
use Rattle.std.proofs.Math.Path.{sym}
use borrow.Author.Tests.{ltb-false, eqb-true, eqb-false}
use Rattle.trees.specs.Rules.{max_bytes}
use Rattle.trees.specs.Rows.{verdict}
use Rattle.outcomes.specs.Refusals.{accepted, too_long, no_nodes, bad_table}
use Rattle.tables.specs.Tables.{Table, columns_fit, row_bad, area_fits, table_fits, Formed}
use Rattle.tables.specs.TablesLaws.{table_told}
use Rattle.codec.specs.Writing.{slip_of}
use Rattle.answers.specs.Answers.{refused}
use Rattle.pack.specs.Pack.{rows_of, table_fault, judged_as, answer_of}

-- 16 and a table that doesn't fit, 4 and no rows, or no refusal and a table that fits
pub fault_cases : {C : Type 0} (t : Table) → ((table_fault t).number ≡ bad_table → table_fits t ≡ false → C)
    → ((table_fault t).number ≡ no_nodes → length t.types ≡ 0 → C) → ((table_fault t).number ≡ accepted → table_fits t ≡ true → C) → C
unfolding table_fault table_fits
fault_cases {C} t f g h =
    go (columns_fit t.types t.counts t.lengths) refl (eqb (length t.types) 0) refl (row_bad t) refl (area_fits t) refl
  where
    go : (columns : Bool) → columns_fit t.types t.counts t.lengths ≡ columns → (empty : Bool) → eqb (length t.types) 0 ≡ empty
        → (row : Bool) → row_bad t ≡ row → (area : Bool) → area_fits t ≡ area → C
    go false c empty z row r area a = f (rw c) (rw c)
    go true c true z row r area a = g (rw (c, z)) (eqb-true (length t.types) 0 z)
    go true c false z true r area a = f (rw (c, z, r)) (rw (c, r))
    go true c false z false r false a = f (rw (c, z, r, a)) (rw (c, r, a))
    go true c false z false r true a = h (rw (c, z, r, a)) (rw (c, r, a))

-- "A table that number 16 would refuse": where there are rows it is one that doesn't fit, and no other
pub refused_unfit : (t : Table) → (table_fault t).number ≡ bad_table → table_fits t ≡ false
refused_unfit t e = fault_cases t (λ n u. u) (λ n u. absurd (omega (arith, e, n))) (λ n u. absurd (omega (arith, e, n)))

pub unfit_refused : (t : Table) → (length t.types ≡ 0 → ⊥) → table_fits t ≡ false → (table_fault t).number ≡ bad_table
unfit_refused t some e = fault_cases t (λ n u. n) (λ n u. absurd (some u)) (λ n u. absurd (true≢false (sym u ∙ e)))

-- a table that is not refused has the form
pub fault_told : (t : Table) → (table_fault t).number ≡ accepted → Formed t
fault_told t e =
    fault_cases t (λ n u. absurd (omega (arith, e, n))) (λ n u. absurd (omega (arith, e, n))) (λ n u. table_told t u)

-- an answer is the form's refusal, 1, or what the entries are judged as
pub answer_cases : (H : List ℕ → List ℕ) (composed : List ℕ → Bool) {C : Type 0} (t : Table) (room : ℕ)
    → (((table_fault t).number ≡ accepted → ⊥) → answer_of H composed t room ≡ refused (table_fault t).number (table_fault t).place → C)
    → (Formed t → answer_of H composed t room ≡ refused too_long 0 → C)
    → (Formed t → length (slip_of (rows_of t)) ≤ max_bytes → answer_of H composed t room ≡ judged_as (rows_of t) room (verdict H composed (rows_of t)) → C)
    → C
unfolding answer_of
answer_cases H composed {C} t room f g h = go (eqb (table_fault t).number accepted) refl (ltb max_bytes (length (slip_of (rows_of t)))) refl
  where
    go : (free : Bool) → eqb (table_fault t).number accepted ≡ free → (long : Bool) → ltb max_bytes (length (slip_of (rows_of t))) ≡ long → C
    go false e long l = f (eqb-false (table_fault t).number accepted e) (rw e)
    go true e true l = g (fault_told t (eqb-true (table_fault t).number accepted e)) (rw (e, l))
    go true e false l =
        h (fault_told t (eqb-true (table_fault t).number accepted e)) (ltb-false max_bytes (length (slip_of (rows_of t))) l) (rw (e, l))
