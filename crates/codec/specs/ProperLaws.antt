-- The entries of a table whose rows are all of the form are of the form, and over bytes they are proper.
use Rattle.std.specs.Prelude.{◌≡◌, refl, true, List, [], ◌∷◌, ℕ, zero, suc, ◌+◌, ◌≤◌, leb, length, take, drop}
use Rattle.std.proofs.Common.{ap, ◌∙◌, arith, le-leb, eq-eqb, length-drop, length-take-le}
use Rattle.lists.specs.Lists.{Below, all}
use Rattle.lists.specs.ListsLaws.{below_take, below_drop}
use Rattle.trees.specs.Rules.{max_type, max_value, max_children, label_bytes}
use Rattle.lists.specs.TestsLaws.{and_both}
use Rattle.trees.specs.Rows.{formed}
use Rattle.tables.specs.Tables.{entry_of, entries, row_fits, first_bad, sum}
use Rattle.codec.specs.TableLaws.{row_cases, form_cons}
use Rattle.codec.specs.Proper.{Bytes, Proper, AllProper}

-- a row of the form is an entry of the form
row_formed : (t c : ℕ) (v : List ℕ) → row_fits t c (length v) ≡ true → formed (entry_of t c v) ≡ true
row_formed t (suc c) v f =
    row_cases t (suc c) (length v) f
    (λ a b d g. and_both (leb 1 (suc c)) (leb (suc c) max_children) (le-leb 1 (suc c) d) (le-leb (suc c) max_children g))
    (λ a b d. absurd (omega arith))
    (λ a b d g. absurd (omega arith))
row_formed zero zero v f =
    row_cases 0 0 (length v) f (λ a b d g. absurd (omega arith)) (λ a b d. eq-eqb (length v) label_bytes d) (λ a b d g. absurd (omega arith))
row_formed (suc t) zero v f =
    row_cases (suc t) 0 (length v) f (λ a b d g. absurd (omega arith)) (λ a b d. absurd (omega arith))
    (λ a b d g. and_both (leb (suc t) max_type) (leb (length v) max_value) (le-leb (suc t) max_type b) (le-leb (length v) max_value g))

row_bytes : (t c : ℕ) (v : List ℕ) → Below 256 v → Bytes (entry_of t c v)
row_bytes t zero v h = h
row_bytes t (suc c) v h = tt

pub row_proper : (t c : ℕ) (v : List ℕ) → row_fits t c (length v) ≡ true → Below 256 v → Proper (entry_of t c v)
row_proper t c v f h = record { form = row_formed t c v f; bytes = row_bytes t c v h }

-- so the entries of a table of the form are
pub table_formed : (k : ℕ) (ts cs ls vs : List ℕ) → first_bad k ts cs ls ≡ k + length ts → sum ls ≤ length vs → all formed (entries ts cs ls vs) ≡ true
unfolding sum
table_formed k [] cs ls vs e l = refl
table_formed k (t ∷ ts) [] ls vs e l = refl
table_formed k (t ∷ ts) (c ∷ cs) [] vs e l = refl
table_formed k (t ∷ ts) (c ∷ cs) (x ∷ ls) vs e l =
    let f = form_cons k t c x ts cs ls (k + length (t ∷ ts)) (omega arith) e in
    let n : length (take x vs) ≡ x = length-take-le x vs (omega arith) in
    and_both (formed (entry_of t c (take x vs))) (all formed (entries ts cs ls (drop x vs)))
    (row_formed t c (take x vs) (ap (λ (m : ℕ). row_fits t c m) n ∙ f.0))
    (table_formed (k + 1) ts cs ls (drop x vs) (f.1 ∙ omega arith) (omega (arith, length-drop x vs)))

pub table_proper : (k : ℕ) (ts cs ls vs : List ℕ) → first_bad k ts cs ls ≡ k + length ts → sum ls ≤ length vs → Below 256 vs → AllProper (entries ts cs ls vs)
unfolding sum
table_proper k [] cs ls vs e l h = tt
table_proper k (t ∷ ts) [] ls vs e l h = tt
table_proper k (t ∷ ts) (c ∷ cs) [] vs e l h = tt
table_proper k (t ∷ ts) (c ∷ cs) (x ∷ ls) vs e l h =
    let f = form_cons k t c x ts cs ls (k + length (t ∷ ts)) (omega arith) e in
    let n : length (take x vs) ≡ x = length-take-le x vs (omega arith) in (
      row_proper t c (take x vs) (ap (λ (m : ℕ). row_fits t c m) n ∙ f.0) (below_take 256 x vs h),
      table_proper (k + 1) ts cs ls (drop x vs) (f.1 ∙ omega arith) (omega (arith, length-drop x vs)) (below_drop 256 x vs h),
    )
