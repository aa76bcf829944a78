-- Laws of a table's rows, one row at a time.
use Prim.Native.Nat.{ℕ, suc, ◌+◌, ◌≤◌, ◌<◌}
use mathlib.Core.Bool.{true, false, or-false, and-false}
use lib.Dec.{leb, eqb}
use borrow.Author.Tests.{ne_eqb, le-leb, lt-leb}
use Rattle.trees.specs.Rules.{max_type, max_value, max_children, label_bytes}
use mathlib.Core.Path.{◌≡◌, ◌∙◌, refl}
use mathlib.Core.List.{List, ◌∷◌}
use Rattle.std.specs.Prelude.{sum_by}
use Rattle.std.proofs.lemmas.List.Recursion.{is_sum_by}
use native.Mathlib.Numerals.{add-one}
use native.Mathlib.Omega.{arith}
use lib.ListN.{length, drop, get_or, drop_of_length-le}
use lib.Seq.{drop-cons}
use Rattle.tables.specs.Tables.{row_fits, first_bad, sum}

-- a row that names children is internal or of no form
module _ (t c l : ℕ) (p : 1 ≤ c) where
  pub internal_typed : (t ≡ 0 → ⊥) → row_fits t c l ≡ false
  unfolding row_fits
  internal_typed q = simp (ne_eqb t 0 q, ne_eqb c 0 (λ e. omega arith), or-false, and-false)

  pub internal_long : t ≡ 0 → (l ≡ 0 → ⊥) → row_fits t c l ≡ false
  unfolding row_fits
  internal_long e q = simp (e, ne_eqb l 0 q, ne_eqb c 0 (λ e. omega arith), or-false, and-false)

  pub internal_is : t ≡ 0 → l ≡ 0 → row_fits t c l ≡ leb c max_children
  unfolding row_fits
  internal_is e f = simp (e, f, le-leb 1 c p, ne_eqb c 0 (λ e. omega arith), or-false, and-false)

-- a row that names none is a leaf
module _ (t c l : ℕ) (p : c ≡ 0) where
  pub dangling_is : t ≡ 0 → row_fits t c l ≡ eqb l label_bytes
  unfolding row_fits
  dangling_is e = simp (e, p, or-false, and-false)

  pub pair_typed : (t ≡ 0 → ⊥) → max_type < t → row_fits t c l ≡ false
  unfolding row_fits
  pair_typed q h = simp (p, ne_eqb t 0 q, lt-leb t max_type h, or-false, and-false)

  pub pair_is : (t ≡ 0 → ⊥) → t ≤ max_type → row_fits t c l ≡ leb l max_value
  unfolding row_fits
  pair_is q h = simp (p, ne_eqb t 0 q, le-leb 1 t (omega arith), le-leb t max_type h, or-false, and-false)

-- the rows from i on are row i and those behind it
module _ (ts cs ls : List ℕ) (i : ℕ) (p : i < length ts) (q : i < length cs) (r : i < length ls) where
  opened :
      first_bad i (drop i ts) (drop i cs) (drop i ls)
      ≡ first_bad i (get_or ts i 0 ∷ drop (suc i) ts) (get_or cs i 0 ∷ drop (suc i) cs) (get_or ls i 0 ∷ drop (suc i) ls)
  opened = rw (drop-cons ts i 0 p, drop-cons cs i 0 q, drop-cons ls i 0 r)

  pub bad_here : row_fits (get_or ts i 0) (get_or cs i 0) (get_or ls i 0) ≡ false → first_bad i (drop i ts) (drop i cs) (drop i ls) ≡ i
  unfolding first_bad
  bad_here e = opened ∙ rw e

  pub bad_later :
      row_fits (get_or ts i 0) (get_or cs i 0) (get_or ls i 0) ≡ true
      → first_bad i (drop i ts) (drop i cs) (drop i ls) ≡ first_bad (i + 1) (drop (i + 1) ts) (drop (i + 1) cs) (drop (i + 1) ls)
  unfolding first_bad
  bad_later e = opened ∙ rw (e, add-one)

pub bad_none : (ts cs ls : List ℕ) (i : ℕ) → length ts ≤ i → first_bad i (drop i ts) cs ls ≡ i
unfolding first_bad
bad_none ts cs ls i p = rw (drop_of_length-le ts p)

pub sum_more : (ls : List ℕ) (i total : ℕ) → i < length ls → total + sum (drop i ls) ≡ total + get_or ls i 0 + sum (drop (i + 1) ls)
unfolding sum
sum_more ls i total p =
    let e : sum (drop i ls) ≡ get_or ls i 0 + sum (drop (i + 1) ls) = rw (add-one, drop-cons ls i 0 p) in
    omega (arith, e)

pub sum_none : (ls : List ℕ) (i : ℕ) → length ls ≤ i → sum (drop i ls) ≡ 0
unfolding sum
sum_none ls i p = rw (drop_of_length-le ls p)

-- the same sum as the library's
pub sum_is : (ls : List ℕ) → sum ls ≡ sum_by (λ n. n) ls
unfolding sum
sum_is ls = is_sum_by sum (λ n. n) refl (λ x xs. refl) ls
