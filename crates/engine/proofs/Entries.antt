-- The rows of a table, one by one: the entry that each gives, and what its form tells.
use Prim.Native.Nat.{ℕ, zero, suc, ◌+◌, ◌≤◌, ◌<◌}
use mathlib.Core.Path.{◌≡◌, refl, ap}
use mathlib.Core.Bool.{Bool, true, false, cond, ◌&&◌, ◌||◌}
use mathlib.Core.List.{List, [], ◌∷◌}
use native.Mathlib.Omega.{arith}
use lib.Dec.{eqb, leb}
use borrow.Author.Tests.{eqb-true, leb-true}
use Rattle.lists.specs.TestsLaws.{and_left, and_right, and_both, or_cases}
use Rattle.trees.specs.Rules.{label_bytes, max_type, max_value, max_children}
use Rattle.trees.specs.Rows.{formed}
use lib.ListN.{length, take, drop, get_or, drop_of_length-le}
use lib.Seq.{drop-drop}
use Rattle.tables.specs.Tables.{entry_of, entries, sum, internal_row, dangling_row, pair_row, row_fits, first_bad}
use Rattle.lists.specs.PartsLaws.{next_cons}

-- the row i, and the rows behind it
pub entries_next :
    (types counts lengths values : List ℕ) (i at : ℕ)
    → i < length types
    → i < length counts
    → i < length lengths
    → entries (drop i types) (drop i counts) (drop i lengths) (drop at values)
    ≡ entry_of (get_or types i 0) (get_or counts i 0) (take (get_or lengths i 0) (drop at values))
    ∷ entries (drop (i + 1) types) (drop (i + 1) counts) (drop (i + 1) lengths) (drop (at + get_or lengths i 0) values)
entries_next types counts lengths values i at ht hc hl =
    rw (next_cons types i 0 ht, next_cons counts i 0 hc, next_cons lengths i 0 hl, drop-drop (get_or lengths i 0) at values)

-- behind the last row there are none
pub entries_end : (types counts lengths values : List ℕ) (i at : ℕ) → length types ≤ i
    → entries (drop i types) (drop i counts) (drop i lengths) (drop at values) ≡ []
entries_end types counts lengths values i at h = rw (drop_of_length-le types h)

-- where no row is bad, each is of the form
pub row_fits_lem :
    (b : ℕ) (types counts lengths : List ℕ) (i : ℕ)
    → first_bad b types counts lengths ≡ b + length types
    → i < length types
    → row_fits (get_or types i 0) (get_or counts i 0) (get_or lengths i 0) ≡ true
unfolding first_bad
row_fits_lem b [] counts lengths i e h = absurd (omega arith)
row_fits_lem b (t ∷ types) [] lengths i e h = absurd (omega arith)
row_fits_lem b (t ∷ types) (c ∷ counts) [] i e h = absurd (omega arith)
row_fits_lem b (t ∷ types) (c ∷ counts) (l ∷ lengths) i e h =
    go (row_fits t c l) refl e (λ j p q. row_fits_lem (b + 1) types counts lengths j p q) i h
  where
    go : (f : Bool) → row_fits t c l ≡ f → cond f (first_bad (b + 1) types counts lengths) b ≡ b + suc (length types)
        → ((j : ℕ) → first_bad (b + 1) types counts lengths ≡ b + 1 + length types → j < length types → row_fits (get_or types j 0) (get_or counts j 0) (get_or lengths j 0) ≡ true)
        → (i : ℕ) → i < suc (length types)
        → row_fits (get_or (t ∷ types) i 0) (get_or (c ∷ counts) i 0) (get_or (l ∷ lengths) i 0) ≡ true
    go true p q f zero k = p
    go true p q f (suc i) k = f i (omega arith) (omega arith)
    go false p q f i k = absurd (omega arith)

-- the three kinds of row
inside : (t c : ℕ) (v : List ℕ) → internal_row t c (length v) ≡ true → formed (entry_of t c v) ≡ true
inside t c v a =
    let front : (eqb t 0 && eqb (length v) 0 && leb 1 c) ≡ true = and_left (eqb t 0 && eqb (length v) 0 && leb 1 c) (leb c max_children) a in
    go c (and_right (eqb t 0 && eqb (length v) 0) (leb 1 c) front) (and_right (eqb t 0 && eqb (length v) 0 && leb 1 c) (leb c max_children) a)
  where
    go : (c : ℕ) → leb 1 c ≡ true → leb c max_children ≡ true → formed (entry_of t c v) ≡ true
    go zero p q = absurd (omega (arith, leb-true 1 0 p))
    go (suc c) p q = and_both (leb 1 (suc c)) (leb (suc c) max_children) p q

dangling : (t c : ℕ) (v : List ℕ) → dangling_row t c (length v) ≡ true → formed (entry_of t c v) ≡ true
dangling t c v a =
    let front : (eqb t 0 && eqb c 0) ≡ true = and_left (eqb t 0 && eqb c 0) (eqb (length v) label_bytes) a in
    go t c (eqb-true t 0 (and_left (eqb t 0) (eqb c 0) front)) (eqb-true c 0 (and_right (eqb t 0) (eqb c 0) front))
    (and_right (eqb t 0 && eqb c 0) (eqb (length v) label_bytes) a)
  where
    go : (t c : ℕ) → t ≡ 0 → c ≡ 0 → eqb (length v) label_bytes ≡ true → formed (entry_of t c v) ≡ true
    go zero zero p q n = n
    go (suc t) zero p q n = absurd (omega arith)
    go t (suc c) p q n = absurd (omega arith)

pair : (t c : ℕ) (v : List ℕ) → pair_row t c (length v) ≡ true → formed (entry_of t c v) ≡ true
pair t c v a =
    let front : (leb 1 t && leb t max_type && eqb c 0) ≡ true = and_left (leb 1 t && leb t max_type && eqb c 0) (leb (length v) max_value) a in
    let type : (leb 1 t && leb t max_type) ≡ true = and_left (leb 1 t && leb t max_type) (eqb c 0) front in
    go t c (leb-true 1 t (and_left (leb 1 t) (leb t max_type) type)) (and_right (leb 1 t) (leb t max_type) type)
    (eqb-true c 0 (and_right (leb 1 t && leb t max_type) (eqb c 0) front))
    (and_right (leb 1 t && leb t max_type && eqb c 0) (leb (length v) max_value) a)
  where
    go : (t c : ℕ) → 1 ≤ t → leb t max_type ≡ true → c ≡ 0 → leb (length v) max_value ≡ true → formed (entry_of t c v) ≡ true
    go zero zero p m q n = absurd (omega arith)
    go (suc t) zero p m q n = and_both (leb (suc t) max_type) (leb (length v) max_value) m n
    go t (suc c) p m q n = absurd (omega arith)

-- a row of the form gives an entry of the form
pub row_formed : (t c : ℕ) (v : List ℕ) → row_fits t c (length v) ≡ true → formed (entry_of t c v) ≡ true
unfolding row_fits
row_formed t c v e =
    or_cases (internal_row t c (length v) || dangling_row t c (length v)) (pair_row t c (length v)) e
    (λ a. or_cases (internal_row t c (length v)) (dangling_row t c (length v)) a (inside t c v) (dangling t c v))
    (pair t c v)

-- no row is longer than a value may be
pub row_small : (t c l : ℕ) → row_fits t c l ≡ true → l ≤ max_value
unfolding row_fits
row_small t c l e =
    or_cases (internal_row t c l || dangling_row t c l) (pair_row t c l) e
    (λ a.
    or_cases (internal_row t c l) (dangling_row t c l) a
    (λ p. let z : l ≡ 0 = eqb-true l 0 (and_right (eqb t 0) (eqb l 0) (and_left (eqb t 0 && eqb l 0) (leb 1 c) (and_left (eqb t 0 && eqb l 0 && leb 1 c) (leb c max_children) p))) in omega arith)
    (λ p. let z : l ≡ label_bytes = eqb-true l label_bytes (and_right (eqb t 0 && eqb c 0) (eqb l label_bytes) p) in omega arith))
    (λ p. leb-true l max_value (and_right (leb 1 t && leb t max_type && eqb c 0) (leb l max_value) p))

-- the sum of the rows left
pub sum_next : (l : List ℕ) (i : ℕ) → i < length l → sum (drop i l) ≡ get_or l i 0 + sum (drop (i + 1) l)
unfolding sum
sum_next l i h = ap sum (next_cons l i 0 h)
