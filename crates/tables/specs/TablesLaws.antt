-- What the tests of a table's form tell, and where a row's value lies.
use Rattle.std.specs.Prelude.{ℕ, zero, suc, ◌+◌, ◌≤◌, ◌<◌, ◌≡◌, refl, Bool, true, false, not, cond, ◌&&◌, ◌||◌, List, [], ◌∷◌, ◌++◌, leb, eqb, length, get_or, take, drop}
use Rattle.std.proofs.Common.{ap, ◌∙◌, arith, drop-drop, eqb-true, leb-true, ltb-false}
use Rattle.std.proofs.lemmas.Bool.{not-true}
use Rattle.trees.specs.Rules.{max_type, max_value, max_children, label_bytes, max_nodes}
use Rattle.trees.specs.Rows.{Entry}
use Rattle.lists.specs.TestsLaws.{and_left, and_right, or_cases}
use Rattle.tables.specs.Tables.{Table, Columns, Formed, columns_fit, row_bad, area_fits, table_fits, internal_row, dangling_row, pair_row, row_fits, first_bad, sum, entries, entry_of}

pub columns_told : (ts cs ls : List ℕ) → columns_fit ts cs ls ≡ true → Columns ts cs ls
unfolding columns_fit
columns_told ts cs ls e =
    let a = eqb (length cs) (length ts) in
    let b = eqb (length ls) (length ts) in
    let d = leb (length ts) max_nodes in
    let f = and_left (a && b) d e in
    record {
      counts_long = eqb-true _ _ (and_left a b f);
      lengths_long = eqb-true _ _ (and_right a b f);
      few = leb-true _ _ (and_right (a && b) d e);
    }

-- the first bad row is at most the number of rows
either_most : (b : Bool) (x y n : ℕ) → x ≤ n → y ≤ n → cond b x y ≤ n
either_most true x y n p q = p
either_most false x y n p q = q

bad_most : (k : ℕ) (ts cs ls : List ℕ) → first_bad k ts cs ls ≤ k + length ts
unfolding first_bad
bad_most k [] cs ls = omega arith
bad_most k (t ∷ ts) [] ls = omega arith
bad_most k (t ∷ ts) (c ∷ cs) [] = omega arith
bad_most k (t ∷ ts) (c ∷ cs) (l ∷ ls) =
    either_most (row_fits t c l) (first_bad (k + 1) ts cs ls) k (k + length (t ∷ ts)) (omega (arith, bad_most (k + 1) ts cs ls)) (omega arith)

pub table_told : (t : Table) → table_fits t ≡ true → Formed t
unfolding table_fits
table_told t e =
    let a = columns_fit t.types t.counts t.lengths in
    let f = and_left (a && not (row_bad t)) (area_fits t) e in
    let n : ℕ = first_bad 0 t.types t.counts t.lengths in
    record {
      columns = columns_told _ _ _ (and_left a (not (row_bad t)) f);
      rows = omega (arith, ltb-false n (length t.types) (not-true (row_bad t) (and_right a (not (row_bad t)) f)), bad_most 0 t.types t.counts t.lengths);
      area = eqb-true _ _ (and_right (a && not (row_bad t)) (area_fits t) e);
    }

-- a row of the form has type 0 or is a pair
pub fits_cases {ℓ} : {C : Type ℓ} (t c l : ℕ) → row_fits t c l ≡ true → (t ≡ 0 → C) → (t ≤ max_type → c ≡ 0 → C) → C
unfolding row_fits
fits_cases t c l e f g =
    or_cases (internal_row t c l || dangling_row t c l) (pair_row t c l) e
    (λ h. or_cases (internal_row t c l) (dangling_row t c l) h
    (λ i. f (eqb-true t 0 (and_left _ (eqb l 0) (and_left _ (leb 1 c) (and_left _ (leb c max_children) i)))))
    (λ d. f (eqb-true t 0 (and_left _ (eqb c 0) (and_left _ (eqb l label_bytes) d)))))
    (λ p. let q = and_left _ (leb l max_value) p in
    g (leb-true t max_type (and_right (leb 1 t) _ (and_left _ (eqb c 0) q))) (eqb-true c 0 (and_right (leb 1 t && leb t max_type) _ q)))

-- where no row is bad, the first is of the form, and none behind it is bad
rows_head :
    (i t c l : ℕ) (ts cs ls : List ℕ)
    → first_bad i (t ∷ ts) (c ∷ cs) (l ∷ ls) ≡ i + length (t ∷ ts)
    → (row_fits t c l ≡ true) × (first_bad (i + 1) ts cs ls ≡ i + 1 + length ts)
unfolding first_bad
rows_head i t c l ts cs ls e = go (row_fits t c l) refl
  where
    go : (b : Bool) → row_fits t c l ≡ b → (row_fits t c l ≡ true) × (first_bad (i + 1) ts cs ls ≡ i + 1 + length ts)
    go false f = absurd (omega (arith, rw f at e))
    go true f = (f, omega (arith, rw f at e))

-- where no row is bad, each row is of the form
rows_fit :
    (i : ℕ) (ts cs ls : List ℕ)
    → first_bad i ts cs ls ≡ i + length ts
    → (j : ℕ)
    → j < length ts
    → row_fits (get_or ts j 0) (get_or cs j 0) (get_or ls j 0) ≡ true
unfolding first_bad
rows_fit i [] cs ls e j h = absurd (omega arith)
rows_fit i (t ∷ ts) [] ls e j h = absurd (omega arith)
rows_fit i (t ∷ ts) (c ∷ cs) [] e j h = absurd (omega arith)
rows_fit i (t ∷ ts) (c ∷ cs) (l ∷ ls) e zero h = (rows_head i t c l ts cs ls e).0
rows_fit i (t ∷ ts) (c ∷ cs) (l ∷ ls) e (suc j) h = rows_fit (i + 1) ts cs ls (rows_head i t c l ts cs ls e).1 j (omega arith)

pub formed_row :
    (t : Table)
    → Formed t
    → (j : ℕ)
    → j < length t.types
    → row_fits (get_or t.types j 0) (get_or t.counts j 0) (get_or t.lengths j 0) ≡ true
formed_row t f = rows_fit 0 t.types t.counts t.lengths (omega (arith, f.rows))

pub sum_append : (x y : List ℕ) → sum (x ++ y) ≡ sum x + sum y
unfolding sum
sum_append [] y = omega arith
sum_append (a ∷ x) y = let h : sum (x ++ y) ≡ sum x + sum y = sum_append x y in omega arith

-- a row's value lies within the sum of lengths
pub sum_part : (ls : List ℕ) (j : ℕ) → j < length ls → sum (take j ls) + get_or ls j 0 ≤ sum ls
unfolding sum
sum_part [] j h = absurd (omega arith)
sum_part (l ∷ ls) zero h = omega arith
sum_part (l ∷ ls) (suc j) h = omega (arith, sum_part ls j (omega arith))

-- one entry a row
pub length_entries : (ts cs ls vs : List ℕ) → length cs ≡ length ts → length ls ≡ length ts → length (entries ts cs ls vs) ≡ length ts
length_entries [] cs ls vs p q = refl
length_entries (t ∷ ts) [] ls vs p q = absurd (omega arith)
length_entries (t ∷ ts) (c ∷ cs) [] vs p q = absurd (omega arith)
length_entries (t ∷ ts) (c ∷ cs) (l ∷ ls) vs p q = ap suc (length_entries ts cs ls (drop l vs) (omega arith) (omega arith))

-- the entry of a row: its part of the area begins at the sum of the lengths before it
pub entries_at :
    (ts cs ls vs : List ℕ)
    → Columns ts cs ls
    → (j : ℕ) (d : Entry)
    → j < length ts
    → get_or (entries ts cs ls vs) j d ≡ entry_of (get_or ts j 0) (get_or cs j 0) (take (get_or ls j 0) (drop (sum (take j ls)) vs))
unfolding sum
entries_at [] cs ls vs f j d h = absurd (omega arith)
entries_at (t ∷ ts) [] ls vs f j d h = absurd (omega (arith, f.counts_long))
entries_at (t ∷ ts) (c ∷ cs) [] vs f j d h = absurd (omega (arith, f.lengths_long))
entries_at (t ∷ ts) (c ∷ cs) (l ∷ ls) vs f zero d h = refl
entries_at (t ∷ ts) (c ∷ cs) (l ∷ ls) vs f (suc j) d h =
    entries_at ts cs ls (drop l vs) (record { counts_long = omega (arith, f.counts_long); lengths_long = omega (arith, f.lengths_long); few = omega (arith, f.few) }) j d (omega arith)
    ∙ rw (drop-drop (sum (take j ls)) l vs)
