-- Laws of a table's rows as entries: one at a time, and end to end.
use Rattle.std.specs.Prelude.{ℕ, zero, suc, ◌+◌, ◌≤◌, ◌<◌, Bool, true, false, ◌≡◌, refl, List, [], ◌∷◌, ◌++◌, map, length, take, drop, get_or}
use Rattle.std.proofs.Math.Bool.{cond}
use Rattle.std.proofs.Common.{sym, ap₂, ◌∙◌, length-drop, drop-drop}
use Rattle.std.proofs.Math.Path.{ap}
use native.Mathlib.Omega.{arith}
use Rattle.std.proofs.lemmas.List.{take-append-le, drop-append-le}
use Rattle.trees.specs.Rows.{Entry}
use Rattle.tables.specs.Tables.{entry_of, entries, row_fits, first_bad, sum}
use Rattle.tables.specs.Cells.{count_cell}

pub children_of : (t c : ℕ) (v : List ℕ) → count_cell (entry_of t c v) ≡ c
children_of t zero v = refl
children_of t (suc c) v = refl

-- the column of counts is what the entries name
pub entries_counts : (ts cs ls vs : List ℕ) → length cs ≡ length ts → length ls ≡ length ts → map count_cell (entries ts cs ls vs) ≡ cs
entries_counts [] [] ls vs p q = refl
entries_counts [] (c ∷ cs) ls vs p q = absurd (omega arith)
entries_counts (t ∷ ts) [] ls vs p q = absurd (omega arith)
entries_counts (t ∷ ts) (c ∷ cs) [] vs p q = absurd (omega arith)
entries_counts (t ∷ ts) (c ∷ cs) (l ∷ ls) vs p q =
    ap₂ ◌∷◌ (children_of t c (take l vs)) (entries_counts ts cs ls (drop l vs) (omega arith) (omega arith))

-- the entry of row k has its part of the area behind the parts of the rows before it
pub entries_at : (ts cs ls vs : List ℕ) (k : ℕ) (z : Entry) → length cs ≡ length ts → length ls ≡ length ts → k < length ts
    → get_or (entries ts cs ls vs) k z ≡ entry_of (get_or ts k 0) (get_or cs k 0) (take (get_or ls k 0) (drop (sum (take k ls)) vs))
unfolding sum
entries_at [] cs ls vs k z p q h = absurd (omega arith)
entries_at (t ∷ ts) [] ls vs k z p q h = absurd (omega arith)
entries_at (t ∷ ts) (c ∷ cs) [] vs k z p q h = absurd (omega arith)
entries_at (t ∷ ts) (c ∷ cs) (l ∷ ls) vs zero z p q h = refl
entries_at (t ∷ ts) (c ∷ cs) (l ∷ ls) vs (suc k) z p q h =
    entries_at ts cs ls (drop l vs) k z (omega arith) (omega arith) (omega arith)
    ∙ ap (λ (x : List ℕ). entry_of (get_or ts k 0) (get_or cs k 0) (take (get_or ls k 0) x)) (drop-drop (sum (take k ls)) l vs)

-- two tables end to end, where the first area is that of the first table's rows
pub entries_append : (ts cs ls vs ts' cs' ls' vs' : List ℕ) → length cs ≡ length ts → length ls ≡ length ts → length vs ≡ sum ls
    → entries (ts ++ ts') (cs ++ cs') (ls ++ ls') (vs ++ vs') ≡ entries ts cs ls vs ++ entries ts' cs' ls' vs'
unfolding sum
entries_append [] [] [] [] ts' cs' ls' vs' p q r = refl
entries_append [] [] [] (v ∷ vs) ts' cs' ls' vs' p q r = absurd (omega arith)
entries_append [] [] (l ∷ ls) vs ts' cs' ls' vs' p q r = absurd (omega arith)
entries_append [] (c ∷ cs) ls vs ts' cs' ls' vs' p q r = absurd (omega arith)
entries_append (t ∷ ts) [] ls vs ts' cs' ls' vs' p q r = absurd (omega arith)
entries_append (t ∷ ts) (c ∷ cs) [] vs ts' cs' ls' vs' p q r = absurd (omega arith)
entries_append (t ∷ ts) (c ∷ cs) (l ∷ ls) vs ts' cs' ls' vs' p q r =
    let room : l ≤ length vs = omega arith in
    ap₂ (λ (x y : List ℕ). entry_of t c x ∷ entries (ts ++ ts') (cs ++ cs') (ls ++ ls') y)
    (take-append-le l vs vs' room) (drop-append-le l vs vs' room)
    ∙ ap (λ (es : List Entry). entry_of t c (take l vs) ∷ es)
    (entries_append ts cs ls (drop l vs) ts' cs' ls' vs' (omega arith) (omega arith) (omega (arith, length-drop l vs)))

either_eq : (b : Bool) (x i k : ℕ) → cond b x i ≡ i + suc k → b ≡ true
either_eq true x i k e = refl
either_eq false x i k e = absurd (omega arith)

-- a table of the form: its first row and the others
module _ (t c l : ℕ) (ts cs ls : List ℕ) (i : ℕ) (e : first_bad i (t ∷ ts) (c ∷ cs) (l ∷ ls) ≡ i + suc (length ts)) where
  first_fits : row_fits t c l ≡ true
  unfolding first_bad
  first_fits = either_eq (row_fits t c l) (first_bad (i + 1) ts cs ls) i (length ts) e

  others_fit : first_bad (i + 1) ts cs ls ≡ i + 1 + length ts
  unfolding first_bad
  others_fit = ap (λ (b : Bool). cond b (first_bad (i + 1) ts cs ls) i) (sym first_fits) ∙ e ∙ omega arith

-- every row of a table of the form is of the form
pub row_fits_lem : (ts cs ls : List ℕ) (i k : ℕ) → length cs ≡ length ts → length ls ≡ length ts → first_bad i ts cs ls ≡ i + length ts → k < length ts
    → row_fits (get_or ts k 0) (get_or cs k 0) (get_or ls k 0) ≡ true
row_fits_lem [] cs ls i k p q e h = absurd (omega arith)
row_fits_lem (t ∷ ts) [] ls i k p q e h = absurd (omega arith)
row_fits_lem (t ∷ ts) (c ∷ cs) [] i k p q e h = absurd (omega arith)
row_fits_lem (t ∷ ts) (c ∷ cs) (l ∷ ls) i zero p q e h = first_fits t c l ts cs ls i e
row_fits_lem (t ∷ ts) (c ∷ cs) (l ∷ ls) i (suc k) p q e h =
    row_fits_lem ts cs ls (i + 1) k (omega arith) (omega arith) (others_fit t c l ts cs ls i e) (omega arith)

-- a row of the form, behind rows of the form
pub formed_more : (ts cs ls : List ℕ) (i t c l : ℕ) → length cs ≡ length ts → length ls ≡ length ts → first_bad i ts cs ls ≡ i + length ts
    → row_fits t c l ≡ true → first_bad i (ts ++ (t ∷ [])) (cs ++ (c ∷ [])) (ls ++ (l ∷ [])) ≡ i + length ts + 1
unfolding first_bad
formed_more [] [] [] i t c l p q e f = rw f (omega arith)
formed_more [] [] (x ∷ ls) i t c l p q e f = absurd (omega arith)
formed_more [] (x ∷ cs) ls i t c l p q e f = absurd (omega arith)
formed_more (u ∷ ts) [] ls i t c l p q e f = absurd (omega arith)
formed_more (u ∷ ts) (d ∷ cs) [] i t c l p q e f = absurd (omega arith)
formed_more (u ∷ ts) (d ∷ cs) (m ∷ ls) i t c l p q e f =
    let first : row_fits u d m ≡ true = first_fits u d m ts cs ls i e in
    let others : first_bad (i + 1) ts cs ls ≡ i + 1 + length ts = others_fit u d m ts cs ls i e in
    rw first (formed_more ts cs ls (i + 1) t c l (omega arith) (omega arith) others f ∙ omega arith)
