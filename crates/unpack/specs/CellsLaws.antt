-- A table of the form is that of its entries.
use Rattle.std.specs.Prelude.{ℕ, zero, suc, ◌+◌, ◌≤◌, ◌<◌, true, List, [], ◌∷◌, ◌++◌, map, ◌≡◌, refl, length, take, drop}
use Rattle.std.proofs.Common.{sym, ap₂, ◌∙◌, arith, take-append-drop, length-drop, length-take-le}
use Rattle.trees.specs.Rows.{Entry}
use Rattle.tables.specs.Tables.{table, entry_of, entries, row_fits, first_bad, sum}
use Rattle.codec.specs.TableLaws.{row_cases, form_cons}
use Rattle.tables.specs.Cells.{type_cell, count_cell, length_cell, value_cell, values_of}
use Rattle.unpack.specs.Unpack.{table_of}

none : (v : List ℕ) → length v ≡ 0 → v ≡ []
none [] e = refl
none (x ∷ v) e = absurd (omega arith)

-- the cells of a row's entry are the row's
record Cells (t c l : ℕ) (v : List ℕ) (e : Entry) : Type 0 where
  type : type_cell e ≡ t
  count : count_cell e ≡ c
  size : length_cell e ≡ l
  value : value_cell e ≡ v

cells : (t c l : ℕ) (v : List ℕ) → row_fits t c l ≡ true → length v ≡ l → Cells t c l v (entry_of t c v)
cells t zero l v f e = record { type = refl; count = refl; size = e; value = refl }
cells t (suc c) l v f e =
    row_cases t (suc c) l f
    (λ a b d g. record { type = sym a; count = refl; size = sym b; value = sym (none v (e ∙ b)) })
    (λ a b d. absurd (omega arith))
    (λ a b d g. absurd (omega arith))

record Back (ts cs ls vs : List ℕ) (es : List Entry) : Type 0 where
  types : map type_cell es ≡ ts
  counts : map count_cell es ≡ cs
  lengths : map length_cell es ≡ ls
  values : values_of es ≡ vs

back :
    (k : ℕ) (ts cs ls vs : List ℕ)
    → length cs ≡ length ts
    → length ls ≡ length ts
    → first_bad k ts cs ls ≡ k + length ts
    → length vs ≡ sum ls
    → Back ts cs ls vs (entries ts cs ls vs)
unfolding sum
back k [] [] [] vs a b f s = record { types = refl; counts = refl; lengths = refl; values = sym (none vs s) }
back k [] (c ∷ cs) ls vs a b f s = absurd (omega arith)
back k [] [] (l ∷ ls) vs a b f s = absurd (omega arith)
back k (t ∷ ts) [] ls vs a b f s = absurd (omega arith)
back k (t ∷ ts) (c ∷ cs) [] vs a b f s = absurd (omega arith)
back k (t ∷ ts) (c ∷ cs) (l ∷ ls) vs a b f s =
    let n : k < k + length (t ∷ ts) = omega arith in
    let row = form_cons k t c l ts cs ls (k + length (t ∷ ts)) n f in
    let more : l ≤ length vs = omega arith in
    let here = cells t c l (take l vs) row.0 (length-take-le l vs more) in
    let on : first_bad (k + 1) ts cs ls ≡ k + 1 + length ts = row.1 ∙ omega arith in
    let rest : length (drop l vs) ≡ sum ls = length-drop l vs ∙ omega arith in
    let r = back (k + 1) ts cs ls (drop l vs) (omega arith) (omega arith) on rest in
    record {
      types = ap₂ (λ (x : ℕ) (xs : List ℕ). x ∷ xs) here.type r.types;
      counts = ap₂ (λ (x : ℕ) (xs : List ℕ). x ∷ xs) here.count r.counts;
      lengths = ap₂ (λ (x : ℕ) (xs : List ℕ). x ∷ xs) here.size r.lengths;
      values = ap₂ (λ (x y : List ℕ). x ++ y) here.value r.values ∙ take-append-drop l vs;
    }

pub table_back :
    (ts cs ls vs : List ℕ)
    → length cs ≡ length ts
    → length ls ≡ length ts
    → first_bad 0 ts cs ls ≡ length ts
    → length vs ≡ sum ls
    → table_of (entries ts cs ls vs) ≡ table ts cs ls vs
table_back ts cs ls vs a b f s =
    let r = back 0 ts cs ls vs a b (f ∙ omega arith) s in
    rw (r.types, r.counts, r.lengths, r.values)
