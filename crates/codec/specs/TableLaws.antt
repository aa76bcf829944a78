-- Laws of tables: one row more at the end, a row taken off the front, and what the form says of a row.
use Rattle.std.specs.Prelude.{◌≡◌, refl, Bool, true, false, cond, ◌&&◌, ◌||◌, List, [], ◌∷◌, ◌++◌, ℕ, ◌+◌, ◌≤◌, ◌<◌, leb, eqb, length, take, drop, get_or}
use Rattle.std.proofs.Common.{sym, ap, ap₂, ◌∙◌, add-one, arith, leb-true, eqb-true, le-leb, length-drop, drop-cons, take_all}
use Rattle.std.proofs.lemmas.List.{take-append-le, drop-append-le}
use Rattle.trees.specs.Rules.{max_type, max_value, max_children, label_bytes}
use Rattle.trees.specs.Rows.{Entry}
use Rattle.lists.specs.TestsLaws.{and_left, and_right, and_both, or_cases, or_first, or_second}
use Rattle.tables.specs.Tables.{entry_of, entries, internal_row, dangling_row, pair_row, row_fits, first_bad, sum}

-- ---- the form of a row

-- a row of the form is one of three
pub row_cases {ℓ} : {A : Type ℓ} (t c l : ℕ) → row_fits t c l ≡ true → (t ≡ 0 → l ≡ 0 → 1 ≤ c → c ≤ max_children → A)
    → (t ≡ 0 → c ≡ 0 → l ≡ label_bytes → A) → (1 ≤ t → t ≤ max_type → c ≡ 0 → l ≤ max_value → A) → A
unfolding row_fits
row_cases t c l e internal dangling pair =
    or_cases (internal_row t c l || dangling_row t c l) (pair_row t c l) e
    (λ h.
    or_cases (internal_row t c l) (dangling_row t c l) h
    (λ i.
    let three = and_left (eqb t 0 && eqb l 0 && leb 1 c) (leb c max_children) i in
    let two = and_left (eqb t 0 && eqb l 0) (leb 1 c) three in
    internal (eqb-true t 0 (and_left (eqb t 0) (eqb l 0) two)) (eqb-true l 0 (and_right (eqb t 0) (eqb l 0) two))
    (leb-true 1 c (and_right (eqb t 0 && eqb l 0) (leb 1 c) three)) (leb-true c max_children (and_right (eqb t 0 && eqb l 0 && leb 1 c) (leb c max_children) i)))
    (λ d.
    let two = and_left (eqb t 0 && eqb c 0) (eqb l label_bytes) d in
    dangling (eqb-true t 0 (and_left (eqb t 0) (eqb c 0) two)) (eqb-true c 0 (and_right (eqb t 0) (eqb c 0) two))
    (eqb-true l label_bytes (and_right (eqb t 0 && eqb c 0) (eqb l label_bytes) d))))
    (λ q.
    let three = and_left (leb 1 t && leb t max_type && eqb c 0) (leb l max_value) q in
    let two = and_left (leb 1 t && leb t max_type) (eqb c 0) three in
    pair (leb-true 1 t (and_left (leb 1 t) (leb t max_type) two)) (leb-true t max_type (and_right (leb 1 t) (leb t max_type) two))
    (eqb-true c 0 (and_right (leb 1 t && leb t max_type) (eqb c 0) three)) (leb-true l max_value (and_right (leb 1 t && leb t max_type && eqb c 0) (leb l max_value) q)))

pub fits_internal : (c : ℕ) → 1 ≤ c → c ≤ max_children → row_fits 0 c 0 ≡ true
unfolding row_fits
fits_internal c h g =
    or_first (internal_row 0 c 0 || dangling_row 0 c 0) (pair_row 0 c 0)
    (or_first (internal_row 0 c 0) (dangling_row 0 c 0) (and_both (leb 1 c) (leb c max_children) (le-leb 1 c h) (le-leb c max_children g)))

pub fits_dangling : row_fits 0 0 label_bytes ≡ true
unfolding row_fits
fits_dangling = refl

pub fits_pair : (t l : ℕ) → 1 ≤ t → t ≤ max_type → l ≤ max_value → row_fits t 0 l ≡ true
unfolding row_fits
fits_pair t l h g k =
    or_second (internal_row t 0 l || dangling_row t 0 l) (pair_row t 0 l)
    (and_both (leb 1 t && leb t max_type && true) (leb l max_value)
    (and_both (leb 1 t && leb t max_type) true (and_both (leb 1 t) (leb t max_type) (le-leb 1 t h) (le-leb t max_type g)) refl)
    (le-leb l max_value k))

-- the largest numbers of a row
pub record RowSmall (t c l : ℕ) : Type 0 where
  pub type : t ≤ max_type
  pub count : c ≤ max_children
  pub length : l ≤ max_value

pub row_small : (t c l : ℕ) → row_fits t c l ≡ true → RowSmall t c l
row_small t c l e =
    row_cases t c l e
    (λ a b d f. record { type = omega arith; count = f; length = omega arith })
    (λ a b d. record { type = omega arith; count = omega arith; length = omega arith })
    (λ a b d f. record { type = b; count = omega arith; length = f })

-- ---- one row more at the end

pub entries_snoc : (ts cs ls vs : List ℕ) (t c l : ℕ) (v : List ℕ) → length cs ≡ length ts → length ls ≡ length ts → sum ls ≡ length vs → length v ≡ l
    → entries (ts ++ (t ∷ [])) (cs ++ (c ∷ [])) (ls ++ (l ∷ [])) (vs ++ v) ≡ entries ts cs ls vs ++ (entry_of t c v ∷ [])
unfolding sum
entries_snoc [] [] [] vs t c l v a b d e =
    ap (λ (w : List ℕ). entry_of t c w ∷ []) (ap (λ (w : List ℕ). take l (w ++ v)) (none vs (sym d)) ∙ take_all l v (omega arith))
  where
    none : (w : List ℕ) → length w ≡ 0 → w ≡ []
    none [] h = refl
    none (x ∷ w) h = absurd (omega arith)
entries_snoc [] (x ∷ cs) ls vs t c l v a b d e = absurd (omega arith)
entries_snoc [] [] (x ∷ ls) vs t c l v a b d e = absurd (omega arith)
entries_snoc (x ∷ ts) [] ls vs t c l v a b d e = absurd (omega arith)
entries_snoc (x ∷ ts) (y ∷ cs) [] vs t c l v a b d e = absurd (omega arith)
entries_snoc (x ∷ ts) (y ∷ cs) (z ∷ ls) vs t c l v a b d e =
    ap₂ (λ (f : Entry) (r : List Entry). f ∷ r) (ap (entry_of x y) (take-append-le z vs v (omega arith)))
    (ap (entries (ts ++ (t ∷ [])) (cs ++ (c ∷ [])) (ls ++ (l ∷ []))) (drop-append-le z vs v (omega arith))
    ∙ entries_snoc ts cs ls (drop z vs) t c l v (omega arith) (omega arith) (omega (arith, length-drop z vs)) e)

pub sum_snoc : (ls : List ℕ) (l : ℕ) → sum (ls ++ (l ∷ [])) ≡ sum ls + l
unfolding sum
sum_snoc [] l = omega arith
sum_snoc (x ∷ ls) l = omega (arith, sum_snoc ls l)

-- where all rows are of the form, the first is, and so are those behind it
pub form_cons : (k t c l : ℕ) (ts cs ls : List ℕ) (n : ℕ) → k < n → first_bad k (t ∷ ts) (c ∷ cs) (l ∷ ls) ≡ n → (row_fits t c l ≡ true) × (first_bad (k + 1) ts cs ls ≡ n)
unfolding first_bad
form_cons k t c l ts cs ls n h e = go (row_fits t c l) refl
  where
    go : (x : Bool) → row_fits t c l ≡ x → (row_fits t c l ≡ true) × (first_bad (k + 1) ts cs ls ≡ n)
    go true f = (f, ap (λ (x : Bool). cond x (first_bad (k + 1) ts cs ls) k) (sym f) ∙ e)
    go false f = absurd (omega (arith, ap (λ (x : Bool). cond x (first_bad (k + 1) ts cs ls) k) (sym f) ∙ e))

-- rows that are all of the form, from k on, and one more
pub form_snoc : (k : ℕ) (ts cs ls : List ℕ) (t c l : ℕ) → length cs ≡ length ts → length ls ≡ length ts → first_bad k ts cs ls ≡ k + length ts → row_fits t c l ≡ true
    → first_bad k (ts ++ (t ∷ [])) (cs ++ (c ∷ [])) (ls ++ (l ∷ [])) ≡ k + length ts + 1
unfolding first_bad
form_snoc k [] [] [] t c l a b e f = ap (λ (x : Bool). cond x (k + 1) k) f ∙ omega arith
form_snoc k [] (y ∷ cs) ls t c l a b e f = absurd (omega arith)
form_snoc k [] [] (z ∷ ls) t c l a b e f = absurd (omega arith)
form_snoc k (x ∷ ts) [] ls t c l a b e f = absurd (omega arith)
form_snoc k (x ∷ ts) (y ∷ cs) [] t c l a b e f = absurd (omega arith)
form_snoc k (x ∷ ts) (y ∷ cs) (z ∷ ls) t c l a b e f =
    let h = form_cons k x y z ts cs ls (k + length (x ∷ ts)) (omega arith) e in
    ap (λ (q : Bool). cond q (first_bad (k + 1) (ts ++ (t ∷ [])) (cs ++ (c ∷ [])) (ls ++ (l ∷ []))) k) h.0
    ∙ form_snoc (k + 1) ts cs ls t c l (omega arith) (omega arith) (h.1 ∙ omega arith) f
    ∙ omega arith

-- ---- a row taken off the front

-- a column's cell i and those behind it
pub column_off : (c : List ℕ) (i : ℕ) → i < length c → drop i c ≡ get_or c i 0 ∷ drop (i + 1) c
column_off c i h = drop-cons c i 0 h ∙ ap (λ (k : ℕ). get_or c i 0 ∷ drop k c) (sym (add-one i))

pub sum_off : (ls : List ℕ) (i : ℕ) → i < length ls → sum (drop i ls) ≡ get_or ls i 0 + sum (drop (i + 1) ls)
unfolding sum
sum_off ls i h = ap sum (column_off ls i h)

-- the rows from i on of columns of one length
module _ (T C L : List ℕ) (i : ℕ) (sameC : length C ≡ length T) (sameL : length L ≡ length T) (h : i < length T) where
  pub entries_off : (vs : List ℕ) → entries (drop i T) (drop i C) (drop i L) vs
      ≡ entry_of (get_or T i 0) (get_or C i 0) (take (get_or L i 0) vs) ∷ entries (drop (i + 1) T) (drop (i + 1) C) (drop (i + 1) L) (drop (get_or L i 0) vs)
  entries_off vs =
      λ j. entries (column_off T i h j) (column_off C i (omega arith) j) (column_off L i (omega arith) j) vs

  pub form_off : first_bad i (drop i T) (drop i C) (drop i L) ≡ length T
      → (row_fits (get_or T i 0) (get_or C i 0) (get_or L i 0) ≡ true) × (first_bad (i + 1) (drop (i + 1) T) (drop (i + 1) C) (drop (i + 1) L) ≡ length T)
  form_off e =
      form_cons i (get_or T i 0) (get_or C i 0) (get_or L i 0) (drop (i + 1) T) (drop (i + 1) C) (drop (i + 1) L) (length T) h
      ((λ j. first_bad i (sym (column_off T i h) j) (sym (column_off C i (omega arith)) j) (sym (column_off L i (omega arith)) j)) ∙ e)
