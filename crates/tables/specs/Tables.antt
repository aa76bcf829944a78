-- The unpacked table: "Three columns (types, child counts, lengths), one row an entry, and one area with the values and dangling labels end to end."
use Rattle.std.specs.Prelude.{ℕ, zero, suc, ◌+◌, ◌≤◌, Bool, not, cond, ◌&&◌, ◌||◌, List, [], ◌∷◌, ◌≡◌, leb, ltb, eqb, length, take, drop}
use Rattle.trees.specs.Rules.{max_type, max_value, max_children, label_bytes, max_nodes}
use Rattle.trees.specs.Rows.{Entry, node, tip}
use Rattle.tables.specs.declared.table.Table as code

-- a row as an entry: one that names children is an internal node, any other a leaf with its part of the area
abbrev pub entry_of : ℕ → ℕ → List ℕ → Entry
entry_of t zero v = tip t v
entry_of t (suc c) v = node (suc c)

-- the table's entries, while every column has a row
abbrev pub entries : List ℕ → List ℕ → List ℕ → List ℕ → List Entry
entries [] cs ls vs = []
entries (t ∷ ts) [] ls vs = []
entries (t ∷ ts) (c ∷ cs) [] vs = []
entries (t ∷ ts) (c ∷ cs) (l ∷ ls) vs = entry_of t c (take l vs) ∷ entries ts cs ls (drop l vs)

-- "An internal row has type 0, length 0 and a count of 1 to 32"
abbrev pub internal_row : ℕ → ℕ → ℕ → Bool
internal_row t c l = eqb t 0 && eqb l 0 && leb 1 c && leb c max_children

-- "a dangling row has type 0, count 0 and length 32"
abbrev pub dangling_row : ℕ → ℕ → ℕ → Bool
dangling_row t c l = eqb t 0 && eqb c 0 && eqb l label_bytes

-- "Any other leaf row has type 1 to 1,023, count 0 and length 0 to 511."
abbrev pub pair_row : ℕ → ℕ → ℕ → Bool
pair_row t c l = leb 1 t && leb t max_type && eqb c 0 && leb l max_value

-- a row of the form
unfoldable pub row_fits : ℕ → ℕ → ℕ → Bool
row_fits t c l = internal_row t c l || dangling_row t c l || pair_row t c l

-- the number of the first row that is not of the form, counted from i; the number of rows where all are
unfoldable pub first_bad : ℕ → List ℕ → List ℕ → List ℕ → ℕ
first_bad i [] cs ls = i
first_bad i (t ∷ ts) [] ls = i
first_bad i (t ∷ ts) (c ∷ cs) [] = i
first_bad i (t ∷ ts) (c ∷ cs) (l ∷ ls) = cond (row_fits t c l) (first_bad (i + 1) ts cs ls) i

-- "the sum of lengths"
unfoldable pub sum : List ℕ → ℕ
sum [] = 0
sum (l ∷ ls) = l + sum ls

-- the three columns and the area
pub record Table : Type 0 where
  pub types : List ℕ
  pub counts : List ℕ
  pub lengths : List ℕ
  pub values : List ℕ

abbrev pub table : List ℕ → List ℕ → List ℕ → List ℕ → Table
table ts cs ls vs = record { types = ts; counts = cs; lengths = ls; values = vs }

-- the code's table as the definitions see it
abbrev pub seen : code.Table → Table
seen t = table t.types.now t.counts.now t.lengths.now t.values.now

-- none of "columns unequal or over 1,023 rows"
unfoldable pub columns_fit : List ℕ → List ℕ → List ℕ → Bool
columns_fit ts cs ls = eqb (length cs) (length ts) && eqb (length ls) (length ts) && leb (length ts) max_nodes

-- "each row (16)": one is not of the form
abbrev pub row_bad : Table → Bool
row_bad t = ltb (first_bad 0 t.types t.counts t.lengths) (length t.types)

-- not "values area not the sum of lengths (16)"
abbrev pub area_fits : Table → Bool
area_fits t = eqb (length t.values) (sum t.lengths)

-- what number 16 would not refuse: the three tests that the packer makes in turn
unfoldable pub table_fits : Table → Bool
table_fits t = columns_fit t.types t.counts t.lengths && not (row_bad t) && area_fits t

-- columns of one length, of no more rows than a slip has: what `columnsFit` tests
pub record Columns (ts cs ls : List ℕ) : Type 0 where
  pub counts_long : length cs ≡ length ts
  pub lengths_long : length ls ≡ length ts
  pub few : length ts ≤ max_nodes

-- a table of the form: what `tableFits` tests
pub record Formed (t : Table) : Type 0 where
  pub columns : Columns t.types t.counts t.lengths
  pub rows : first_bad 0 t.types t.counts t.lengths ≡ length t.types
  pub area : length t.values ≡ sum t.lengths

-- a table of the form at the front of an area: the area may be longer than the sum of lengths
pub record FormedIn (types counts lengths values : List ℕ) : Type 0 where
  pub columns : Columns types counts lengths
  pub rows : first_bad 0 types counts lengths ≡ length types
  pub area : sum lengths ≤ length values
