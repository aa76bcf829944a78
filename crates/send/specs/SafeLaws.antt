-- Why the walk of a tree's table is safe: the children of each row wait, and its cells keep the limits.
use Rattle.std.specs.Prelude.{ℕ, zero, suc, ◌+◌, ◌-◌, ◌≤◌, ◌<◌, ◌≡◌, refl, List, [], ◌∷◌, ◌++◌, map, length, take, drop, get_or}
use Rattle.std.proofs.Common.{sym, ap, ap₂, ◌∙◌, subst, append_assoc, append-nil, arith, length-take-le}
use Rattle.trees.specs.Nodes.{Node, Run, inner, leaf, nil, cons, count}
use Rattle.trees.specs.Rules.{max_value, max_children}
use Rattle.trees.specs.Rows.{Entry, node, tip, rows, rows_in}
use Rattle.tables.specs.Tables.{entries, entry_of, sum, table, Formed}
use Rattle.tables.specs.TablesLaws.{formed_row}
use Rattle.tables.specs.Records.{TreeTable}
use Rattle.codec.specs.TableLaws.{row_small}
use Rattle.send.specs.Blocks.{Enough}

-- how many children an entry names
abbrev count_of : Entry → ℕ
count_of (node k) = k
count_of (tip t v) = 0

count_entry : (t c : ℕ) (v : List ℕ) → count_of (entry_of t c v) ≡ c
count_entry t zero v = refl
count_entry t (suc c) v = refl

-- a table's counts are its entries'
counts_named : (ts cs ls vs : List ℕ) → length cs ≡ length ts → length ls ≡ length ts → map count_of (entries ts cs ls vs) ≡ cs
counts_named [] [] ls vs p q = refl
counts_named [] (c ∷ cs) ls vs p q = absurd (omega arith)
counts_named (t ∷ ts) [] ls vs p q = absurd (omega arith)
counts_named (t ∷ ts) (c ∷ cs) [] vs p q = absurd (omega arith)
counts_named (t ∷ ts) (c ∷ cs) (l ∷ ls) vs p q =
    ap₂ (λ (x : ℕ) (xs : List ℕ). x ∷ xs) (count_entry t c (take l vs)) (counts_named ts cs ls (drop l vs) (omega arith) (omega arith))

-- the same, where the number of pieces is written otherwise
enough_at : (cs : List ℕ) (d e : ℕ) → d ≡ e → Enough cs d → Enough cs e
enough_at cs d e p = subst (Enough cs) p

-- the rows of a tree leave one piece more, and of a run one for each child
mutual
  enough_rows : (n : Node) (es : List Entry) (d : ℕ) → Enough (map count_of es) (d + 1) → Enough (map count_of (rows n ++ es)) d
  enough_rows (inner r) es d p =
      rw (append_assoc (rows_in r) (node (count r) ∷ []) es)
      (enough_rows_in r (node (count r) ∷ es) d (omega arith, enough_at (map count_of es) (d + 1) (d + count r - count r + 1) (omega arith) p))
  enough_rows (leaf t v) es d p = (omega arith, enough_at (map count_of es) (d + 1) (d - 0 + 1) (omega arith) p)

  enough_rows_in : (r : Run) (es : List Entry) (d : ℕ) → Enough (map count_of es) (d + count r) → Enough (map count_of (rows_in r ++ es)) d
  enough_rows_in nil es d p = enough_at (map count_of es) (d + 0) d (omega arith) p
  enough_rows_in (cons n r) es d p =
      rw (append_assoc (rows n) (rows_in r) es)
      (enough_rows n (rows_in r ++ es) d
      (enough_rows_in r es (d + 1) (enough_at (map count_of es) (d + suc (count r)) (d + 1 + count r) (omega arith) p)))

-- no row of a tree's table names more children than wait
pub enough_tree : (n : Node) (ts cs ls vs : List ℕ) → TreeTable n ts cs ls vs → Enough cs 0
enough_tree n ts cs ls vs t =
    subst (λ (l : List ℕ). Enough l 0)
    (ap (map count_of) (append-nil (rows n) ∙ sym t.rows_are) ∙ counts_named ts cs ls vs t.form.columns.counts_long t.form.columns.lengths_long)
    (enough_rows n [] 0 tt)

-- each row of a tree's table keeps them
pub table_low :
    (n : Node) (ts cs ls vs : List ℕ)
    → TreeTable n ts cs ls vs
    → (i : ℕ)
    → i < length ts
    → (get_or cs i 0 ≤ max_children) × (get_or ls i 0 ≤ max_value)
table_low n ts cs ls vs t i h =
    let f : Formed (table ts cs ls (take (sum ls) vs)) = record {
      columns = t.form.columns;
      rows = t.form.rows;
      area = length-take-le (sum ls) vs t.form.area;
    } in
    let low = row_small (get_or ts i 0) (get_or cs i 0) (get_or ls i 0) (formed_row (table ts cs ls (take (sum ls) vs)) f i h) in
    (low.count, low.length)
