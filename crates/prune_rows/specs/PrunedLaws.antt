-- Pruning a table that holds a tree gives the pruned tree's rows and labels.
use Rattle.std.specs.Prelude.{ℕ, zero, suc, ◌+◌, ◌≤◌, ◌<◌, ◌≡◌, refl, List, [], map, length, take, drop, get_or}
use Rattle.std.proofs.Common.{sym, ap, ◌∙◌, append-nil, zero-add, arith, get_or-take, length-take-le}
use Rattle.trees.specs.Nodes.{Node, size}
use Rattle.trees.proofs.NodesLaws.{some_size}
use Rattle.trees.specs.Places.{cut}
use Rattle.trees.specs.Rows.{Entry, node, tip, rows, number, pruned_rows}
use Rattle.trees.specs.RowsLaws.{length_rows}
use Rattle.trees.specs.NumbersLaws.{rows_cut}
use Rattle.trees.specs.RowLabels.{labels_of}
use Rattle.trees.specs.RowLabelsLaws.{length_labels}
use Rattle.tables.specs.Tables.{entry_of, entries, sum}
use Rattle.tables.specs.TablesLaws.{length_entries}
use Rattle.tables.specs.PruningList.{named, first_fault, pruned}
use Rattle.tables.specs.Records.{Holds}
use Rattle.tables.specs.Cells.{count_cell}
use Rattle.prune_rows.specs.declared.marks.Mark.{Mark}
use Rattle.prune_rows.specs.declared.marks.Mark.TheVariants.{Gone, Kept, CutOff}
use Rattle.prune_rows.specs.Marks.{gone, cut_off, Walk, at_end, walk, marks_of}
use Rattle.prune_rows.specs.Picked.{picked, row_by, label_rows}
use Rattle.prune_rows.specs.Clauses.{Written}
use Rattle.prune_rows.specs.MarksLaws.{walk_marks, cut_off_named}
use Rattle.prune_rows.specs.PickedLaws.{picked_take, picked_agree, length_label_rows, label_rows_at}
use Rattle.prune_rows.specs.PickedTrees.{picked_rows}
use Rattle.prune_rows.specs.TableLaws.{entries_counts, entries_at}
use Rattle.tables.proofs.ListRule.{named_inner}

-- a row looks at its label only where it has children
same_row : (m : Mark) (t c : ℕ) (v x y : List ℕ) → (0 < c → x ≡ y) → row_by m (entry_of t c v) x ≡ row_by m (entry_of t c v) y
same_row m t (suc c) v x y e = ap (row_by m (node (suc c))) (e (omega arith))
same_row Gone t zero v x y e = refl
same_row Kept t zero v x y e = refl
same_row CutOff t zero v x y e = refl

module _ (H : List ℕ → List ℕ) (list : List ℕ) (n : Node) where
  from_zero : cut H (λ p. named list (0 + number n p)) n ≡ pruned H list n
  from_zero = λ k. cut H (λ p. named list (zero-add (number n p) k)) n

  -- the rows of the pruned tree
  pub rows_pruned : rows (pruned H list n) ≡ pruned_rows H (named list) 0 n
  rows_pruned = ap rows (sym from_zero) ∙ rows_cut H (named list) 0 n

  -- pruning leaves the root at least
  pub pruned_some : 1 ≤ length (pruned_rows H (named list) 0 n)
  pruned_some = omega (arith, ap length rows_pruned, length_rows (pruned H list n), some_size (pruned H list n))

-- what is written has one row an entry
pub written_rows : (rows used : ℕ) (ts cs ls vs : List ℕ) (es : List Entry) → Written rows used ts cs ls vs es → rows ≡ length es
written_rows rows used ts cs ls vs es w =
    let t : length (take rows ts) ≡ rows = length-take-le rows ts w.types_room in
    let c : length (take rows cs) ≡ length (take rows ts) = length-take-le rows cs w.counts_room ∙ sym t in
    let l : length (take rows ls) ≡ length (take rows ts) = length-take-le rows ls w.lengths_room ∙ sym t in
    sym t ∙ sym (length_entries (take rows ts) (take rows cs) (take rows ls) (take used vs) c l) ∙ ap length w.are

-- the area has the marks that the list gives the table's rows
abbrev pub Marked : List ℕ → List ℕ → List Mark → Type 0
Marked list counts marks = take (length counts) marks ≡ (walk (named list) counts 0 at_end).marks

-- then only internal rows are cut off
pub marked_inner :
    (list counts : List ℕ) (marks : List Mark)
    → first_fault counts 0 0 list ≡ length list
    → Marked list counts marks
    → (k : ℕ)
    → k < length counts
    → get_or marks k gone ≡ cut_off
    → 0 < get_or counts k 0
marked_inner list counts marks clean marked k h cut =
    let is : get_or marks k gone ≡ get_or (walk (named list) counts 0 at_end).marks k gone =
    sym (get_or-take (length counts) marks k gone h) ∙ ap (λ (x : List Mark). get_or x k gone) marked in
    named_inner counts list k clean
    (ap (named list) (sym (zero-add k)) ∙ cut_off_named (named list) counts 0 at_end k h (sym is ∙ cut))

module _ (H : List ℕ → List ℕ) (n : Node) (types counts lengths values labels list : List ℕ) (marks : List Mark)
    (holds : Holds H n types counts lengths values labels) (marked : Marked list counts marks) where
  abbrev es : List Entry
  es = entries types counts lengths values

  entries_long : length es ≡ length types
  entries_long = length_entries types counts lengths values holds.table.form.columns.counts_long holds.table.form.columns.lengths_long

  size_is : size n ≡ length types
  size_is = sym (length_rows n) ∙ ap length (sym holds.table.rows_are) ∙ entries_long

  marks_are : take (length es) marks ≡ marks_of (named list) 0 n
  marks_are =
      ap (λ (k : ℕ). take k marks) (entries_long ∙ sym holds.table.form.columns.counts_long)
      ∙ marked
      ∙ ap (λ (cs : List ℕ). (walk (named list) cs 0 at_end).marks)
      (sym (entries_counts types counts lengths values holds.table.form.columns.counts_long holds.table.form.columns.lengths_long) ∙ ap (map count_cell) holds.table.rows_are)
      ∙ ap (λ (w : Walk). w.marks) (walk_marks (named list) n 0 [])
      ∙ append-nil (marks_of (named list) 0 n)

  -- the marks pick the pruned tree's rows
  pub picked_table : picked row_by marks es (label_rows (length types) labels) ≡ pruned_rows H (named list) 0 n
  picked_table =
      sym (picked_take row_by marks es (label_rows (length types) labels))
      ∙ ap (λ (ms : List Mark). picked row_by ms es (label_rows (length types) labels)) marks_are
      ∙ picked_agree row_by [] (tip 0 []) (marks_of (named list) 0 n) es (label_rows (length types) labels) (labels_of H n)
      (omega (arith, entries_long, length_label_rows (length types) labels)) (omega (arith, entries_long, size_is, length_labels H n)) agree
      ∙ ap (λ (l : List Entry). picked row_by (marks_of (named list) 0 n) l (labels_of H n)) holds.table.rows_are
      ∙ picked_rows H (named list) 0 n
    where
      agree : (k : ℕ) → k < length es → (m : Mark)
          → row_by m (get_or es k (tip 0 [])) (get_or (label_rows (length types) labels) k [])
          ≡ row_by m (get_or es k (tip 0 [])) (get_or (labels_of H n) k [])
      agree k h m =
          let in_table : k < length types = omega (arith, entries_long) in
          rw (entries_at types counts lengths values k (tip 0 []) holds.table.form.columns.counts_long holds.table.form.columns.lengths_long in_table)
          (same_row m (get_or types k 0) (get_or counts k 0) (take (get_or lengths k 0) (drop (sum (take k lengths)) values))
          (get_or (label_rows (length types) labels) k []) (get_or (labels_of H n) k [])
          (λ c. label_rows_at (length types) labels k in_table ∙ holds.labels_are k in_table c))
