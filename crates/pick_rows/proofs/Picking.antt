-- The rows picked, one turn at a time.
use Prim.Native.Nat.{ℕ, ◌+◌, ◌-◌, ◌*◌, ◌≤◌, ◌<◌}
use mathlib.Core.Path.{◌≡◌, refl, sym, ap, ◌∙◌, subst}
use mathlib.Core.List.{List, [], ◌∷◌, ◌++◌, map, append_assoc, append-nil}
use native.Mathlib.Numerals.{add-one}
use native.Mathlib.Omega.{arith}
use Rattle.std.proofs.lemmas.List.{get_or-map, length-map}
use lib.ListN.{length, take, drop, get_or, length-drop, drop_of_length-le, take-append-drop}
use lib.Seq.{take-suc, length-take-le}
use Rattle.trees.specs.Rules.{label_bytes}
use Rattle.trees.specs.Rows.{Entry, tip}
use Rattle.tables.specs.Tables.{entry_of, entries, sum}
use Rattle.tables.specs.TablesLaws.{sum_append, length_entries}
use Rattle.prune_rows.specs.declared.marks.Mark.{Mark}
use Rattle.prune_rows.specs.Marks.{gone}
use Rattle.prune_rows.specs.Picked.{picked, row_by, label_rows}
use Rattle.prune_rows.specs.PickedLaws.{picked_step, picked_none, length_label_rows, label_rows_at}
use Rattle.prune_rows.specs.TableLaws.{entries_at, row_fits_lem}
use Rattle.prune_rows.specs.Clauses.{Written}
use Rattle.prune_rows.specs.Steps.{PutAsks, TurnGives, PickAsks, PickGives}
use Rattle.pick_rows.proofs.Putting.{written_none}

-- the lengths up to row i, and one more
pub sum_front : (ls : List ℕ) (i : ℕ) → i < length ls → sum (take (i + 1) ls) ≡ sum (take i ls) + get_or ls i 0
unfolding sum
sum_front ls i h =
    ap sum (ap (λ (k : ℕ). take k ls) (add-one i) ∙ take-suc ls i 0 h)
    ∙ sum_append (take i ls) (get_or ls i 0 ∷ [])
    ∙ omega arith

pub sum_within : (ls : List ℕ) (i : ℕ) → sum (take i ls) ≤ sum ls
sum_within ls i = omega (arith, sum_append (take i ls) (drop i ls), ap sum (take-append-drop i ls))

-- the part of the area that a row's label has, as the code cuts it out
pub label_part : (labels : List ℕ) (i : ℕ)
    → take (label_bytes * i + label_bytes - label_bytes * i) (drop (label_bytes * i) labels) ≡ take label_bytes (drop (label_bytes * i) labels)
label_part labels i =
    let e : label_bytes * i + label_bytes - label_bytes * i ≡ label_bytes = omega arith in
    ap (λ (k : ℕ). take k (drop (label_bytes * i) labels)) e

-- so for its value
pub value_part : (values : List ℕ) (at l k : ℕ) → l ≡ k → take (at + l - at) (drop at values) ≡ take k (drop at values)
value_part values at l k e =
    let f : at + l - at ≡ k = omega arith in
    ap (λ (j : ℕ). take j (drop at values)) f

-- a row's mark, as it is read
pub mark_held : {M : Type 0} (read : M → Mark) (marks : List M) {i : ℕ} {x : M} {m : Mark} → i < length (map read marks) → x ≡ get_or marks i x → m ≡ read x
    → get_or (map read marks) i gone ≡ m
mark_held read marks {i} {x} {m} h e r =
    get_or-map read marks i x gone (omega (arith, length-map marks read)) ∙ sym (r ∙ ap read e)

-- the rows before row i are picked: what they gave, and what the others will give
pub record Going (lengths : List ℕ) (es : List Entry) (xs : List (List ℕ)) (marks : List Mark) (i at rows used : ℕ) (ts cs ls vs : List ℕ) : Type 0 where
  pub at_is : at ≡ sum (take i lengths)
  pub rows_low : rows ≤ i
  pub used_low : used ≤ at + label_bytes * i
  pub so_far : List Entry
  pub written : Written rows used ts cs ls vs so_far
  pub left :
      picked row_by marks es xs
      ≡ so_far ++ picked row_by (drop i marks) (drop i es) (drop i xs)

module _ {types counts lengths values labels : List ℕ} {marks : List Mark} (ready : PickAsks types counts lengths values labels marks) where
  abbrev es : List Entry
  es = entries types counts lengths values

  abbrev xs : List (List ℕ)
  xs = label_rows (length types) labels

  pub going_none : (ts cs ls vs : List ℕ) → Going lengths es xs marks 0 0 0 0 ts cs ls vs
  unfolding sum
  going_none ts cs ls vs =
      record {
        at_is = refl;
        rows_low = omega arith;
        used_low = omega arith;
        so_far = [];
        written = written_none ts cs ls vs;
        left = refl;
      }

  module _ {i at rows used : ℕ} {ts cs ls vs : List ℕ} (g : Going lengths es xs marks i at rows used ts cs ls vs)
      (here : i < length types) (marked : i < length marks) where
    l_here : i < length lengths
    l_here = omega (arith, ready.form.columns.lengths_long)

    -- the row's part of the area
    pub value_in : at + get_or lengths i 0 ≤ length values
    value_in = omega (arith, g.at_is, sum_front lengths i l_here, sum_within lengths (i + 1), ready.form.area)

    -- the second area has room for it and for a label
    pub value_room : (k : ℕ) → sum lengths + label_bytes * length types ≤ k → used + get_or lengths i 0 + label_bytes ≤ k
    value_room k room = omega (arith, g.used_low, g.at_is, sum_front lengths i l_here, sum_within lengths (i + 1))

    -- what the row's turn asks
    pub going_puts :
        (v : List ℕ)
        → v ≡ take (get_or lengths i 0) (drop at values)
        → length types ≤ length ts
        → length types ≤ length cs
        → length types ≤ length ls
        → sum lengths + label_bytes * length types ≤ length vs
        → PutAsks (get_or types i 0) (get_or counts i 0) (get_or lengths i 0) rows used v ts cs ls vs
    going_puts v v-is p q r room =
        record {
          types_room = omega (arith, g.rows_low);
          counts_room = omega (arith, g.rows_low);
          lengths_room = omega (arith, g.rows_low);
          values_room = omega (arith, value_room (length vs) room);
          long = ap length v-is ∙ length-take-le (get_or lengths i 0) (drop at values) (omega (arith, value_in, length-drop at values));
          fits = row_fits_lem types counts lengths 0 i ready.form.columns.counts_long ready.form.columns.lengths_long (ready.form.rows ∙ omega arith) here;
        }

    module _ (v label : List ℕ) (v-is : v ≡ take (get_or lengths i 0) (drop at values)) (Label-is : label ≡ take label_bytes (drop (label_bytes * i) labels)) where
      entry_is : get_or es i (tip 0 []) ≡ entry_of (get_or types i 0) (get_or counts i 0) v
      entry_is =
          entries_at types counts lengths values i (tip 0 []) ready.form.columns.counts_long ready.form.columns.lengths_long here
          ∙ ap (λ (k : ℕ). entry_of (get_or types i 0) (get_or counts i 0) (take (get_or lengths i 0) (drop k values))) (sym g.at_is)
          ∙ ap (entry_of (get_or types i 0) (get_or counts i 0)) (sym v-is)

      label_at : get_or xs i [] ≡ label
      label_at = label_rows_at (length types) labels i here ∙ sym Label-is

      e_here : i < length es
      e_here = omega (arith, length_entries types counts lengths values ready.form.columns.counts_long ready.form.columns.lengths_long)

      pub going_more :
          {m : Mark} {next rows' used' : ℕ} {ts' cs' ls' vs' : List ℕ}
          → get_or marks i gone ≡ m
          → next ≡ at + get_or lengths i 0
          → TurnGives m (get_or lengths i 0) (entry_of (get_or types i 0) (get_or counts i 0) v) label rows used ts cs ls vs
          rows' used' ts' cs' ls' vs'
          → Going lengths es xs marks (i + 1) next rows' used' ts' cs' ls' vs'
      going_more {m} q n turn =
          let e : Entry = entry_of (get_or types i 0) (get_or counts i 0) v in
          let l_rows : i < length xs = omega (arith, length_label_rows (length types) labels) in
          record {
            at_is = omega (arith, g.at_is, sum_front lengths i l_here);
            rows_low = omega (arith, g.rows_low, turn.row);
            used_low = omega (arith, g.used_low, turn.bytes);
            so_far = g.so_far ++ row_by m e label;
            written = turn.adds g.so_far g.written;
            left =
                g.left
                ∙ ap (λ (x : List Entry). g.so_far ++ x)
                (picked_step row_by (tip 0 []) [] marks es xs i marked e_here l_rows
                ∙ (λ k. row_by (q k) (entry_is k) (label_at k) ++ picked row_by (drop (i + 1) marks) (drop (i + 1) es) (drop (i + 1) xs)))
                ∙ sym (append_assoc g.so_far (row_by m e label) (picked row_by (drop (i + 1) marks) (drop (i + 1) es) (drop (i + 1) xs)));
          }

  pub going_all :
      {i at rows used : ℕ} {ts cs ls vs : List ℕ}
      → length types ≤ i
      → i ≤ length types
      → Going lengths es xs marks i at rows used ts cs ls vs
      → PickGives types counts lengths values labels marks rows used ts cs ls vs
  going_all {i} {rows = rows} {used} {ts} {cs} {ls} {vs} h k g =
      let past : drop i es ≡ [] =
      drop_of_length-le es {i = i} (omega (arith, length_entries types counts lengths values ready.form.columns.counts_long ready.form.columns.lengths_long)) in
      record {
        no_more = omega (arith, g.rows_low);
        table = subst (Written rows used ts cs ls vs) (sym (g.left ∙ ap (λ (x : List Entry). g.so_far ++ picked row_by (drop i marks) x (drop i xs)) past
            ∙ ap (λ (x : List Entry). g.so_far ++ x) (picked_none row_by (drop i marks) (drop i xs)) ∙ append-nil g.so_far)) g.written;
      }
