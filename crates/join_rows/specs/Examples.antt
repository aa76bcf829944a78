-- Document 01's clash case as two tables end to end: what the plan asks can be met.
use Rattle.std.specs.Prelude.{◌≡◌, refl, List, [], ◌∷◌, ◌++◌, ℕ, zero, suc, ◌*◌, ◌≤◌, ◌<◌, length, take, drop, get_or, replicate}
use Rattle.std.proofs.Common.{arith}
use Rattle.trees.specs.Nodes.{Node, leaf}
use Rattle.trees.specs.Rules.{label_bytes}
use Rattle.trees.specs.RowLabels.{labels_of}
use Rattle.trees.specs.Join.{clash, join}
use Rattle.trees.specs.Rows.{rows}
use Rattle.trees.specs.Examples.{length_label, salted_root}
use Rattle.tables.specs.Tables.{entries, row_fits, first_bad, sum}
use Rattle.tables.specs.Records.{Holds}
use Rattle.columns.specs.Columns.{back}
use Rattle.join_rows.specs.Plans.{TwoTables}

-- "two roots, each a salt of 32 bytes and one raw value of type 600 (00 and 01)"
abbrev tree : ℕ → Node
tree v = salted_root (leaf 600 (v ∷ []))

abbrev types : List ℕ
types = 1 ∷ 600 ∷ 0 ∷ 1 ∷ 600 ∷ 0 ∷ []

abbrev counts : List ℕ
counts = 0 ∷ 0 ∷ 2 ∷ 0 ∷ 0 ∷ 2 ∷ []

abbrev lengths : List ℕ
lengths = 32 ∷ 1 ∷ 0 ∷ 32 ∷ 1 ∷ 0 ∷ []

abbrev values : List ℕ
values = replicate 32 0 ++ (0 ∷ replicate 32 0) ++ (1 ∷ [])

-- both prelabels have 41 bytes
abbrev labels : List ℕ
labels = replicate 192 41

-- the table of either tree, wherever its values and labels stand
held : (v : ℕ) (vs ls : List ℕ) → entries (1 ∷ 600 ∷ 0 ∷ []) (0 ∷ 0 ∷ 2 ∷ []) (32 ∷ 1 ∷ 0 ∷ []) vs ≡ rows (tree v) → 33 ≤ length vs
    → 96 ≤ length ls → take label_bytes (drop (label_bytes * 2) ls) ≡ replicate 32 41
    → Holds length_label (tree v) (1 ∷ 600 ∷ 0 ∷ []) (0 ∷ 0 ∷ 2 ∷ []) (32 ∷ 1 ∷ 0 ∷ []) vs ls
unfolding row_fits first_bad sum
held v vs ls e h k l =
    record {
      table =
          record {
            form = record { columns = record { counts_long = refl; lengths_long = refl; few = omega arith }; rows = refl; area = h };
            rows_are = e;
          };
      labels_room = k;
      labels_are = labelled;
    }
  where
    labelled : (k : ℕ) → k < 3 → 0 < get_or (0 ∷ 0 ∷ 2 ∷ []) k 0 → take label_bytes (drop (label_bytes * k) ls) ≡ get_or (labels_of length_label (tree v)) k []
    labelled zero h p = absurd (omega arith)
    labelled (suc zero) h p = absurd (omega arith)
    labelled (suc (suc zero)) h p = l
    labelled (suc (suc (suc k))) h p = absurd (omega arith)

-- both tables end to end
pub example_two : TwoTables length_label (tree 0) (tree 1) 3 types counts lengths values labels
unfolding sum
example_two =
    record {
      one = held 0 values labels refl (omega arith) (omega arith) refl;
      two = held 1 (drop 33 values) (drop 96 labels) refl (omega arith) (omega arith) refl;
    }

-- their join clashes at the roots, rows 2 and 5
pub example_clash : join length_label (tree 0) (tree 1) ≡ clash []
example_clash = refl

-- two subtrees before row 5 start at row 3
pub example_back : back (0 ∷ 1 ∷ 0 ∷ 3 ∷ 4 ∷ 3 ∷ []) 2 5 ≡ 3
unfolding back
example_back = refl
