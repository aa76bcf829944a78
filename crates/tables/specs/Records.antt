-- A table that holds a tree, with the label of each internal row beside it.
use Rattle.std.specs.Prelude.{ℕ, ◌*◌, ◌≤◌, ◌<◌, List, [], ◌≡◌, length, take, drop, get_or}
use Rattle.trees.specs.Nodes.{Node}
use Rattle.trees.specs.Rules.{label_bytes}
use Rattle.trees.specs.Rows.{rows}
use Rattle.trees.specs.RowLabels.{labels_of}
use Rattle.tables.specs.Tables.{FormedIn, entries}

-- the table has the rows of the tree n
pub record TreeTable (n : Node) (types counts lengths values : List ℕ) : Type 0 where
  pub form : FormedIn types counts lengths values
  pub rows_are : entries types counts lengths values ≡ rows n

-- and the area of labels has those of its internal rows
pub record Holds (H : List ℕ → List ℕ) (n : Node) (types counts lengths values labels : List ℕ) : Type 0 where
  pub table : TreeTable n types counts lengths values
  pub labels_room : label_bytes * length types ≤ length labels
  pub labels_are :
      (k : ℕ)
      → k < length types
      → 0 < get_or counts k 0
      → take label_bytes (drop (label_bytes * k) labels) ≡ get_or (labels_of H n) k []
