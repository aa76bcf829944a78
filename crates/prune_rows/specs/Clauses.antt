-- What the pruner asks of a table and promises of the second one.
use Rattle.std.specs.Prelude.{ℕ, ◌+◌, ◌*◌, ◌≤◌, ◌≡◌, List, length, take}
use Rattle.trees.specs.Nodes.{Node}
use Rattle.trees.specs.Rules.{label_bytes}
use Rattle.trees.specs.Rows.{Entry, pruned_rows}
use Rattle.tables.specs.Tables.{entries, first_bad, sum}
use Rattle.tables.specs.PruningList.{named, first_fault}
use Rattle.tables.specs.Records.{Holds}

-- the first rows of the columns, with the first bytes of the area, are the entries es and have the form of rows
pub record Written (rows used : ℕ) (types counts lengths values : List ℕ) (es : List Entry) : Type 0 where
  pub types_room : rows ≤ length types
  pub counts_room : rows ≤ length counts
  pub lengths_room : rows ≤ length lengths
  pub values_room : used ≤ length values
  pub formed : first_bad 0 (take rows types) (take rows counts) (take rows lengths) ≡ rows
  pub sized : used ≡ sum (take rows lengths)
  pub are : entries (take rows types) (take rows counts) (take rows lengths) (take used values) ≡ es

-- a table that holds a tree, and a list without fault
pub record PruneAsks (types counts lengths values labels list : List ℕ) : Type 0 where
  pub H : List ℕ → List ℕ
  pub n : Node
  pub holds : Holds H n types counts lengths values labels
  pub clean : first_fault counts 0 0 list ≡ length list

-- the second table has room
pub record PickRoom (types lengths types2 counts2 lengths2 values2 : List ℕ) : Type 0 where
  pub types_room : length types ≤ length types2
  pub counts_room : length types ≤ length counts2
  pub lengths_room : length types ≤ length lengths2
  pub values_room : sum lengths + label_bytes * length types ≤ length values2

-- whatever tree the table holds, the second table is that of the pruned tree
pub record PruneGives (types counts lengths values labels list : List ℕ) (rows used : ℕ) (types2 counts2 lengths2 values2 : List ℕ) : Type 0 where
  pub some_row : 1 ≤ rows
  pub no_more : rows ≤ length types
  pub table :
      (H : List ℕ → List ℕ) (n : Node)
      → Holds H n types counts lengths values labels
      → Written rows used types2 counts2 lengths2 values2 (pruned_rows H (named list) 0 n)
