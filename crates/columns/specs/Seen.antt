-- What the code's columns show of a row.
use Rattle.std.specs.Prelude.{ℕ, List}
use Rattle.trees.specs.Nodes.{Head}
use Rattle.columns.specs.declared.walkable.Columns.{Columns}
use Rattle.columns.specs.Columns.{text_at, head_at}

abbrev pub text_of : Columns → ℕ → List ℕ
text_of c = text_at c.table.counts.now c.table.lengths.now c.table.values.now c.labels.now c.offsets.now

abbrev pub head_of : Columns → ℕ → Head
head_of c = head_at c.table.types.now c.table.counts.now c.table.lengths.now c.table.values.now c.labels.now c.offsets.now
