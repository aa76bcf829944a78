-- What the engine is lent, and what it answers.
use Rattle.std.specs.Prelude.{ℕ, ◌+◌, ◌*◌, ◌≤◌, ◌≡◌, List, length, Result}
use Rattle.trees.specs.Nodes.{head_bytes}
use Rattle.trees.specs.Rules.{max_bytes, label_bytes}
use Rattle.trees.specs.Rows.{verdict}
use Rattle.outcomes.specs.declared.numbers.Refused.{Refused}
use Rattle.tables.specs.Tables.{Table, FormedIn, entries, sum}
use Rattle.sha256.specs.Sha256 as Sha256
use Rattle.titles.specs.Compose.{composed_text}
use Rattle.engine.specs.declared.judge.Judged.{Judged}
use Rattle.engine.specs.Engine.{told, judged_seen, RowsLabelled}

-- A table of the form with no more values than a slip has bytes, and room for a label a row.
pub record JudgeAsks (t : Table) (labels : List ℕ) : Type 0 where
  pub form : FormedIn t.types t.counts t.lengths t.values
  pub short : sum t.lengths ≤ max_bytes
  pub labels_room : label_bytes * length t.types ≤ length labels

-- One for whose rows and values a stack has room. Four bytes a row and the values are enough: children that keep the salt rule have at
-- least a label's bytes.
pub record JudgeSizedAsks (t : Table) (labels : List ℕ) (nodes work : ℕ) : Type 0 where
  pub given : JudgeAsks t labels
  pub rows_fit : length t.types ≤ nodes
  pub work_fits : head_bytes * length t.types + sum t.lengths ≤ work

-- The verdict on the table's entries, and at each internal node's row its label.
pub record JudgeGives (t : Table) (r : Result Judged Refused) (labels : List ℕ) : Type 0 where
  pub answer : judged_seen r ≡ told (verdict Sha256.label composed_text (entries t.types t.counts t.lengths t.values))
  pub labelled : RowsLabelled Sha256.label composed_text (entries t.types t.counts t.lengths t.values) t.counts labels
