-- Two tables end to end, and the plan of their join.
use Rattle.std.specs.Prelude.{◌≡◌, List, Result, Ok, Err, ◌++◌, ℕ, ◌-◌, ◌*◌, ◌≤◌, length, take, drop}
use Rattle.trees.specs.Nodes.{Node, size}
use Rattle.trees.specs.Rules.{label_bytes}
use Rattle.trees.specs.Join.{Joint, ok, clash, join}
use Rattle.trees.specs.Rows.{number}
use Rattle.tables.specs.Tables.{sum}
use Rattle.tables.specs.Records.{Holds}
use Rattle.join_rows.specs.declared.plan.Clash.{Clash}
use Rattle.lists.specs.Lists.{Names}
use Rattle.join_rows.specs.Faces.{no_face, faces}
use Rattle.columns.specs.declared.walkable.Columns.{Columns}
use Rattle.columns.specs.Columns.{SurveyGives}

-- the tables of two trees stand end to end in the columns, the second from row `first` on; its values follow the first's
pub record TwoTables (H : List ℕ → List ℕ) (a b : Node) (first : ℕ) (types counts lengths values labels : List ℕ) : Type 0 where
  pub one : Holds H a (take first types) (take first counts) (take first lengths) values labels
  pub two :
      Holds H b (drop first types) (drop first counts) (drop first lengths) (drop (sum (take first lengths)) values)
      (drop (label_bytes * first) labels)

-- what the plan is made from: columns that hold two trees, surveyed, and room for all their rows
pub record PlanAsks (first : ℕ) (c : Columns) (plan : List ℕ) : Type 0 where
  pub H : List ℕ → List ℕ
  pub a : Node
  pub b : Node
  pub two : TwoTables H a b first c.table.types.now c.table.counts.now c.table.lengths.now c.table.values.now c.labels.now
  pub surveyed : SurveyGives c.table.counts.now c.table.lengths.now c.starts.now c.offsets.now
  pub room : length c.table.types.now ≤ length plan

-- the answer by the join: a clash and its entry in each tree, or the join's rows, named by the plan's last cells
abbrev pub PlannedAs : (List ℕ → List ℕ) → Node → Node → List ℕ → Result ℕ Clash → Joint → Type 0
PlannedAs H a b plan (Ok n) (ok c) =
    (n ≡ size c) × Names no_face (faces H a ++ faces H b) (drop (length plan - n) plan) (faces H c)
PlannedAs H a b plan (Ok n) (clash p) = ⊥
PlannedAs H a b plan (Err k) (ok c) = ⊥
PlannedAs H a b plan (Err k) (clash p) = (k.first ≡ number a p) × (k.second ≡ number b p)

-- whatever label function and trees the columns hold
abbrev pub PlanGives : ℕ → Columns → List ℕ → Result ℕ Clash → Type 0
PlanGives first c plan r =
    (H : List ℕ → List ℕ) (a b : Node)
    → TwoTables H a b first c.table.types.now c.table.counts.now c.table.lengths.now c.table.values.now c.labels.now
    → PlannedAs H a b plan r (join H a b)
