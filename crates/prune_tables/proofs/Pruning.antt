-- A table marked and picked is the pruned tree's.
use mathlib.Core.Path.{subst}
use mathlib.Core.List.{List}
use Prim.Native.Nat.{ℕ, ◌≤◌}
use native.Mathlib.Omega.{arith}
use Rattle.trees.specs.Nodes.{Node}
use Rattle.trees.specs.Rows.{pruned_rows}
use Rattle.tables.specs.PruningList.{named}
use Rattle.tables.specs.Records.{Holds}
use Rattle.sha256.specs.Sha256 as Sha256
use Rattle.prune_rows.specs.Clauses.{Written, PruneAsks, PruneGives}
use Rattle.prune_rows.specs.declared.marks.Mark.{Mark}
use Rattle.prune_rows.specs.Steps.{PickAsks, PickGives}
use Rattle.prune_rows.specs.PrunedLaws.{Marked, marked_inner, picked_table, pruned_some, written_rows}
use Rattle.prune_tables.specs.Clauses.{CleanAsks}

-- a table that holds a tree, and a list without fault
pub able : {types counts lengths values labels list : List ℕ} → CleanAsks types counts lengths values labels list
    → PruneAsks types counts lengths values labels list
able p = record { H = Sha256.label; n = p.asks.n; holds = p.asks.holds; clean = p.clean }

module _ {types counts lengths values labels list : List ℕ} {marks : List Mark} (x : PruneAsks types counts lengths values labels list)
    (marked : Marked list counts marks) where
  pub pickable : PickAsks types counts lengths values labels marks
  pickable =
      let h = x.holds in
      record {
        form = h.table.form;
        labels_room = h.labels_room;
        cuts = λ k l. marked_inner list counts marks x.clean marked k (omega (arith, h.table.form.columns.counts_long));
      }

  pub prunes :
      {rows used : ℕ} {ts cs ls vs : List ℕ}
      → PickGives types counts lengths values labels marks rows used ts cs ls vs
      → PruneGives types counts lengths values labels list rows used ts cs ls vs
  prunes {rows} {used} {ts} {cs} {ls} {vs} p = record { some_row = some; no_more = p.no_more; table = table }
    where
      table : (H : List ℕ → List ℕ) (n : Node) → Holds H n types counts lengths values labels
          → Written rows used ts cs ls vs (pruned_rows H (named list) 0 n)
      table H n h = subst (Written rows used ts cs ls vs) (picked_table H n types counts lengths values labels list marks h marked) p.table

      some : 1 ≤ rows
      some =
          let w : Written rows used ts cs ls vs (pruned_rows x.H (named list) 0 x.n) = table x.H x.n x.holds in
          omega (
            arith,
            written_rows rows used ts cs ls vs (pruned_rows x.H (named list) 0 x.n) w,
            pruned_some x.H list x.n,
          )
