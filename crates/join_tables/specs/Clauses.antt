-- What the parts of the join of two tables ask and give.
use Rattle.std.specs.Prelude.{ℕ, ◌*◌, ◌≤◌, cond, List, map, ◌≡◌, ltb, length}
use Rattle.trees.specs.Nodes.{Node, label}
use Rattle.trees.specs.Rules.{max_bytes}
use Rattle.trees.specs.Join.{Alike, join}
use Rattle.trees.specs.Rows.{rows}
use Rattle.tables.specs.Records.{TreeTable}
use Rattle.outcomes.specs.Refusals.{join_too_large}
use Rattle.tables.specs.declared.table.Table as code
use Rattle.tables.specs.Tables.{sum}
use Rattle.codec.specs.Writing.{slip_of}
use Rattle.sha256.specs.Sha256 as Sha256
use Rattle.join_rows.specs.Plans.{TwoTables}
use Rattle.columns.specs.Gathers.{cell_of, values_of, Gatherable}
use Rattle.answers.specs.declared.Answer.{Answer}
use Rattle.answers.specs.Answers.{refused}
use Rattle.outcomes.specs.Outcome.{Output, Leaves, still}
use Rattle.send.specs.Sent.{sent_tree}
use Rattle.join_tables.specs.Joined.{joined_of}

-- "15, 11", of a tree of no more nodes than a slip has
unfoldable pub fitted : (List ℕ → List ℕ) → Node → List ℕ → Output Answer
fitted H n out = cond (ltb max_bytes (length (slip_of (rows n)))) (still (refused join_too_large 0) out) (sent_tree H n out)

-- whatever tree with this root label has the table, it is handed out where it fits
abbrev pub DeliverGives : List ℕ → List ℕ → List ℕ → List ℕ → List ℕ → List ℕ → Answer → List ℕ → Type 0
DeliverGives types counts lengths values l out r left =
    (n : Node) → TreeTable n types counts lengths values → l ≡ label Sha256.label n → Leaves (fitted Sha256.label n out) r left

-- the table that a plan names is that of a tree, and no larger than both tables
pub record HandOutAsks (plan : List ℕ) (t : code.Table) (offsets : List ℕ) : Type 0 where
  pub plan_is : Gatherable plan t.types.now t.counts.now t.lengths.now t.values.now offsets
  pub sized : sum (map (cell_of t.lengths.now) plan) ≤ length t.values.now
  pub most : length t.values.now ≤ 2 * max_bytes
  pub tree : Node
  pub table : TreeTable tree (map (cell_of t.types.now) plan) (map (cell_of t.counts.now) plan) (map (cell_of t.lengths.now) plan) (values_of plan t.lengths.now t.values.now offsets)

abbrev pub HandOutGives : List ℕ → code.Table → List ℕ → List ℕ → List ℕ → Answer → List ℕ → Type 0
HandOutGives plan t offsets =
    DeliverGives (map (cell_of t.types.now) plan) (map (cell_of t.counts.now) plan) (map (cell_of t.lengths.now) plan) (values_of plan t.lengths.now t.values.now offsets)

-- columns that hold two trees
pub record MergeAsks (first : ℕ) (t : code.Table) (labels : List ℕ) : Type 0 where
  pub a : Node
  pub b : Node
  pub two : TwoTables Sha256.label a b first t.types.now t.counts.now t.lengths.now t.values.now labels
  pub most : length t.values.now ≤ 2 * max_bytes

-- whatever trees with one root label the columns hold, the outcome is that of their join
abbrev pub MergeGives : ℕ → List ℕ → code.Table → List ℕ → List ℕ → Answer → List ℕ → Type 0
MergeGives first root t labels out r left =
    (a b : Node)
    → TwoTables Sha256.label a b first t.types.now t.counts.now t.lengths.now t.values.now labels
    → Alike Sha256.label a b
    → label Sha256.label a ≡ root
    → Leaves (joined_of Sha256.label a b out (join Sha256.label a b)) r left
