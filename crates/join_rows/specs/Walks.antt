-- What the walk of two trees in step answers: the first clash, or a plan of the join's rows.
use Rattle.std.specs.Prelude.{◌≡◌, List, Result, Ok, Err, IfOk, ◌++◌, ℕ, ◌+◌, ◌-◌, ◌≤◌, ◌<◌, length, drop, get_or}
use Rattle.trees.specs.Nodes.{Node, Run, count, size, sizes, Head, heads}
use Rattle.trees.specs.Join.{Joint, ok, clash, JointRun, ok_run, clash_at, join, join_run}
use Rattle.trees.specs.Rows.{number, number_in}
use Rattle.join_rows.specs.declared.plan.Clash.{Clash}
use Rattle.columns.specs.declared.walkable.Columns.{Columns}
use Rattle.lists.specs.Lists.{upto, At, Names}
use Rattle.join_rows.specs.Faces.{Face, of_inner, no_face, count_of_face, head_of_face, faces, faces_in, root}
use Rattle.columns.specs.Columns.{back, head_at}

-- "first clash in this order: .. all of its first child's subtree, then the next child's"
abbrev pub earlier_of : Result ℕ Clash → Result ℕ Clash → Result ℕ Clash
earlier_of (Err front) last = Err front
earlier_of (Ok low) (Err last) = Err last
earlier_of (Ok low) (Ok at) = Ok low

-- the rows from `from` up to `to` stand before the cells from `at` on, if there is room
pub record PutGives (from to at : ℕ) (entry exit : List ℕ) (r : ℕ) : Type 0 where
  pub low : r ≤ at
  pub spent : from ≤ to → to - from ≤ at → r + (to - from) ≡ at
  pub is : from ≤ to → to - from ≤ at → drop r exit ≡ upto from (to - from) ++ drop at entry

-- the columns show the faces fs, one a row
pub record Reads (H : List ℕ → List ℕ) (fs : List Face) (types counts lengths values labels starts offsets : List ℕ) : Type 0 where
  pub counts_are : (x : ℕ) → x < length fs → get_or counts x 0 ≡ count_of_face (get_or fs x no_face)
  pub full : (x : ℕ) → x < length fs → (hs : List Head) → get_or fs x no_face ≡ of_inner hs → 0 < length hs
  pub heads_are : (x : ℕ) → x < length fs → head_at types counts lengths values labels offsets x ≡ head_of_face H (get_or fs x no_face)
  pub starts_are : (x : ℕ) → x < length fs → get_or starts x 0 ≡ back starts (get_or counts x 0) x

-- cells from low up to at name rows that show xs, in order, and the cells from at on are as they were
pub record Placed (fs : List Face) (at low : ℕ) (entry exit : List ℕ) (xs : List Face) : Type 0 where
  pub cells : List ℕ
  pub spent : low + length xs ≡ at
  pub is : drop low exit ≡ cells ++ drop at entry
  pub names : Names no_face fs cells xs

module _ (H : List ℕ → List ℕ) (fs : List Face) where
  -- the answer for two nodes whose first rows are x and y, by their join: where there is room for both, the join's rows are placed
  abbrev pub Said : Node → Node → ℕ → ℕ → ℕ → List ℕ → List ℕ → Result ℕ Clash → Joint → Type 0
  Said a b x y at entry exit (Ok low) (ok c) = size a + size b ≤ at → Placed fs at low entry exit (faces H c)
  Said a b x y at entry exit (Ok low) (clash p) = ⊥
  Said a b x y at entry exit (Err k) (ok c) = ⊥
  Said a b x y at entry exit (Err k) (clash p) = (k.first ≡ x + number a p) × (k.second ≡ y + number b p)

  -- the same for two runs
  abbrev pub SaidRun : Run → Run → ℕ → ℕ → ℕ → List ℕ → List ℕ → Result ℕ Clash → JointRun → Type 0
  SaidRun r s x y at entry exit (Ok low) (ok_run t) = sizes r + sizes s ≤ at → Placed fs at low entry exit (faces_in H t)
  SaidRun r s x y at entry exit (Ok low) (clash_at i p) = ⊥
  SaidRun r s x y at entry exit (Err k) (ok_run t) = ⊥
  SaidRun r s x y at entry exit (Err k) (clash_at i p) = (k.first ≡ x + number_in r i p) × (k.second ≡ y + number_in s i p)

-- what the walk of two nodes does, whatever trees stand in the columns
pub record NodeGives (c : Columns) (entry exit : List ℕ) (i j at : ℕ) (w : Result ℕ Clash) : Type 0 where
  pub low : IfOk w (λ low. low ≤ at)
  pub said :
      (H : List ℕ → List ℕ) (fs : List Face)
      → Reads H fs c.table.types.now c.table.counts.now c.table.lengths.now c.table.values.now c.labels.now c.starts.now c.offsets.now
      → (a b : Node) (x y : ℕ)
      → At no_face fs x (faces H a)
      → At no_face fs y (faces H b)
      → i ≡ root x a
      → j ≡ root y b
      → Said H fs a b x y at entry exit w (join H a b)

-- and of two runs with the same heads
pub record RunGives (c : Columns) (entry exit : List ℕ) (e f k at : ℕ) (w : Result ℕ Clash) : Type 0 where
  pub low : IfOk w (λ low. low ≤ at)
  pub said :
      (H : List ℕ → List ℕ) (fs : List Face)
      → Reads H fs c.table.types.now c.table.counts.now c.table.lengths.now c.table.values.now c.labels.now c.starts.now c.offsets.now
      → (r s : Run) (x y : ℕ)
      → At no_face fs x (faces_in H r)
      → At no_face fs y (faces_in H s)
      → e ≡ x + sizes r
      → f ≡ y + sizes s
      → k ≡ count r
      → heads H r ≡ heads H s
      → SaidRun H fs r s x y at entry exit w (join_run H r s)
