-- The plan of the join, planned and handed out.
use Prim.Native.Nat.{ℕ, ◌-◌, ◌*◌, ◌≤◌, ◌<◌}
use Rattle.std.specs.Prelude.{Ok, Err}
use Rattle.std.proofs.Common.{◌⊎◌, inl, inr}
use mathlib.Core.List.{List, ◌++◌, map}
use mathlib.Core.Path.{◌≡◌, refl, sym, ap, ◌∙◌, subst}
use native.Mathlib.Omega.{arith}
use borrow.Author.Tests.{lt-ltb, le-ltb}
use Rattle.std.proofs.lemmas.Bool.{cases_lt}
use lib.ListN.{length, take, drop, length-drop}
use lib.Seq.{take_all, length-take-le}
use Rattle.trees.specs.Nodes.{Node, size, label}
use Rattle.trees.specs.Rules.{max_nodes}
use Rattle.trees.specs.Join.{Joint, ok, clash, join, Alike}
use Rattle.trees.proofs.JoinLaws.{join_ok}
use Rattle.trees.proofs.OrderLaws.{le_label}
use Rattle.tables.specs.Records.{TreeTable}
use Rattle.outcomes.specs.Refusals.{join_too_large}
use Rattle.sha256.specs.Sha256 as Sha256
use Rattle.join_rows.specs.declared.plan.Clash as code
use Rattle.tables.specs.declared.table.Table as code_table
use Rattle.lists.specs.Lists.{Names}
use Rattle.lists.specs.ListsLaws.{names_length}
use Rattle.join_rows.specs.Faces.{no_face, faces}
use Rattle.join_rows.specs.FacesLaws.{length_faces}
use Rattle.columns.specs.Columns.{SurveyGives}
use Rattle.join_rows.specs.Plans.{TwoTables, PlannedAs}
use Rattle.columns.specs.Gathers.{cell_of, values_of}
use Rattle.join_rows.specs.JoinTable.{planned_table, join_room, join_gathering}
use Rattle.join_rows.specs.TwoLaws.{first_low, values_room}
use Rattle.answers.specs.declared.Answer.{Answer}
use Rattle.answers.specs.Answers.{refused, clashed}
use Rattle.outcomes.specs.Outcome.{Leaves, still}
use Rattle.join_tables.specs.Joined.{joined_of}
use Rattle.join_tables.specs.Clauses.{fitted, HandOutAsks, MergeAsks}

-- the cells that name the join's rows
abbrev pub named : List ℕ → ℕ → List ℕ
named cells n = take (length cells - (length cells - n)) (drop (length cells - n) cells)

named_is : (cells : List ℕ) (n : ℕ) → named cells n ≡ drop (length cells - n) cells
named_is cells n =
    take_all (length cells - (length cells - n)) (drop (length cells - n) cells) (omega (arith, length-drop (length cells - n) cells))

-- a plan of n rows names the rows of the join
pub record Unclashed (H : List ℕ → List ℕ) (a b : Node) (cells : List ℕ) (n : ℕ) (j : Joint) : Type 0 where
  pub tree : Node
  pub is : j ≡ ok tree
  pub rows_are : n ≡ size tree
  pub names : Names no_face (faces H a ++ faces H b) (named cells n) (faces H tree)

pub unclashed : (H : List ℕ → List ℕ) (a b : Node) (cells : List ℕ) (n : ℕ) (j : Joint) → PlannedAs H a b cells (Ok n) j → Unclashed H a b cells n j
unclashed H a b cells n (ok c) q = record { tree = c; is = refl; rows_are = q.0; names = rw (named_is cells n) q.1 }
unclashed H a b cells n (clash o) q = absurd q

module _ {H : List ℕ → List ℕ} {a b : Node} {cells : List ℕ} {n : ℕ} where
  -- its cells are as many as the join's rows
  pub plan_long : {j : Joint} → Unclashed H a b cells n j → (n ≤ length cells) × (length (named cells n) ≡ n)
  plan_long x =
      let long = names_length no_face (faces H a ++ faces H b) (named cells n) (faces H x.tree) x.names in
      let e : length (named cells n) ≡ n = long ∙ length_faces H x.tree ∙ sym x.rows_are in
      (omega (arith, e, ap length (named_is cells n), length-drop (length cells - n) cells), e)

-- a clash is told by its entries
pub clash_joined : (H : List ℕ → List ℕ) (a b : Node) (cells : List ℕ) (k : code.Clash) (j : Joint) (out : List ℕ) {r : Answer}
    → PlannedAs H a b cells (Err k) j → r ≡ clashed k.first k.second → Leaves (joined_of H a b out j) r out
unfolding joined_of
clash_joined H a b cells k (ok c) out q g = absurd q
clash_joined H a b cells k (clash o) out q g = record { answered = g ∙ (λ i. clashed (q.0 i) (q.1 i)); written = refl }

many_rows : (H : List ℕ → List ℕ) (a b c : Node) (out : List ℕ) {r : Answer} {left : List ℕ} → max_nodes < size c
    → Leaves (still (refused join_too_large 0) out) r left → Leaves (joined_of H a b out (ok c)) r left
unfolding joined_of
many_rows H a b c out h e = rw (lt-ltb max_nodes (size c) h) e

few_rows : (H : List ℕ → List ℕ) (a b c : Node) (out : List ℕ) {r : Answer} {left : List ℕ} → size c ≤ max_nodes → Leaves (fitted H c out) r left
    → Leaves (joined_of H a b out (ok c)) r left
unfolding joined_of fitted
few_rows H a b c out h e = rw (le-ltb max_nodes (size c) h) e

-- two trees have no more rows than two slips
pub two_few : {H : List ℕ → List ℕ} {a b : Node} {first : ℕ} {types counts lengths values labels : List ℕ}
    → TwoTables H a b first types counts lengths values labels → length types ≤ 2 * max_nodes
two_few {H} {a} {b} {first} {types} {counts} {lengths} {values} {labels} h =
    let low = first_low H a b first types counts lengths values labels h in
    omega (arith, low, h.one.table.form.columns.few, h.two.table.form.columns.few, length-take-le first types (omega (arith, low)), length-drop first types)

module _ {first : ℕ} (t : code_table.Table) {labels starts offsets cells : List ℕ} {n : ℕ} (g : SurveyGives t.counts.now t.lengths.now starts offsets)
    (few : length (named cells n) ≤ max_nodes) where
  -- what the plan names is the join's table
  pub plan_table : {a b : Node} → TwoTables Sha256.label a b first t.types.now t.counts.now t.lengths.now t.values.now labels
      → (x : Unclashed Sha256.label a b cells n (join Sha256.label a b))
      → TreeTable x.tree (map (cell_of t.types.now) (named cells n)) (map (cell_of t.counts.now) (named cells n)) (map (cell_of t.lengths.now) (named cells n)) (values_of (named cells n) t.lengths.now t.values.now offsets)
  plan_table {a} {b} h x =
      planned_table Sha256.label a b first t.types.now t.counts.now t.lengths.now t.values.now labels starts offsets h g (named cells n) x.tree x.names few

  -- and can be gathered and handed out
  pub plan_asks : (m : MergeAsks first t labels) → Unclashed Sha256.label m.a m.b cells n (join Sha256.label m.a m.b)
      → HandOutAsks (named cells n) t offsets
  plan_asks m x =
      let h = m.two in
      record {
        plan_is =
            join_gathering Sha256.label m.a m.b first t.types.now t.counts.now t.lengths.now t.values.now labels starts offsets h g (named cells n) x.tree x.names few;
        sized =
            omega (
              arith,
              join_room Sha256.label m.a m.b first t.types.now t.counts.now t.lengths.now t.values.now labels starts offsets h g (named cells n) x.tree x.is x.names,
              values_room Sha256.label m.a m.b first t.types.now t.counts.now t.lengths.now t.values.now labels h,
            );
        most = m.most;
        tree = x.tree;
        table = plan_table h x;
      }

-- the join is too large, or is handed out: its root has the label of both
module _ {a b : Node} {cells : List ℕ} {n : ℕ} (x : Unclashed Sha256.label a b cells n (join Sha256.label a b)) (out : List ℕ) {r : Answer} {root left : List ℕ}
    (alike : Alike Sha256.label a b) (l : label Sha256.label a ≡ root)
    (large : max_nodes < length (named cells n) → Leaves (still (refused join_too_large 0) out) r left)
    (fits : length (named cells n) ≤ max_nodes → root ≡ label Sha256.label x.tree → Leaves (fitted Sha256.label x.tree out) r left) where
  pub rows_joined : Leaves (joined_of Sha256.label a b out (join Sha256.label a b)) r left
  rows_joined = subst (λ (k : Joint). Leaves (joined_of Sha256.label a b out k) r left) (sym x.is) (go (cases_lt max_nodes n))
    where
      long : length (named cells n) ≡ n
      long = (plan_long x).1

      go : (max_nodes < n) ⊎ (n ≤ max_nodes) → Leaves (joined_of Sha256.label a b out (ok x.tree)) r left
      go (inl h) = many_rows Sha256.label a b x.tree out (omega (arith, x.rows_are)) (large (omega (arith, long)))
      go (inr h) =
          few_rows Sha256.label a b x.tree out (omega (arith, x.rows_are))
          (fits (omega (arith, long)) (sym l ∙ le_label Sha256.label a x.tree (join_ok Sha256.label a b x.tree alike x.is).left))
