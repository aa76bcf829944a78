-- The list's test, and the pruned table.
use Rattle.std.specs.Prelude.{ℕ, ◌≤◌, ◌<◌, List, ◌≡◌, length, take}
use Rattle.std.proofs.Math.Path.{refl, sym}
use Rattle.std.proofs.Common.{◌∙◌, subst, arith, lt-ltb, le-ltb, length-take-le}
use Rattle.trees.specs.Nodes.{Node, label}
use Rattle.trees.proofs.PruneLaws.{cut_label}
use Rattle.trees.specs.Rows.{number, pruned_rows}
use Rattle.outcomes.specs.Refusals.{bad_list}
use Rattle.tables.specs.PruningList.{named, first_fault, pruned}
use Rattle.tables.specs.Records.{TreeTable, Holds}
use Rattle.tables.proofs.ListRule.{fault_within}
use Rattle.prune_rows.specs.Clauses.{Written, PruneGives}
use Rattle.prune_rows.specs.PrunedLaws.{rows_pruned}
use Rattle.answers.specs.declared.Answer.{Answer}
use Rattle.answers.specs.Answers.{refused}
use Rattle.outcomes.specs.Outcome.{Output, Leaves}
use Rattle.send.specs.Sent.{sent_tree}
use Rattle.prune_tables.specs.Pruned.{pruned_of}

-- an outcome by another name
pub packs_as : {p q : Output Answer} {r : Answer} {out : List ℕ} → p ≡ q → Leaves p r out → Leaves q r out
packs_as {r = r} {out} e x = subst (λ (y : Output Answer). Leaves y r out) e x

-- an answer by another name
pub answers_as : {o : Output Answer} {q r : Answer} {out : List ℕ} → q ≡ r → Leaves o r out → Leaves o q out
answers_as e x = record { answered = e ∙ x.answered; written = x.written }

-- a list of which no number is found faulty is clean
pub fault_none : (counts list : List ℕ) → length list ≤ first_fault counts 0 0 list → first_fault counts 0 0 list ≡ length list
fault_none counts list h = omega (arith, fault_within counts 0 0 list)

module _ (H : List ℕ → List ℕ) (counts list out : List ℕ) (n : Node) where
  pub list_faulty : first_fault counts 0 0 list < length list → {r : Answer} → r ≡ refused bad_list (first_fault counts 0 0 list)
      → Leaves (pruned_of H counts list n out) r out
  unfolding pruned_of
  list_faulty h e = rw (lt-ltb (first_fault counts 0 0 list) (length list) h) (record { answered = e; written = refl })

  pub list_clean : length list ≤ first_fault counts 0 0 list → sent_tree H (pruned H list n) out ≡ pruned_of H counts list n out
  unfolding pruned_of
  list_clean h = sym (rw (le-ltb (first_fault counts 0 0 list) (length list) h))

-- the second table is that of the pruned tree
module _ {types counts lengths values labels list : List ℕ} {rows2 used : ℕ} {types2 counts2 lengths2 values2 : List ℕ}
    (p : PruneGives types counts lengths values labels list rows2 used types2 counts2 lengths2 values2)
    {H : List ℕ → List ℕ} {n : Node} (h : Holds H n types counts lengths values labels) where
  pub written : Written rows2 used types2 counts2 lengths2 values2 (pruned_rows H (named list) 0 n)
  written = p.table H n h

  pub pruned_table : TreeTable (pruned H list n) (take rows2 types2) (take rows2 counts2) (take rows2 lengths2) (take used values2)
  pruned_table =
      let w = written in
      let long : length (take rows2 types2) ≡ rows2 = length-take-le rows2 types2 w.types_room in
      record {
        form =
            record {
              columns =
                  record {
                    counts_long = length-take-le rows2 counts2 w.counts_room ∙ sym long;
                    lengths_long = length-take-le rows2 lengths2 w.lengths_room ∙ sym long;
                    few = omega (arith, long, p.no_more, h.table.form.columns.few);
                  };
              rows = w.formed ∙ sym long;
              area = omega (arith, w.sized, length-take-le used values2 w.values_room);
            };
        rows_are = w.are ∙ sym (rows_pruned H list n);
      }

-- pruning keeps the root label
pub root_kept : (H : List ℕ → List ℕ) (n : Node) (l list : List ℕ) → l ≡ label H n → l ≡ label H (pruned H list n)
root_kept H n l list e = e ∙ sym (cut_label H (λ q. named list (number n q)) n)
