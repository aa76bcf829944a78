-- What a tree's marks pick from its rows is the pruned tree's rows.
use Rattle.std.specs.Prelude.{ℕ, ◌+◌, Bool, true, false, cond, ◌≡◌, refl, List, [], ◌∷◌, ◌++◌, replicate}
use Rattle.std.proofs.Common.{ap, ap₂, ◌∙◌}
use Rattle.std.proofs.lemmas.List.{length-replicate}
use Rattle.trees.specs.Nodes.{Node, Run, inner, leaf, nil, cons, count, size, sizes, label}
use Rattle.trees.specs.Rows.{Entry, node, tip, rows, rows_in, pruned_rows, pruned_rows_in}
use Rattle.trees.specs.RowsLaws.{length_rows, length_rows_in}
use Rattle.trees.specs.RowLabels.{labels_of, labels_in}
use Rattle.trees.specs.RowLabelsLaws.{length_labels, length_labels_in}
use Rattle.prune_rows.specs.Marks.{gone, kept, cut_off, marks_of, marks_in}
use Rattle.prune_rows.specs.MarksLaws.{length_marks, length_marks_in}
use Rattle.prune_rows.specs.Picked.{picked, row_by}
use Rattle.prune_rows.specs.PickedLaws.{picked_append, picked_gone}

module _ (H : List ℕ → List ℕ) where
  module _ (f : ℕ → Bool) where
    node_rows : (b : ℕ) (r : Run) (c : Bool) → picked row_by (marks_in f b r) (rows_in r) (labels_in H r) ≡ pruned_rows_in H f b r
        → picked row_by (cond c (replicate (sizes r) gone ++ (cut_off ∷ [])) (marks_in f b r ++ (kept ∷ []))) (rows (inner r)) (labels_of H (inner r))
        ≡ cond c (tip 0 (label H (inner r)) ∷ []) (pruned_rows_in H f b r ++ (node (count r) ∷ []))
    node_rows b r true h =
        picked_append row_by (sizes r) (replicate (sizes r) gone) (cut_off ∷ []) (rows_in r) (node (count r) ∷ []) (labels_in H r) (label H (inner r) ∷ [])
        (length-replicate (sizes r) gone) (length_rows_in r) (length_labels_in H r)
        ∙ ap (λ (l : List Entry). l ++ (tip 0 (label H (inner r)) ∷ [])) (picked_gone row_by (λ e x. refl) (sizes r) (rows_in r) (labels_in H r))
    node_rows b r false h =
        picked_append row_by (sizes r) (marks_in f b r) (kept ∷ []) (rows_in r) (node (count r) ∷ []) (labels_in H r) (label H (inner r) ∷ [])
        (length_marks_in f b r) (length_rows_in r) (length_labels_in H r)
        ∙ ap (λ (l : List Entry). l ++ (node (count r) ∷ [])) h

    leaf_row : (c : Bool) (t : ℕ) (v : List ℕ) → row_by (cond c cut_off kept) (tip t v) v ++ [] ≡ tip t v ∷ []
    leaf_row true t v = refl
    leaf_row false t v = refl

    -- the marks of a tree pick the pruned tree's rows
    mutual
      pub picked_rows : (b : ℕ) (n : Node) → picked row_by (marks_of f b n) (rows n) (labels_of H n) ≡ pruned_rows H f b n
      picked_rows b (inner r) = node_rows b r (f (b + sizes r)) (picked_rows_in b r)
      picked_rows b (leaf t v) = leaf_row (f b) t v

      pub picked_rows_in : (b : ℕ) (r : Run) → picked row_by (marks_in f b r) (rows_in r) (labels_in H r) ≡ pruned_rows_in H f b r
      picked_rows_in b nil = refl
      picked_rows_in b (cons n r) =
          picked_append row_by (size n) (marks_of f b n) (marks_in f (b + size n) r) (rows n) (rows_in r) (labels_of H n) (labels_in H r)
          (length_marks f b n) (length_rows n) (length_labels H n)
          ∙ ap₂ ◌++◌ (picked_rows b n) (picked_rows_in (b + size n) r)
