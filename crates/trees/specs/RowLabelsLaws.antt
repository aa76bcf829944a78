-- A tree has one label an entry.
use Rattle.std.specs.Prelude.{◌≡◌, refl, List, [], ◌∷◌, ℕ, ◌+◌, length}
use Rattle.std.proofs.Common.{ap₂, ◌∙◌, arith, length-append}
use Rattle.trees.specs.Nodes.{Node, Run, inner, leaf, nil, cons, size, sizes, label}
use Rattle.trees.specs.RowLabels.{labels_of, labels_in}

module _ (H : List ℕ → List ℕ) where
  mutual
    pub length_labels : (n : Node) → length (labels_of H n) ≡ size n
    length_labels (inner r) = omega (arith, length-append (labels_in H r) (label H (inner r) ∷ []), length_labels_in r)
    length_labels (leaf t v) = refl

    pub length_labels_in : (r : Run) → length (labels_in H r) ≡ sizes r
    length_labels_in nil = refl
    length_labels_in (cons n r) = length-append (labels_of H n) (labels_in H r) ∙ ap₂ ◌+◌ (length_labels n) (length_labels_in r)
