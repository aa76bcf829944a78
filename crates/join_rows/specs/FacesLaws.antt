-- The rows and labels of a tree are those of its faces.
use Rattle.std.specs.Prelude.{◌≡◌, refl, List, [], ◌∷◌, ◌++◌, map, ℕ, length}
use Rattle.std.proofs.Common.{sym, ap, ap₂, ◌∙◌}
use Rattle.std.proofs.lemmas.List.{map-append, length-map}
use Rattle.trees.specs.Nodes.{Node, Run, inner, leaf, nil, cons, size, sizes, label, heads}
use Rattle.trees.specs.Rows.{Entry, node, rows, rows_in}
use Rattle.trees.specs.RowsLaws.{length_rows, length_rows_in}
use Rattle.trees.specs.RowLabels.{labels_of, labels_in}
use Rattle.trees.proofs.StackLaws.{length_heads}
use Rattle.join_rows.specs.Faces.{Face, of_inner, entry_of_face, head_of_face, faces, faces_in}

module _ (H : List ℕ → List ℕ) where
  mutual
    pub rows_faces : (n : Node) → map entry_of_face (faces H n) ≡ rows n
    rows_faces (inner r) =
        map-append entry_of_face (faces_in H r) (of_inner (heads H r) ∷ [])
        ∙ ap₂ (λ (x : List Entry) (k : ℕ). x ++ (node k ∷ [])) (rows_faces_in r) (length_heads H r)
    rows_faces (leaf t v) = refl

    pub rows_faces_in : (r : Run) → map entry_of_face (faces_in H r) ≡ rows_in r
    rows_faces_in nil = refl
    rows_faces_in (cons n r) = map-append entry_of_face (faces H n) (faces_in H r) ∙ ap₂ ◌++◌ (rows_faces n) (rows_faces_in r)

  -- the label that a node's parent hashes
  abbrev text_of_face : Face → List ℕ
  text_of_face f = (head_of_face H f).text

  mutual
    pub labels_faces : (n : Node) → map (λ f. (head_of_face H f).text) (faces H n) ≡ labels_of H n
    labels_faces (inner r) =
        map-append text_of_face (faces_in H r) (of_inner (heads H r) ∷ [])
        ∙ ap (λ (x : List (List ℕ)). x ++ (label H (inner r) ∷ [])) (labels_faces_in r)
    labels_faces (leaf t v) = refl

    pub labels_faces_in : (r : Run) → map (λ f. (head_of_face H f).text) (faces_in H r) ≡ labels_in H r
    labels_faces_in nil = refl
    labels_faces_in (cons n r) = map-append text_of_face (faces H n) (faces_in H r) ∙ ap₂ ◌++◌ (labels_faces n) (labels_faces_in r)

  -- one face a node
  pub length_faces : (n : Node) → length (faces H n) ≡ size n
  length_faces n = sym (length-map (faces H n) entry_of_face) ∙ ap length (rows_faces n) ∙ length_rows n

  pub length_faces_in : (r : Run) → length (faces_in H r) ≡ sizes r
  length_faces_in r = sym (length-map (faces_in H r) entry_of_face) ∙ ap length (rows_faces_in r) ∙ length_rows_in r
