-- Where the column of starts is right, a subtree starts where its rows do, and the heads found backwards are its children's.
use Rattle.std.specs.Prelude.{◌≡◌, List, [], ◌∷◌, ◌++◌, length, get_or}
use Rattle.std.proofs.Math.Path.{sym, ap, ap₂}
use Rattle.std.proofs.Common.{◌∙◌, subst, append_assoc, zero-add, add-zero}
use Prim.Native.Nat.{ℕ, suc, ◌+◌, ◌<◌}
use native.Mathlib.Omega.{arith}
use Rattle.trees.specs.Nodes.{Node, Run, inner, leaf, nil, cons, type_of, count, size, sizes, Head, label, heads}
use Rattle.trees.proofs.StackLaws.{length_heads}
use Rattle.lists.specs.Lists.{backwards, At}
use Rattle.lists.specs.ListsLaws.{at_front, at_back}
use Rattle.join_rows.specs.Faces.{Face, of_inner, no_face, count_of_face, head_of_face, faces, faces_in, root}
use Rattle.join_rows.specs.FacesLaws.{length_faces, length_faces_in}
use Rattle.columns.specs.Columns.{back, heads_back}

-- a tree's root is its last row
pub root_last : (b : ℕ) (n : Node) → suc (root b n) ≡ b + size n
root_last b (inner r) = omega arith
root_last b (leaf t v) = omega arith

module _ (H : List ℕ → List ℕ) (fs : List Face) where
  -- the root of a tree that stands in place shows itself last
  pub inner_at : (r : Run) (b : ℕ) → At no_face fs b (faces H (inner r))
      → (b + sizes r < length fs) × (get_or fs (b + sizes r) no_face ≡ of_inner (heads H r))
  inner_at r b h =
      let k = at_back no_face fs b (faces_in H r) (of_inner (heads H r) ∷ []) h in
      let e : b + length (faces_in H r) ≡ b + sizes r = ap (λ (n : ℕ). b + n) (length_faces_in H r) in
      (subst (λ (n : ℕ). n < length fs) e k.0, ap (λ (n : ℕ). get_or fs n no_face) (sym e) ∙ k.1)

  pub root_low : (n : Node) (b : ℕ) → At no_face fs b (faces H n) → root b n < length fs
  root_low (inner r) b h = (inner_at r b h).0
  root_low (leaf t v) b h = h.0

  pub root_head : (n : Node) (b : ℕ) → At no_face fs b (faces H n)
      → head_of_face H (get_or fs (root b n) no_face) ≡ record { kind = type_of n; text = label H n }
  root_head (inner r) b h = ap (head_of_face H) (inner_at r b h).1
  root_head (leaf t v) b h = ap (head_of_face H) h.1

  -- the second of two parts in place
  pub rest_at : (n : Node) (r : Run) (b : ℕ) → At no_face fs b (faces_in H (cons n r)) → At no_face fs (b + size n) (faces_in H r)
  rest_at n r b h =
      subst (λ (k : ℕ). At no_face fs (b + k) (faces_in H r)) (length_faces H n) (at_back no_face fs b (faces H n) (faces_in H r) h)

  -- the children of an internal node
  pub children_at : (r : Run) (b : ℕ) → At no_face fs b (faces H (inner r)) → At no_face fs b (faces_in H r)
  children_at r b h = at_front no_face fs b (faces_in H r) (of_inner (heads H r) ∷ []) h

  module _ (counts starts : List ℕ)
      (counts_are : (x : ℕ) → x < length fs → get_or counts x 0 ≡ count_of_face (get_or fs x no_face))
      (starts_are : (x : ℕ) → x < length fs → get_or starts x 0 ≡ back starts (get_or counts x 0) x) where
    pub count_at : (r : Run) (b : ℕ) → At no_face fs b (faces H (inner r)) → get_or counts (b + sizes r) 0 ≡ count r
    count_at r b h =
        let k = inner_at r b h in
        counts_are (b + sizes r) k.0 ∙ ap count_of_face k.1 ∙ length_heads H r

    mutual
      unfolding back

      pub start_node : (n : Node) (b : ℕ) → At no_face fs b (faces H n) → get_or starts (root b n) 0 ≡ b
      start_node (inner r) b h =
          starts_are (b + sizes r) (inner_at r b h).0
          ∙ ap (λ (k : ℕ). back starts k (b + sizes r)) (count_at r b h ∙ sym (add-zero (count r)))
          ∙ start_run r b 0 (children_at r b h)
      start_node (leaf t v) b h =
          starts_are b h.0 ∙ ap (λ (k : ℕ). back starts k b) (counts_are b h.0 ∙ ap count_of_face h.1)

      pub start_run : (r : Run) (b k : ℕ) → At no_face fs b (faces_in H r) → back starts (count r + k) (b + sizes r) ≡ back starts k b
      start_run nil b k h = ap₂ (back starts) (zero-add k) (add-zero b)
      start_run (cons n r) b k h =
          let e : suc (count r) + k ≡ count r + suc k = omega arith in
          let f : b + (size n + sizes r) ≡ b + size n + sizes r = omega arith in
          ap₂ (back starts) e f
          ∙ start_run r (b + size n) (suc k) (rest_at n r b h)
          ∙ ap (back starts (suc k)) (sym (root_last b n))
          ∙ ap (back starts k) (start_node n b (at_front no_face fs b (faces H n) (faces_in H r) h))

    -- the heads of a run, found from its end
    module _ (head : ℕ → Head) (heads_are : (x : ℕ) → x < length fs → head x ≡ head_of_face H (get_or fs x no_face)) where
      pub heads_run : (r : Run) (b k : ℕ) → At no_face fs b (faces_in H r)
          → heads_back head starts (count r + k) (b + sizes r) ≡ backwards (heads H r) ++ heads_back head starts k b
      unfolding heads_back
      heads_run nil b k h = ap₂ (heads_back head starts) (zero-add k) (add-zero b)
      heads_run (cons n r) b k h =
          let e : suc (count r) + k ≡ count r + suc k = omega arith in
          let f : b + (size n + sizes r) ≡ b + size n + sizes r = omega arith in
          let g : At no_face fs b (faces H n) = at_front no_face fs b (faces H n) (faces_in H r) h in
          let hd : Head = record { kind = type_of n; text = label H n } in
          ap₂ (heads_back head starts) e f
          ∙ heads_run r (b + size n) (suc k) (rest_at n r b h)
          ∙ ap (λ (x : ℕ). backwards (heads H r) ++ heads_back head starts (suc k) x) (sym (root_last b n))
          ∙ ap₂ (λ (x : Head) (z : ℕ). backwards (heads H r) ++ (x ∷ heads_back head starts k z))
          (heads_are (root b n) (root_low n b g) ∙ root_head n b g) (start_node n b g)
          ∙ sym (append_assoc (backwards (heads H r)) (hd ∷ []) (heads_back head starts k b))
