-- What a plan names, where each row shows a face: the table of the tree with these faces.
use Rattle.std.specs.Prelude.{◌≡◌, ℕ, zero, suc, ◌+◌, ◌*◌, ◌≤◌, ◌<◌, length, take, drop, get_or}
use Rattle.std.proofs.Math.Path.{refl}
use Rattle.std.proofs.Common.{sym, ap, ap₂, ◌∙◌, take_at, drop_at}
use mathlib.Core.List.{List, [], ◌∷◌, ◌++◌, map}
use native.Mathlib.Omega.{arith}
use Rattle.std.proofs.Math.ListN.{length-append}
use Rattle.std.proofs.lemmas.List.{length-map}
use Rattle.trees.specs.Nodes.{Node}
use Rattle.trees.specs.Rules.{label_bytes, max_nodes}
use Rattle.trees.specs.Rows.{Entry}
use Rattle.tables.specs.Records.{TreeTable}
use Rattle.tables.specs.Tables.{entry_of, entries, first_bad, sum}
use Rattle.lists.specs.Lists.{Names, concat}
use Rattle.join_rows.specs.Faces.{Face, no_face, entry_of_face, bytes_of_face, faces}
use Rattle.join_rows.specs.FacesLaws.{rows_faces}
use Rattle.columns.specs.Columns.{value_at}
use Rattle.columns.specs.Gathers.{cell_of, InRange, values_of}
use Rattle.join_rows.specs.TablesLaws.{Shows, shown_bytes}

-- a plan that names what stands in fs is in range
pub names_in_range : (fs : List Face) (plan : List ℕ) (xs : List Face) → Names no_face fs plan xs → InRange plan (length fs)
names_in_range fs [] xs h k q = absurd (omega arith)
names_in_range fs (c ∷ plan) [] h k q = absurd h
names_in_range fs (c ∷ plan) (x ∷ xs) h zero q = h.0
names_in_range fs (c ∷ plan) (x ∷ xs) h (suc k) q = names_in_range fs plan xs h.2 k (omega arith)

module _ (H : List ℕ → List ℕ) (fs : List Face) (types counts lengths values labels offsets : List ℕ)
    (shows : (x : ℕ) → x < length fs → Shows H (get_or types x 0) (get_or counts x 0) (get_or lengths x 0) (value_at lengths values offsets x)
    (take label_bytes (drop (label_bytes * x) labels)) (get_or fs x no_face))
    (whole : (x : ℕ) → x < length fs → length (value_at lengths values offsets x) ≡ get_or lengths x 0) where
  named_entries : (plan : List ℕ) (xs : List Face) → Names no_face fs plan xs
      → entries (map (cell_of types) plan) (map (cell_of counts) plan) (map (cell_of lengths) plan) (concat (map (value_at lengths values offsets) plan))
      ≡ map entry_of_face xs
  named_entries [] [] h = refl
  named_entries [] (x ∷ xs) h = absurd h
  named_entries (c ∷ plan) [] h = absurd h
  named_entries (c ∷ plan) (x ∷ xs) h =
      let v = value_at lengths values offsets c in
      let rest = concat (map (value_at lengths values offsets) plan) in
      let front : take (get_or lengths c 0) (v ++ rest) ≡ v = take_at v rest (get_or lengths c 0) (whole c h.0) in
      let back : drop (get_or lengths c 0) (v ++ rest) ≡ rest = drop_at v rest (get_or lengths c 0) (whole c h.0) in
      ap₂ (λ (e : List ℕ) (r : List ℕ). entry_of (get_or types c 0) (get_or counts c 0) e
      ∷ entries (map (cell_of types) plan) (map (cell_of counts) plan) (map (cell_of lengths) plan) r) front back
      ∙ ap₂ (λ (e : Entry) (es : List Entry). e ∷ es) ((shows c h.0).entry ∙ ap entry_of_face h.1) (named_entries plan xs h.2)

  named_formed : (i : ℕ) (plan : List ℕ) (xs : List Face) → Names no_face fs plan xs
      → first_bad i (map (cell_of types) plan) (map (cell_of counts) plan) (map (cell_of lengths) plan) ≡ i + length plan
  unfolding first_bad
  named_formed i [] [] h = omega arith
  named_formed i [] (x ∷ xs) h = absurd h
  named_formed i (c ∷ plan) [] h = absurd h
  named_formed i (c ∷ plan) (x ∷ xs) h = rw (shows c h.0).form (let e = named_formed (i + 1) plan xs h.2 in omega arith)

  pub named_bytes : (plan : List ℕ) (xs : List Face) → Names no_face fs plan xs → map (cell_of lengths) plan ≡ map bytes_of_face xs
  named_bytes [] [] h = refl
  named_bytes [] (x ∷ xs) h = absurd h
  named_bytes (c ∷ plan) [] h = absurd h
  named_bytes (c ∷ plan) (x ∷ xs) h =
      ap₂ (λ (e : ℕ) (es : List ℕ). e ∷ es) (shown_bytes H _ _ _ _ _ _ (shows c h.0) (whole c h.0) ∙ ap bytes_of_face h.1)
      (named_bytes plan xs h.2)

  named_area : (plan : List ℕ) (xs : List Face) → Names no_face fs plan xs
      → sum (map (cell_of lengths) plan) ≡ length (concat (map (value_at lengths values offsets) plan))
  unfolding sum
  named_area [] [] h = refl
  named_area [] (x ∷ xs) h = absurd h
  named_area (c ∷ plan) [] h = absurd h
  named_area (c ∷ plan) (x ∷ xs) h =
      omega (
        arith,
        length-append (value_at lengths values offsets c) (concat (map (value_at lengths values offsets) plan)),
        whole c h.0,
        named_area plan xs h.2,
      )

  -- the whole columns, where the plan names the rows of the tree c
  pub named_table : (plan : List ℕ) (c : Node) → Names no_face fs plan (faces H c) → length plan ≤ max_nodes
      → TreeTable c (map (cell_of types) plan) (map (cell_of counts) plan) (map (cell_of lengths) plan) (values_of plan lengths values offsets)
  named_table plan c h few =
      record {
        form =
            record {
              columns =
                  record {
                    counts_long = length-map plan (cell_of counts) ∙ sym (length-map plan (cell_of types));
                    lengths_long = length-map plan (cell_of lengths) ∙ sym (length-map plan (cell_of types));
                    few = omega (arith, length-map plan (cell_of types));
                  };
              rows = named_formed 0 plan (faces H c) h ∙ omega (arith, length-map plan (cell_of types));
              area = omega (arith, named_area plan (faces H c) h);
            };
        rows_are = named_entries plan (faces H c) h ∙ rows_faces H c;
      }
