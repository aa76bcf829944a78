-- Two tables end to end: the rows of the columns show the faces of both trees, and the columns can be walked.
use Rattle.std.specs.Prelude.{◌≡◌, refl, Bool, true, false, cond, List, ◌++◌, ℕ, ◌+◌, ◌-◌, ◌*◌, ◌≤◌, ◌<◌, eqb, ltb, length, take, drop, get_or}
use Rattle.std.proofs.Common.{sym, ap, ◌∙◌, subst, arith, length-append, length-drop, take-append-drop, get_or-take, get_or-drop, take-take, take-add, drop-drop, get_or-append-add, length-take-le, ltb-true, ltb-false}
use Rattle.std.proofs.Math.ListN.{get_or-append}
use Rattle.trees.specs.Nodes.{Node, size}
use Rattle.trees.proofs.NodesLaws.{some_size}
use Rattle.trees.specs.Rules.{label_bytes}
use Rattle.tables.specs.Tables.{sum}
use Rattle.tables.specs.TablesLaws.{sum_append, sum_part}
use Rattle.join_rows.specs.Faces.{no_face, faces}
use Rattle.join_rows.specs.FacesLaws.{length_faces}
use Rattle.columns.specs.Columns.{SurveyGives, Walkable}
use Rattle.join_rows.specs.Walks.{Reads}
use Rattle.join_rows.specs.TablesLaws.{Shows, shows_as, table_shows, table_long, shown_count, shown_full, shown_head}
use Rattle.join_rows.specs.Plans.{TwoTables}

module _ (H : List ℕ → List ℕ) (a b : Node) (first : ℕ) (types counts lengths values labels : List ℕ)
    (h : TwoTables H a b first types counts lengths values labels) where
  second_rows : length types - first ≡ size b
  second_rows = sym (length-drop first types) ∙ table_long H b _ _ _ _ _ h.two

  pub first_low : first < length types
  first_low = omega (arith, second_rows, some_size b)

  pub first_rows : first ≡ size a
  first_rows = sym (length-take-le first types (omega (arith, first_low))) ∙ table_long H a _ _ _ _ _ h.one

  pub all_rows : length types ≡ size a + size b
  all_rows = omega (arith, second_rows, first_low, first_rows)

  pub counts_long : length counts ≡ length types
  counts_long = omega (arith, h.two.table.form.columns.counts_long, length-drop first counts, length-drop first types, first_low)

  pub lengths_long : length lengths ≡ length types
  lengths_long = omega (arith, h.two.table.form.columns.lengths_long, length-drop first lengths, length-drop first types, first_low)

  -- a row of the columns
  abbrev RowShows : ℕ → Type 0
  RowShows x =
      Shows H (get_or types x 0) (get_or counts x 0) (get_or lengths x 0) (take (get_or lengths x 0) (drop (sum (take x lengths)) values))
      (take label_bytes (drop (label_bytes * x) labels)) (get_or (faces H a ++ faces H b) x no_face)

  first_shows : (x : ℕ) → x < first → RowShows x
  first_shows x q =
      let l : get_or (take first lengths) x 0 ≡ get_or lengths x 0 = get_or-take first lengths x 0 q in
      let o : sum (take x (take first lengths)) ≡ sum (take x lengths) = ap sum (take-take x first lengths (omega arith)) in
      shows_as (get_or-take first types x 0 q) (get_or-take first counts x 0 q) l (λ i. take (l i) (drop (o i) values)) refl
      (sym (get_or-append (faces H a) (faces H b) no_face x (omega (arith, length_faces H a, first_rows))))
      (table_shows H a _ _ _ _ _ h.one x (omega (arith, length-take-le first types (omega (arith, first_low)))))

  second_shows : (k : ℕ) → k < length types - first → RowShows (first + k)
  second_shows k q =
      let l : get_or (drop first lengths) k 0 ≡ get_or lengths (first + k) 0 = get_or-drop first lengths k 0 in
      let o : drop (sum (take k (drop first lengths))) (drop (sum (take first lengths)) values) ≡ drop (sum (take (first + k) lengths)) values =
      drop-drop (sum (take k (drop first lengths))) (sum (take first lengths)) values
      ∙ ap (λ (n : ℕ). drop n values) (sym (ap sum (take-add first k lengths) ∙ sum_append (take first lengths) (take k (drop first lengths)))) in
      let z : drop (label_bytes * k) (drop (label_bytes * first) labels) ≡ drop (label_bytes * (first + k)) labels =
      drop-drop (label_bytes * k) (label_bytes * first) labels ∙ ap (λ (n : ℕ). drop n labels) (let e : label_bytes * first + label_bytes * k ≡ label_bytes * (first + k) = omega arith in e) in
      let f : length (faces H a) ≡ first = length_faces H a ∙ sym first_rows in
      shows_as (get_or-drop first types k 0) (get_or-drop first counts k 0) l (λ i. take (l i) (o i)) (ap (take label_bytes) z)
      (sym (ap (λ (n : ℕ). get_or (faces H a ++ faces H b) (n + k) no_face) (sym f) ∙ get_or-append-add (faces H a) (faces H b) k no_face))
      (table_shows H b _ _ _ _ _ h.two k (omega (arith, length-drop first types)))

  pub row_shows : (x : ℕ) → x < length types → RowShows x
  row_shows x q = go (ltb x first) refl
    where
      go : (t : Bool) → ltb x first ≡ t → RowShows x
      go true e = first_shows x (ltb-true x first e)
      go false e =
          let low : first ≤ x = ltb-false x first e in
          let s : first + (x - first) ≡ x = omega arith in
          subst RowShows s (second_shows (x - first) (omega (arith, first_low)))

  pub all_faces : length (faces H a ++ faces H b) ≡ length types
  all_faces = omega (arith, length-append (faces H a) (faces H b), length_faces H a, length_faces H b, all_rows)

  pub values_room : sum lengths ≤ length values
  values_room =
      omega (
        arith,
        ap sum (take-append-drop first lengths),
        sum_append (take first lengths) (drop first lengths),
        h.one.table.form.area,
        h.two.table.form.area,
        length-drop (sum (take first lengths)) values,
      )

  module _ (starts offsets : List ℕ) (g : SurveyGives counts lengths starts offsets) where
    pub two_ready : Walkable types counts lengths values labels starts offsets
    two_ready =
        record {
          placed =
              record {
                counts_long = counts_long;
                lengths_long = lengths_long;
                offsets_long = g.offsets_long ∙ counts_long;
                inside = λ x q.
                    omega (arith, g.offsets_are x (omega (arith, counts_long)), sum_part lengths x (omega (arith, lengths_long)), values_room);
              };
          starts_long = g.starts_long ∙ counts_long;
          labels_room =
              omega (arith, h.two.labels_room, length-drop first types, length-drop (label_bytes * first) labels, first_low);
          starts_low = λ x q. g.started.low x (omega (arith, counts_long));
        }

    pub two_reads : Reads H (faces H a ++ faces H b) types counts lengths values labels starts offsets
    two_reads =
        record {
          counts_are = λ x q. shown_count H _ _ _ _ _ _ (row_shows x (low x q));
          full = λ x q hs e. shown_full H _ _ _ _ _ hs (shows_as refl refl refl refl refl e (row_shows x (low x q)));
          heads_are = λ x q.
              (λ i. record { kind = get_or types x 0; text = cond (eqb (get_or counts x 0) 0) (take (get_or lengths x 0) (drop (here x q i) values)) (take label_bytes (drop (label_bytes * x) labels)) })
              ∙ shown_head H _ _ _ _ _ _ (row_shows x (low x q));
          starts_are = λ x q. g.started.are x (omega (arith, counts_long, low x q));
        }
      where
        low : (x : ℕ) → x < length (faces H a ++ faces H b) → x < length types
        low x q = omega (arith, all_faces)

        here : (x : ℕ) → x < length (faces H a ++ faces H b) → get_or offsets x 0 ≡ sum (take x lengths)
        here x q = g.offsets_are x (omega (arith, counts_long, low x q))
