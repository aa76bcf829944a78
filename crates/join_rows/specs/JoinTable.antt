-- What a plan of the join names is the join's table, in no more room than both tables have.
use Rattle.std.specs.Prelude.{◌≡◌, refl, List, ◌++◌, map, ℕ, ◌*◌, ◌≤◌, ◌<◌, length, take, drop, get_or}
use Rattle.std.proofs.Common.{sym, ap, ◌∙◌, subst, arith, length-drop, length-take-le, ext_get_or}
use Rattle.std.proofs.lemmas.List.{map-append, length-map}
use Rattle.std.proofs.Math.ListN.{get_or-map}
use Rattle.trees.specs.Nodes.{Node}
use Rattle.trees.specs.Rules.{label_bytes, max_nodes}
use Rattle.trees.specs.Join.{ok, join}
use Rattle.tables.specs.Records.{TreeTable}
use Rattle.tables.specs.Tables.{sum}
use Rattle.tables.specs.TablesLaws.{sum_append, sum_part}
use Rattle.lists.specs.Lists.{Names}
use Rattle.join_rows.specs.Faces.{Face, no_face, bytes_of_face, faces}
use Rattle.columns.specs.Columns.{value_at, SurveyGives}
use Rattle.join_rows.specs.Plans.{TwoTables}
use Rattle.columns.specs.Gathers.{cell_of, values_of, InRange, Gatherable}
use Rattle.join_rows.specs.JoinWeight.{Light, join_light}
use Rattle.join_rows.specs.TablesLaws.{Shows, shows_as, shown_bytes}
use Rattle.join_rows.specs.TwoLaws.{row_shows, all_faces, counts_long, lengths_long, values_room, two_ready}
use Rattle.join_rows.specs.GatherLaws.{named_table, named_bytes, names_in_range}

module _ (H : List ℕ → List ℕ) (a b : Node) (first : ℕ) (types counts lengths values labels starts offsets : List ℕ)
    (h : TwoTables H a b first types counts lengths values labels) (g : SurveyGives counts lengths starts offsets) where
  abbrev both : List Face
  both = faces H a ++ faces H b

  row_low : (x : ℕ) → x < length both → x < length lengths
  row_low x q =
      omega (arith, all_faces H a b first types counts lengths values labels h, lengths_long H a b first types counts lengths values labels h)

  two_shows : (x : ℕ) → x < length both → Shows H (get_or types x 0) (get_or counts x 0) (get_or lengths x 0) (value_at lengths values offsets x)
      (take label_bytes (drop (label_bytes * x) labels)) (get_or both x no_face)
  two_shows x q =
      let low : x < length types = omega (arith, all_faces H a b first types counts lengths values labels h) in
      let at : sum (take x lengths) ≡ get_or offsets x 0 =
      sym (g.offsets_are x (omega (arith, counts_long H a b first types counts lengths values labels h, low))) in
      shows_as refl refl refl (ap (λ (n : ℕ). take (get_or lengths x 0) (drop n values)) at) refl refl
      (row_shows H a b first types counts lengths values labels h x low)

  two_whole : (x : ℕ) → x < length both → length (value_at lengths values offsets x) ≡ get_or lengths x 0
  two_whole x q =
      let low : x < length lengths = row_low x q in
      length-take-le (get_or lengths x 0) (drop (get_or offsets x 0) values)
      (omega (
        arith,
        length-drop (get_or offsets x 0) values,
        g.offsets_are x (omega (
          arith,
          low,
          lengths_long H a b first types counts lengths values labels h,
          counts_long H a b first types counts lengths values labels h,
        )),
        sum_part lengths x low,
        values_room H a b first types counts lengths values labels h,
      ))

  -- what the plan names is the table of its tree
  pub planned_table : (plan : List ℕ) (c : Node) → Names no_face both plan (faces H c) → length plan ≤ max_nodes
      → TreeTable c (map (cell_of types) plan) (map (cell_of counts) plan) (map (cell_of lengths) plan) (values_of plan lengths values offsets)
  planned_table = named_table H both types counts lengths values labels offsets two_shows two_whole

  -- the values of the join take no more room than those of both tables
  pub join_room : (plan : List ℕ) (c : Node) → join H a b ≡ ok c → Names no_face both plan (faces H c)
      → sum (map (cell_of lengths) plan) ≤ sum lengths
  join_room plan c e names =
      let light = subst (Light H bytes_of_face (λ hs ks. refl) a b) e (join_light H bytes_of_face (λ hs ks. refl) a b) in
      let all : lengths ≡ map bytes_of_face both =
      ext_get_or 0 lengths (map bytes_of_face both)
      (lengths_long H a b first types counts lengths values labels h
      ∙ sym (all_faces H a b first types counts lengths values labels h)
      ∙ sym (length-map both bytes_of_face))
      (λ i q.
      let low : i < length both =
      omega (
        arith,
        all_faces H a b first types counts lengths values labels h,
        lengths_long H a b first types counts lengths values labels h,
      ) in
      shown_bytes H _ _ _ _ _ _ (two_shows i low) (two_whole i low) ∙ sym (get_or-map bytes_of_face both i no_face)) in
      omega (
        arith,
        ap sum (named_bytes H both types counts lengths values labels offsets two_shows two_whole plan (faces H c) names),
        ap sum all,
        ap sum (map-append bytes_of_face (faces H a) (faces H b)),
        sum_append (map bytes_of_face (faces H a)) (map bytes_of_face (faces H b)),
      )

  -- it can be gathered
  pub join_gathering : (plan : List ℕ) (c : Node) → Names no_face both plan (faces H c) → length plan ≤ max_nodes
      → Gatherable plan types counts lengths values offsets
  join_gathering plan c names few =
      let ready = two_ready H a b first types counts lengths values labels h starts offsets g in
      record {
        few = few;
        in_range = subst (InRange plan) (all_faces H a b first types counts lengths values labels h) (names_in_range both plan (faces H c) names);
        placed = ready.placed;
      }
