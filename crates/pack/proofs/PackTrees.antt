-- The packer accepts exactly the tables of well-formed trees, each of one tree, with that tree's label and blocks.
use Rattle.std.specs.Prelude.{ℕ, zero, suc, ◌+◌, ◌≤◌, ◌<◌, Bool, false, cond, List, [], ◌∷◌, map, ◌≡◌, ltb, leb, length}
use Rattle.std.proofs.Math.Bool.{true}
use Rattle.std.proofs.Common.{true≢false, sym, ap₂, ◌∙◌, subst, arith, length-append, take_at, drop_at}
use Rattle.std.proofs.Math.Path.{refl, ap}
use borrow.Author.Tests.{eq-eqb, le-ltb, le-leb, lt-leb, leb-true, eqb-true, ltb-true, ltb-false}
use Rattle.std.proofs.lemmas.List.{length-map}
use Rattle.lists.specs.TestsLaws.{and_left, and_right}
use Rattle.lists.specs.Lists.{all}
use Rattle.trees.specs.Nodes.{Node, type_of, size, label, blocks}
use Rattle.trees.proofs.NodesLaws.{some_size}
use Rattle.trees.specs.Rules.{max_type, max_value, max_children, label_bytes, max_nodes, max_bytes, WellFormed}
use Rattle.trees.specs.Rows.{Entry, node, tip, formed, rows, Tag, Verdict, faulty, left, verdict}
use Rattle.trees.specs.RowsLaws.{length_rows, rows_inj}
use Rattle.trees.proofs.StackLaws.{complete_tree, rows_formed}
use Rattle.trees.proofs.StackSound.{sound_one, built_well_formed}
use Rattle.outcomes.specs.Refusals.{accepted, too_long, no_room, bad_table}
use Rattle.tables.specs.Tables.{Table, entry_of, entries, row_fits, first_bad, columns_fit, sum, Formed}
use Rattle.tables.specs.TablesLaws.{columns_told, length_entries}
use Rattle.codec.specs.Writing.{slip_of}
use Rattle.codec.specs.TableLaws.{fits_internal, fits_dangling, fits_pair}
use Rattle.engine.specs.Engine.{one_tree}
use Rattle.answers.specs.declared.Answer.{Answer}
use Rattle.answers.specs.Answers.{refused, taken}
use Rattle.outcomes.specs.Outcome.{over}
use Rattle.slips.specs.Verdicts.{Refuses, verdict_refuses}
use Rattle.tables.specs.Cells.{type_cell, count_cell, length_cell, value_cell, values_of}
use Rattle.unpack.specs.Unpack.{table_of}
use Rattle.unpack.specs.CellsLaws.{table_back}
use Rattle.pack.specs.Pack.{rows_of, bad_row, table_fault, judged_as, answer_of, pack_of}
use Rattle.pack.specs.PackLaws.{fault_columns, fault_free, rows_of_formed, judged_cases, number_of}
use Rattle.pack.proofs.FaultLaws.{answer_cases}

-- the row of a formed entry has the form, and is that entry's
cells_fit : (e : Entry) → formed e ≡ true → row_fits (type_cell e) (count_cell e) (length_cell e) ≡ true
cells_fit (node k) f = fits_internal k (leb-true 1 k (and_left (leb 1 k) (leb k max_children) f)) (leb-true k max_children (and_right (leb 1 k) (leb k max_children) f))
cells_fit (tip zero v) f = subst (λ (n : ℕ). row_fits 0 0 n ≡ true) (sym (eqb-true (length v) label_bytes f)) fits_dangling
cells_fit (tip (suc t) v) f =
    fits_pair (suc t) (length v) (omega arith) (leb-true (suc t) max_type (and_left (leb (suc t) max_type) (leb (length v) max_value) f))
    (leb-true (length v) max_value (and_right (leb (suc t) max_type) (leb (length v) max_value) f))

cells_entry : (e : Entry) → formed e ≡ true → entry_of (type_cell e) (count_cell e) (value_cell e) ≡ e
cells_entry (node zero) f = absurd (omega (arith, leb-true 1 0 (and_left (leb 1 0) (leb 0 max_children) f)))
cells_entry (node (suc k)) f = refl
cells_entry (tip t v) f = refl

pub entries_again : (es : List Entry) → all formed es ≡ true → rows_of (table_of es) ≡ es
entries_again [] p = refl
entries_again (e ∷ es) p =
    let v : List ℕ = value_cell e in
    ap₂ (λ (x : List ℕ) (y : List ℕ). entry_of (type_cell e) (count_cell e) x ∷ entries (map type_cell es) (map count_cell es) (map length_cell es) y)
    (take_at v (values_of es) (length v) refl) (drop_at v (values_of es) (length v) refl)
    ∙ ap₂ (λ (x : Entry) (xs : List Entry). x ∷ xs) (cells_entry e (and_left (formed e) (all formed es) p)) (entries_again es (and_right (formed e) (all formed es) p))

rows_fit : (k : ℕ) (es : List Entry) → all formed es ≡ true → first_bad k (map type_cell es) (map count_cell es) (map length_cell es) ≡ k + length es
unfolding first_bad
rows_fit k [] p = omega arith
rows_fit k (e ∷ es) p =
    ap (λ (b : Bool). cond b (first_bad (k + 1) (map type_cell es) (map count_cell es) (map length_cell es)) k) (cells_fit e (and_left (formed e) (all formed es) p))
    ∙ rows_fit (k + 1) es (and_right (formed e) (all formed es) p)
    ∙ omega arith

values_sum : (es : List Entry) → length (values_of es) ≡ sum (map length_cell es)
unfolding sum
values_sum [] = refl
values_sum (e ∷ es) = length-append (value_cell e) (values_of es) ∙ ap (λ (n : ℕ). length (value_cell e) + n) (values_sum es)

-- the columns of entries fit where there are no more than 1,023
columns_of : (es : List Entry) → columns_fit (map type_cell es) (map count_cell es) (map length_cell es) ≡ leb (length es) max_nodes
unfolding columns_fit
columns_of es =
    rw (
      length-map es type_cell,
      length-map es count_cell,
      length-map es length_cell,
      eq-eqb (length es) (length es) refl,
    )

-- the table of entries of the form: 16 where they are too many, else not refused
table_full : (es : List Entry) → max_nodes < length es → table_fault (table_of es) ≡ record { number = bad_table; place = 0 }
table_full es many = sym (fault_columns (table_of es) (columns_of es ∙ lt-leb (length es) max_nodes many))

table_free : (es : List Entry) → all formed es ≡ true → 1 ≤ length es → length es ≤ max_nodes → table_fault (table_of es) ≡ record { number = accepted; place = 0 }
table_free es p some few =
    let ts : length (map type_cell es) ≡ length es = length-map es type_cell in
    let bad : length (map type_cell es) ≤ bad_row (table_of es) = omega (arith, rows_fit 0 es p) in
    sym (fault_free (table_of es) (columns_of es ∙ le-leb (length es) max_nodes few) (λ e. omega arith) bad (values_sum es))

-- so it has the form
pub table_of_formed : (es : List Entry) → all formed es ≡ true → length es ≤ max_nodes → Formed (table_of es)
table_of_formed es p few =
    record {
      columns = columns_told (map type_cell es) (map count_cell es) (map length_cell es) (columns_of es ∙ le-leb (length es) max_nodes few);
      rows = rows_fit 0 es p ∙ omega (arith, length-map es type_cell);
      area = values_sum es;
    }

-- one tag of type 0 is left, and the slip has room
record OneLeft (es : List Entry) (room : ℕ) (v : Verdict) : Type 0 where
  root : Tag
  compressed : ℕ
  is : v ≡ left (root ∷ []) compressed
  kind : root.kind ≡ 0
  fits : length (slip_of es) ≤ room

one_left : (es : List Entry) (room : ℕ) (st : List Tag) (b : ℕ) → one_tree st ≡ true → length (slip_of es) ≤ room → OneLeft es room (left st b)
one_left es room [] b e f = absurd (true≢false (sym e))
one_left es room (g ∷ []) b e f = record { root = g; compressed = b; is = refl; kind = eqb-true g.kind 0 e; fits = f }
one_left es room (g ∷ (h ∷ gs)) b e f = absurd (true≢false (sym e))

judged_told : (es : List Entry) (room : ℕ) (v : Verdict) → Refuses v → (judged_as es room v).number ≡ accepted → OneLeft es room v
unfolding judged_as
judged_told es room (faulty k i) p e = absurd (p e)
judged_told es room (left st b) p e =
    judged_cases es room st b
    (λ o is. absurd (omega (arith, number_of is e)))
    (λ is. absurd (omega (arith, number_of is e)))
    (λ o fits is. one_left es room st b o fits)

module _ (H : List ℕ → List ℕ) (composed : List ℕ → Bool) where
  -- t is the table of the well-formed tree n, within a slip's limits
  pub record TableOf (t : Table) (n : Node) : Type 0 where
    pub well : WellFormed H composed n
    pub is : t ≡ table_of (rows n)
    pub few : size n ≤ max_nodes
    pub long : length (slip_of (rows n)) ≤ max_bytes

  -- its rows are the tree's
  pub table_rows : (t : Table) (n : Node) → TableOf t n → rows_of t ≡ rows n
  table_rows t n x = ap rows_of x.is ∙ entries_again (rows n) (rows_formed H composed n x.well.fit.rules)

  -- the answer to the table of a well-formed tree: 16 over 1,023 nodes, 1 over 32,768 bytes, 11 without room, else the tree's blocks and label
  unfoldable pub tree_answer : Node → ℕ → Answer
  tree_answer n room =
      cond (ltb max_nodes (size n)) (refused bad_table 0)
      (cond (ltb max_bytes (length (slip_of (rows n)))) (refused too_long 0)
      (cond (ltb room (length (slip_of (rows n)))) (refused no_room 0) (taken (length (slip_of (rows n))) (blocks H n) (label H n))))

  pub pack_tree : (n : Node) (room : ℕ) → WellFormed H composed n → answer_of H composed (table_of (rows n)) room ≡ tree_answer n room
  unfolding answer_of judged_as tree_answer
  pack_tree n room w = go (ltb max_nodes (size n)) refl
    where
      form : all formed (rows n) ≡ true
      form = rows_formed H composed n w.fit.rules

      go : (b : Bool) → ltb max_nodes (size n) ≡ b → answer_of H composed (table_of (rows n)) room ≡ tree_answer n room
      go true e = rw (e, table_full (rows n) (omega (arith, length_rows n, ltb-true max_nodes (size n) e)))
      go false e =
          let some : 1 ≤ length (rows n) = omega (arith, length_rows n, some_size n) in
          let few : length (rows n) ≤ max_nodes = omega (arith, length_rows n, ltb-false max_nodes (size n) e) in
          rw (
            e,
            table_free (rows n) form some few,
            entries_again (rows n) form,
            complete_tree H composed n w,
            eq-eqb (type_of n) 0 w.root,
          )

  -- it is accepted where its slip has room, with the tree's blocks and label
  pub pack_complete : (t : Table) (n : Node) (room : ℕ) → TableOf t n → length (slip_of (rows n)) ≤ room
      → answer_of H composed t room ≡ taken (length (slip_of (rows n))) (blocks H n) (label H n)
  unfolding tree_answer
  pack_complete t n room x fits =
      ap (λ (y : Table). answer_of H composed y room) x.is
      ∙ pack_tree n room x.well
      ∙ rw (
        le-ltb max_nodes (size n) x.few,
        le-ltb max_bytes (length (slip_of (rows n))) x.long,
        le-ltb room (length (slip_of (rows n))) fits,
      )

  -- the slip is what is written
  pub pack_outcome : (t : Table) (n : Node) (out : List ℕ) → TableOf t n → length (slip_of (rows n)) ≤ length out
      → pack_of H composed t out ≡ record { answer = taken (length (slip_of (rows n))) (blocks H n) (label H n); left = over (slip_of (rows n)) out }
  unfolding pack_of
  pack_outcome t n out x fits = rw (pack_complete t n (length out) x fits, table_rows t n x)

  -- and only those: an accepted table is that of a well-formed tree, and its slip has room
  pub pack_sound : (t : Table) (room : ℕ) → (answer_of H composed t room).number ≡ accepted
      → (n : Node) × TableOf t n × (length (slip_of (rows n)) ≤ room)
  pack_sound t room e =
      answer_cases H composed t room
      (λ bad is. absurd (bad (number_of is e)))
      (λ f is. absurd (omega (arith, number_of is e)))
      (λ f short is.
      let o = judged_told (rows_of t) room (verdict H composed (rows_of t)) (verdict_refuses H composed (rows_of t)) (number_of is e) in
      let built = sound_one H composed (rows_of t) o.root o.compressed (rows_of_formed t f) o.is in
      let exact : rows_of t ≡ rows built.tree = sym built.exact in
      let long : length (rows_of t) ≡ length t.types =
      length_entries t.types t.counts t.lengths t.values f.columns.counts_long f.columns.lengths_long in (
        built.tree,
        record {
          well = built_well_formed H composed (rows_of t) o.root o.compressed built o.kind;
          is =
              sym (table_back t.types t.counts t.lengths t.values f.columns.counts_long f.columns.lengths_long f.rows f.area)
              ∙ ap table_of exact;
          few = omega (arith, length_rows built.tree, ap length exact, long, f.columns.few);
          long = omega (arith, short, ap (λ (es : List Entry). length (slip_of es)) exact);
        },
        omega (arith, o.fits, ap (λ (es : List Entry). length (slip_of es)) exact),
      ))

  -- each of exactly one tree
  pub pack_unique : (t : Table) (n m : Node) → TableOf t n → TableOf t m → n ≡ m
  pack_unique t n m x y = rows_inj n m (sym (table_rows t n x) ∙ table_rows t m y)
