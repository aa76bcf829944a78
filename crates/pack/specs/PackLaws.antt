-- The packer's tests, one after the other.
use Rattle.std.specs.Prelude.{ℕ, ◌+◌, ◌*◌, ◌/◌, ◌≤◌, ◌<◌, Bool, true, false, not, cond, List, [], ◌∷◌, ◌≡◌, refl, ltb, eqb, length}
use Rattle.std.proofs.Common.{◌∙◌, arith}
use Rattle.std.proofs.Math.Path.{sym, ap}
use borrow.Author.Tests.{lt-ltb, le-ltb, ltb-false, eq-eqb, ne_eqb}
use Rattle.trees.specs.Rules.{max_bytes}
use Rattle.lists.specs.Lists.{all}
use Rattle.trees.specs.Rows.{Entry, formed, Tag, Verdict, faulty, left, verdict}
use Rattle.outcomes.specs.Refusals.{accepted, too_long, no_nodes, not_one_tree, no_room, bad_table}
use Rattle.tables.specs.Tables.{Table, row_fits, first_bad, columns_fit, sum, Formed}
use Rattle.codec.specs.Writing.{slip_of}
use Rattle.tables.specs.Measure.{row_bits, rows_bits, table_bits}
use Rattle.codec.specs.MeasureLaws.{slip_bytes_measured, node_bits, dangling_bits, pair_bits}
use Rattle.codec.specs.ProperLaws.{table_formed}
use Rattle.codec.specs.TableLaws.{row_cases, form_cons}
use Rattle.engine.specs.Engine.{Judged, one_tree, root_label, told}
use Rattle.answers.specs.declared.Answer.{Answer}
use Rattle.answers.specs.Answers.{refused, taken}
use Rattle.slips.specs.Verdicts.{Refuses, verdict_refuses}
use Rattle.pack.specs.Pack.{rows_of, bad_row, table_fault, judged_as, answer_of, pack_of}
use Rattle.outcomes.specs.Outcome.{over, Leaves}

module _ (t : Table) where
  pub fault_columns : columns_fit t.types t.counts t.lengths ≡ false → record { number = bad_table; place = 0 } ≡ table_fault t
  unfolding table_fault
  fault_columns h = sym (rw h)

  module _ (p : columns_fit t.types t.counts t.lengths ≡ true) where
    pub fault_empty : length t.types ≡ 0 → record { number = no_nodes; place = 0 } ≡ table_fault t
    unfolding table_fault
    fault_empty h = sym (rw (p, eq-eqb (length t.types) 0 h))

    module _ (q : length t.types ≡ 0 → ⊥) where
      pub fault_row : bad_row t < length t.types → record { number = bad_table; place = bad_row t } ≡ table_fault t
      unfolding table_fault
      fault_row h = sym (rw (p, ne_eqb (length t.types) 0 q, lt-ltb (bad_row t) (length t.types) h))

      module _ (r : length t.types ≤ bad_row t) where
        pub fault_area : (length t.values ≡ sum t.lengths → ⊥) → record { number = bad_table; place = 0 } ≡ table_fault t
        unfolding table_fault
        fault_area h =
            sym
            (rw
            (p, ne_eqb (length t.types) 0 q, le-ltb (bad_row t) (length t.types) r, ne_eqb (length t.values) (sum t.lengths) h))

        pub fault_free : length t.values ≡ sum t.lengths → record { number = accepted; place = 0 } ≡ table_fault t
        unfolding table_fault
        fault_free h =
            sym
            (rw
            (p, ne_eqb (length t.types) 0 q, le-ltb (bad_row t) (length t.types) r, eq-eqb (length t.values) (sum t.lengths) h))

-- a row's bits hold its value
row_holds : (t c l : ℕ) → row_fits t c l ≡ true → 8 * l ≤ row_bits t c l
row_holds t c l f =
    row_cases t c l f
    (λ a b d g. omega (arith, node_bits t c l d))
    (λ a b d. omega (arith, dangling_bits t c l b a))
    (λ a b d g. omega (arith, pair_bits t c l d a))

rows_hold : (k : ℕ) (ts cs ls : List ℕ) → length cs ≡ length ts → length ls ≡ length ts → first_bad k ts cs ls ≡ k + length ts → 8 * sum ls ≤ rows_bits ts cs ls
unfolding sum rows_bits
rows_hold k [] cs [] a b f = omega arith
rows_hold k [] cs (l ∷ ls) a b f = absurd (omega arith)
rows_hold k (t ∷ ts) [] ls a b f = absurd (omega arith)
rows_hold k (t ∷ ts) (c ∷ cs) [] a b f = absurd (omega arith)
rows_hold k (t ∷ ts) (c ∷ cs) (l ∷ ls) a b f =
    let n : k < k + length (t ∷ ts) = omega arith in
    let row = form_cons k t c l ts cs ls (k + length (t ∷ ts)) n f in
    let on : first_bad (k + 1) ts cs ls ≡ k + 1 + length ts = row.1 ∙ omega arith in
    omega (arith, row_holds t c l row.0, rows_hold (k + 1) ts cs ls (omega arith) (omega arith) on)

-- the slip's length, measured; and its values are no longer
module _ (t : Table) (f : Formed t) where
  slip_long : (table_bits t.types t.counts t.lengths + 7) / 8 ≡ length (slip_of (rows_of t))
  slip_long =
      let filled : sum t.lengths ≤ length t.values = omega (arith, f.area) in
      sym (slip_bytes_measured t.types t.counts t.lengths t.values filled)

  pub values_few : length (slip_of (rows_of t)) ≤ max_bytes → sum t.lengths ≤ max_bytes
  unfolding table_bits
  values_few h =
      let bits = rows_hold 0 t.types t.counts t.lengths f.columns.counts_long f.columns.lengths_long (f.rows ∙ omega arith) in
      omega (arith, slip_long, bits)

-- the answer by what the engine tells
judged_by : List Entry → ℕ → Judged → Answer
judged_by es room j =
    cond (not (eqb j.number accepted)) (refused j.number j.place)
    (cond (not j.one) (refused not_one_tree 0)
    (cond (ltb room (length (slip_of es))) (refused no_room 0) (taken (length (slip_of es)) j.blocks j.label)))

judged_as_lem : (es : List Entry) (room : ℕ) (v : Verdict) → Refuses v → judged_by es room (told v) ≡ judged_as es room v
unfolding judged_by judged_as told
judged_as_lem es room (faulty k i) p = rw (ne_eqb k accepted p)
judged_as_lem es room (left st b) p = refl

module _ (H : List ℕ → List ℕ) (composed : List ℕ → Bool) (t : Table) (room : ℕ) where
  pub answer_faulty : ((table_fault t).number ≡ accepted → ⊥) → refused (table_fault t).number (table_fault t).place ≡ answer_of H composed t room
  unfolding answer_of
  answer_faulty h = sym (rw (ne_eqb (table_fault t).number accepted h))

  module _ (p : (table_fault t).number ≡ accepted) where
    pub answer_long : max_bytes < length (slip_of (rows_of t)) → refused too_long 0 ≡ answer_of H composed t room
    unfolding answer_of
    answer_long h = sym (rw (eq-eqb (table_fault t).number accepted p, lt-ltb max_bytes (length (slip_of (rows_of t))) h))

    module _ (q : length (slip_of (rows_of t)) ≤ max_bytes) {j : Judged} (e : j ≡ told (verdict H composed (rows_of t))) where
      by : judged_by (rows_of t) room j ≡ answer_of H composed t room
      unfolding answer_of
      by =
          ap (judged_by (rows_of t) room) e
          ∙ judged_as_lem (rows_of t) room (verdict H composed (rows_of t)) (verdict_refuses H composed (rows_of t))
          ∙ sym (rw (eq-eqb (table_fault t).number accepted p, le-ltb max_bytes (length (slip_of (rows_of t))) q))

      pub answer_entry : (j.number ≡ accepted → ⊥) → refused j.number j.place ≡ answer_of H composed t room
      unfolding judged_by
      answer_entry h = sym (rw (ne_eqb j.number accepted h)) ∙ by

      module _ (r : j.number ≡ accepted) where
        pub answer_many : j.one ≡ false → refused not_one_tree 0 ≡ answer_of H composed t room
        unfolding judged_by
        answer_many h = sym (rw (eq-eqb j.number accepted r, h)) ∙ by

        module _ (s : j.one ≡ true) where
          pub answer_roomless : room < length (slip_of (rows_of t)) → refused no_room 0 ≡ answer_of H composed t room
          unfolding judged_by
          answer_roomless h = sym (rw (eq-eqb j.number accepted r, s, lt-ltb room (length (slip_of (rows_of t))) h)) ∙ by

          pub answer_taken : length (slip_of (rows_of t)) ≤ room
              → taken (length (slip_of (rows_of t))) j.blocks j.label ≡ answer_of H composed t room
          unfolding judged_by
          answer_taken h = sym (rw (eq-eqb j.number accepted r, s, le-ltb room (length (slip_of (rows_of t))) h)) ∙ by

-- the entries of a table of the form are of the form
pub rows_of_formed : (t : Table) → Formed t → all formed (rows_of t) ≡ true
rows_of_formed t f = table_formed 0 t.types t.counts t.lengths t.values (f.rows ∙ omega arith) (omega (arith, f.area))

-- equal answers have one number
pub number_of : {a b : Answer} {k : ℕ} → a ≡ b → a.number ≡ k → b.number ≡ k
number_of is e = sym (ap (λ (x : Answer). x.number) is) ∙ e

-- entries that are not refused are 9, 11 or taken
pub judged_cases : {C : Type 0} (es : List Entry) (room : ℕ) (st : List Tag) (b : ℕ)
    → (one_tree st ≡ false → judged_as es room (left st b) ≡ refused not_one_tree 0 → C)
    → (judged_as es room (left st b) ≡ refused no_room 0 → C)
    → (one_tree st ≡ true → length (slip_of es) ≤ room → judged_as es room (left st b) ≡ taken (length (slip_of es)) b (root_label st) → C)
    → C
unfolding judged_as
judged_cases {C} es room st b f g h = go (one_tree st) refl (ltb room (length (slip_of es))) refl
  where
    go : (one : Bool) → one_tree st ≡ one → (short : Bool) → ltb room (length (slip_of es)) ≡ short → C
    go false e short l = f e (rw e)
    go true e true l = g (rw (e, l))
    go true e false l = h e (ltb-false room (length (slip_of es)) l) (rw (e, l))

module _ (H : List ℕ → List ℕ) (composed : List ℕ → Bool) (t : Table) (out : List ℕ) {a : Answer} (e : a ≡ answer_of H composed t (length out)) where
  pub pack_refused : (a.number ≡ accepted → ⊥) → Leaves (pack_of H composed t out) a out
  unfolding pack_of
  pack_refused h =
      let n = ap (λ (x : Answer). x.number) e in
      record { answered = e; written = sym (rw (ne_eqb (answer_of H composed t (length out)).number accepted (λ q. h (n ∙ q)))) }

  pub pack_taken : {left : List ℕ} → a.number ≡ accepted → left ≡ over (slip_of (rows_of t)) out → Leaves (pack_of H composed t out) a left
  unfolding pack_of
  pack_taken h w =
      let n = ap (λ (x : Answer). x.number) e in
      record { answered = e; written = w ∙ sym (rw (eq-eqb (answer_of H composed t (length out)).number accepted (sym n ∙ h))) }
