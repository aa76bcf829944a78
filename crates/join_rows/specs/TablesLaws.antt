-- The rows of two tables end to end show the faces of their trees.
use Rattle.std.specs.Prelude.{◌≡◌, refl, Bool, true, false, cond, List, [], ◌∷◌, ℕ, zero, suc, ◌+◌, ◌*◌, ◌<◌, eqb, length, take, drop, get_or}
use Rattle.std.proofs.Common.{sym, ap, ◌∙◌, arith, drop-drop, eqb-true, ne_eqb}
use Rattle.std.proofs.Math.Bool.{or-false, and-false}
use Rattle.std.proofs.lemmas.Bool.{false≢true}
use Rattle.std.proofs.Math.ListN.{get_or-map}
use Rattle.trees.specs.Nodes.{Node, size, Head, prelabel}
use Rattle.trees.specs.Rules.{label_bytes}
use Rattle.trees.specs.Rows.{Entry, tip}
use Rattle.trees.specs.RowsLaws.{length_rows}
use Rattle.tables.specs.Tables.{entry_of, entries, row_fits, first_bad, sum}
use Rattle.tables.specs.TablesLaws.{length_entries}
use Rattle.tables.specs.Records.{Holds}
use Rattle.join_rows.specs.Faces.{Face, of_leaf, of_inner, no_face, entry_of_face, count_of_face, bytes_of_face, head_of_face, faces}
use Rattle.join_rows.specs.FacesLaws.{rows_faces, labels_faces}

-- an entry that none of the tables has
abbrev no_entry : Entry
no_entry = tip 0 []

-- a row of the table
pub entry_at : (ts cs ls vs : List ℕ) (k : ℕ) → k < length ts → length cs ≡ length ts → length ls ≡ length ts
    → get_or (entries ts cs ls vs) k no_entry ≡ entry_of (get_or ts k 0) (get_or cs k 0) (take (get_or ls k 0) (drop (sum (take k ls)) vs))
unfolding sum
entry_at [] cs ls vs k h d e = absurd (omega arith)
entry_at (t ∷ ts) [] ls vs k h d e = absurd (omega arith)
entry_at (t ∷ ts) (c ∷ cs) [] vs k h d e = absurd (omega arith)
entry_at (t ∷ ts) (c ∷ cs) (l ∷ ls) vs zero h d e = refl
entry_at (t ∷ ts) (c ∷ cs) (l ∷ ls) vs (suc k) h d e =
    entry_at ts cs ls (drop l vs) k (omega arith) (omega arith) (omega arith)
    ∙ ap (λ (v : List ℕ). entry_of (get_or ts k 0) (get_or cs k 0) (take (get_or ls k 0) v)) (drop-drop (sum (take k ls)) l vs)

-- where no row is bad, each has the form
pub row_formed : (i : ℕ) (ts cs ls : List ℕ) → first_bad i ts cs ls ≡ i + length ts → length cs ≡ length ts → length ls ≡ length ts
    → (k : ℕ) → k < length ts → row_fits (get_or ts k 0) (get_or cs k 0) (get_or ls k 0) ≡ true
unfolding first_bad
row_formed i [] cs ls e d f k h = absurd (omega arith)
row_formed i (t ∷ ts) [] ls e d f k h = absurd (omega arith)
row_formed i (t ∷ ts) (c ∷ cs) [] e d f k h = absurd (omega arith)
row_formed i (t ∷ ts) (c ∷ cs) (l ∷ ls) e d f k h =
    go (row_fits t c l) refl e (λ q m o. row_formed (i + 1) ts cs ls q (omega arith) (omega arith) m o) k h
  where
    go : (b : Bool) → row_fits t c l ≡ b → cond b (first_bad (i + 1) ts cs ls) i ≡ i + suc (length ts)
        → (first_bad (i + 1) ts cs ls ≡ i + 1 + length ts → (m : ℕ) → m < length ts → row_fits (get_or ts m 0) (get_or cs m 0) (get_or ls m 0) ≡ true)
        → (k : ℕ) → k < suc (length ts) → row_fits (get_or (t ∷ ts) k 0) (get_or (c ∷ cs) k 0) (get_or (l ∷ ls) k 0) ≡ true
    go true q e g zero h = q
    go true q e g (suc k) h = g (omega arith) k (omega arith)
    go false q e g k h = absurd (omega arith)

-- a row shows a face: the same entry, and where it is internal the same label
pub record Shows (H : List ℕ → List ℕ) (t c l : ℕ) (v text : List ℕ) (f : Face) : Type 0 where
  pub entry : entry_of t c v ≡ entry_of_face f
  pub form : row_fits t c l ≡ true
  pub label : 0 < c → text ≡ (head_of_face H f).text

-- the same row, read elsewhere
pub shows_as : {H : List ℕ → List ℕ} {t u c d l m : ℕ} {v w text words : List ℕ} {f g : Face} → t ≡ u → c ≡ d → l ≡ m → v ≡ w
    → text ≡ words → f ≡ g → Shows H t c l v text f → Shows H u d m w words g
shows_as {H} t c l v x f s =
    record {
      entry = (λ i. entry_of (sym t i) (sym c i) (sym v i)) ∙ s.entry ∙ ap entry_of_face f;
      form = (λ i. row_fits (sym t i) (sym c i) (sym l i)) ∙ s.form;
      label = λ p. sym x ∙ s.label (omega (arith, c)) ∙ ap (λ e. (head_of_face H e).text) f;
    }

-- the rows of a table show the faces of its tree
pub table_shows : (H : List ℕ → List ℕ) (n : Node) (ts cs ls vs labels : List ℕ) → Holds H n ts cs ls vs labels
    → (k : ℕ) → k < length ts
    → Shows H (get_or ts k 0) (get_or cs k 0) (get_or ls k 0) (take (get_or ls k 0) (drop (sum (take k ls)) vs))
    (take label_bytes (drop (label_bytes * k) labels)) (get_or (faces H n) k no_face)
table_shows H n ts cs ls vs labels t k h =
    record {
      entry =
          sym (entry_at ts cs ls vs k h t.table.form.columns.counts_long t.table.form.columns.lengths_long)
          ∙ ap (λ (es : List Entry). get_or es k no_entry) (t.table.rows_are ∙ sym (rows_faces H n))
          ∙ get_or-map entry_of_face (faces H n) k no_face;
      form = row_formed 0 ts cs ls (t.table.form.rows ∙ omega arith) t.table.form.columns.counts_long t.table.form.columns.lengths_long k h;
      label = λ p.
          t.labels_are k h p
          ∙ ap (λ (ls : List (List ℕ)). get_or ls k []) (sym (labels_faces H n))
          ∙ get_or-map (λ f. (head_of_face H f).text) (faces H n) k no_face;
    }

pub table_long : (H : List ℕ → List ℕ) (n : Node) (ts cs ls vs labels : List ℕ) → Holds H n ts cs ls vs labels → length ts ≡ size n
table_long H n ts cs ls vs labels t =
    sym (length_entries ts cs ls vs t.table.form.columns.counts_long t.table.form.columns.lengths_long) ∙ ap length t.table.rows_are ∙ length_rows n

-- a row that names children has type 0 and no bytes
inner_typed : (t c l : ℕ) → row_fits t c l ≡ true → 0 < c → (t ≡ 0) × (l ≡ 0)
unfolding row_fits
inner_typed t c l h p = (typed (eqb t 0) refl, bare (eqb l 0) refl)
  where
    typed : (b : Bool) → eqb t 0 ≡ b → t ≡ 0
    typed true e = eqb-true t 0 e
    typed false e = absurd (false≢true (sym (simp (e, ne_eqb c 0 (λ q. omega arith), or-false, and-false)) ∙ h))

    bare : (b : Bool) → eqb l 0 ≡ b → l ≡ 0
    bare true e = eqb-true l 0 e
    bare false e = absurd (false≢true (sym (simp (e, ne_eqb c 0 (λ q. omega arith), or-false, and-false)) ∙ h))

-- what a row shows, by the face
module _ (H : List ℕ → List ℕ) where
  pub shown_count : (t c l : ℕ) (v text : List ℕ) (f : Face) → Shows H t c l v text f → c ≡ count_of_face f
  shown_count t zero l v text (of_leaf u w) s = refl
  shown_count t zero l v text (of_inner hs) s = absurd (let e = s.entry in let z : ◌≡◌ {A = ℕ} 0 1 = cc in omega arith)
  shown_count t (suc c) l v text (of_leaf u w) s = absurd (let e = s.entry in let z : ◌≡◌ {A = ℕ} 0 1 = cc in omega arith)
  shown_count t (suc c) l v text (of_inner hs) s = let e = s.entry in cc

  pub shown_full : (t c l : ℕ) (v text : List ℕ) (hs : List Head) → Shows H t c l v text (of_inner hs) → 0 < length hs
  shown_full t zero l v text hs s = absurd (let e = s.entry in let z : ◌≡◌ {A = ℕ} 0 1 = cc in omega arith)
  shown_full t (suc c) l v text hs s = let e : suc c ≡ length hs = shown_count t (suc c) l v text (of_inner hs) s in omega arith

  pub shown_head : (t c l : ℕ) (v text : List ℕ) (f : Face) → Shows H t c l v text f
      → record { kind = t; text = cond (eqb c 0) v text } ≡ head_of_face H f
  shown_head t zero l v text (of_leaf u w) s =
      let e = s.entry in
      let kinds : t ≡ u = cc in
      let texts : v ≡ w = cc in
      λ i. record { kind = kinds i; text = texts i }
  shown_head t zero l v text (of_inner hs) s = absurd (let e = s.entry in let z : ◌≡◌ {A = ℕ} 0 1 = cc in omega arith)
  shown_head t (suc c) l v text (of_leaf u w) s = absurd (let e = s.entry in let z : ◌≡◌ {A = ℕ} 0 1 = cc in omega arith)
  shown_head t (suc c) l v text (of_inner hs) s =
      let kinds : t ≡ 0 = (inner_typed t (suc c) l s.form (omega arith)).0 in
      let texts : cond (eqb (suc c) 0) v text ≡ H (prelabel hs) = rw (ne_eqb (suc c) 0 (λ q. omega arith)) (s.label (omega arith)) in
      λ i. record { kind = kinds i; text = texts i }

  pub shown_bytes : (t c l : ℕ) (v text : List ℕ) (f : Face) → Shows H t c l v text f → length v ≡ l → l ≡ bytes_of_face f
  shown_bytes t zero l v text (of_leaf u w) s q = let e = s.entry in let texts : v ≡ w = cc in sym q ∙ ap length texts
  shown_bytes t zero l v text (of_inner hs) s q = absurd (let e = s.entry in let z : ◌≡◌ {A = ℕ} 0 1 = cc in omega arith)
  shown_bytes t (suc c) l v text (of_leaf u w) s q = absurd (let e = s.entry in let z : ◌≡◌ {A = ℕ} 0 1 = cc in omega arith)
  shown_bytes t (suc c) l v text (of_inner hs) s q = (inner_typed t (suc c) l s.form (omega arith)).1
