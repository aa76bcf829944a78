-- Two slips' tables in one set of columns.
use Prim.Native.Nat.{ℕ, ◌+◌, ◌*◌, ◌≤◌, ◌<◌}
use mathlib.Core.List.{List}
use mathlib.Core.Path.{◌≡◌, sym, ap, ◌∙◌}
use native.Mathlib.Omega.{arith}
use lib.ListN.{length, take, drop, length-take}
use lib.Seq.{length-take-le, take-take}
use Rattle.lists.specs.PartsLaws.{drop_take}
use Rattle.trees.specs.Nodes.{Node, label}
use Rattle.trees.specs.Rules.{label_bytes}
use Rattle.outcomes.specs.Refusals.{accepted}
use Rattle.tables.specs.Records.{Holds}
use Rattle.tables.specs.Tables.{entries, sum, FormedIn}
use Rattle.sha256.specs.Sha256 as Sha256
use Rattle.join_rows.specs.Plans.{TwoTables}
use Rattle.answers.specs.declared.Answer.{Answer}
use Rattle.answers.specs.Answers.{answer_of}
use Rattle.slips.specs.declared.open.Opened.{Opened}
use Rattle.slips.specs.Opening.{OpenGives}
use Rattle.slips.specs.SlipTree.{slip_tree}
use Rattle.slips.specs.Holding.{HoldsTree}
use Rattle.slips.specs.HoldingLaws.{entries_part, holds_tree}
use Rattle.both_slips.specs.Clauses.{Areas, areas, BehindGives, Tables}

-- lists with one beginning
module _ (n : ℕ) (x y : List ℕ) (e : take n x ≡ take n y) where
  front_part : (k : ℕ) → k ≤ n → take k x ≡ take k y
  front_part k h = sym (take-take k n x h) ∙ ap (take k) e ∙ take-take k n y h

  front_long : n ≤ length y → n ≤ length x
  front_long h = omega (arith, length-take n x, ap length e, length-take-le n y h)

-- a tree is held where the areas begin alike
holds_kept : (H : List ℕ → List ℕ) (n : Node) (ts cs ls vs bs ws zs : List ℕ) → Holds H n ts cs ls vs bs
    → take (sum ls) ws ≡ take (sum ls) vs
    → take (label_bytes * length ts) zs ≡ take (label_bytes * length ts) bs
    → Holds H n ts cs ls ws zs
holds_kept H n ts cs ls vs bs ws zs h v b =
    record {
      table =
          record {
            form = record { columns = form.columns; rows = form.rows; area = area };
            rows_are = sym (entries_part ts cs ls ws area) ∙ ap (entries ts cs ls) v ∙ entries_part ts cs ls vs form.area ∙ h.table.rows_are;
          };
      labels_room = front_long (label_bytes * length ts) zs bs b h.labels_room;
      labels_are = λ i q inner. label_kept i q ∙ h.labels_are i q inner;
    }
  where
    form : FormedIn ts cs ls vs
    form = h.table.form

    area : sum ls ≤ length ws
    area = front_long (sum ls) ws vs v form.area

    label_kept : (i : ℕ) → i < length ts → take label_bytes (drop (label_bytes * i) zs) ≡ take label_bytes (drop (label_bytes * i) bs)
    label_kept i q =
        sym (drop_take (label_bytes * i) label_bytes zs)
        ∙ ap (drop (label_bytes * i)) (front_part (label_bytes * length ts) zs bs b (label_bytes * i + label_bytes) (omega (arith, q)))
        ∙ drop_take (label_bytes * i) label_bytes bs

-- the second tree's columns stand behind the first's
module _ {s u : List ℕ} {a b : Opened} {types counts lengths area values labels : List ℕ} {y : Areas}
    (h : HoldsTree s a.rows types counts lengths area labels) (o : OpenGives s a types counts lengths area labels)
    (v : take a.used values ≡ take a.used area) (k : BehindGives u a.rows a.used b (areas types counts lengths values labels) y)
    (f : (answer_of b.answer).number ≡ accepted) where
  second : HoldsTree u b.rows (drop a.rows y.types) (drop a.rows y.counts) (drop a.rows y.lengths) (drop a.used y.values)
      (drop (label_bytes * a.rows) y.labels)
  second = holds_tree k.opens k.rooms f

  cut : (x z : List ℕ) → take a.rows z ≡ take a.rows x → take a.rows (take (a.rows + b.rows) z) ≡ take a.rows x
  cut x z w = take-take a.rows (a.rows + b.rows) z (omega arith) ∙ w

  few : length (take a.rows types) ≤ a.rows
  few = omega (arith, length-take a.rows types)

  used : sum (take a.rows (take (a.rows + b.rows) y.lengths)) ≡ a.used
  used = ap sum (cut lengths y.lengths k.lengths_kept) ∙ sym o.used

  one : Holds Sha256.label (slip_tree s) (take a.rows types) (take a.rows counts) (take a.rows lengths) y.values y.labels
  one =
      holds_kept Sha256.label (slip_tree s) (take a.rows types) (take a.rows counts) (take a.rows lengths) area labels y.values y.labels
      h.holds (front_part a.used y.values area (k.values_kept ∙ v) (sum (take a.rows lengths)) (omega (arith, o.used)))
      (front_part (label_bytes * a.rows) y.labels labels k.labels_kept (label_bytes * length (take a.rows types)) (omega (arith, few)))

  two_held :
      TwoTables Sha256.label (slip_tree s) (slip_tree u) a.rows (take (a.rows + b.rows) y.types) (take (a.rows + b.rows) y.counts)
      (take (a.rows + b.rows) y.lengths) y.values y.labels
  two_held =
      record {
        one = rw (cut types y.types k.types_kept, cut counts y.counts k.counts_kept, cut lengths y.lengths k.lengths_kept) one;
        two =
            rw (drop_take a.rows b.rows y.types, drop_take a.rows b.rows y.counts, drop_take a.rows b.rows y.lengths, used)
            second.holds;
      }

  -- the tables of two accepted slips with one root label
  pub tables_held : {r : Answer} → (answer_of a.answer).label ≡ (answer_of b.answer).label → r ≡ answer_of a.answer → a.rows + b.rows ≤ length y.types
      → a.rows + b.rows ≤ length y.counts → a.rows + b.rows ≤ length y.lengths
      → Tables s u (record { answer = r; first = a.rows; rows = a.rows + b.rows }) y.types y.counts y.lengths y.values y.labels
  tables_held l g t c n =
      let x = h.reads_as in
      let z = second.reads_as in
      let root : (answer_of a.answer).label ≡ label Sha256.label (slip_tree s) = ap (λ (q : Answer). q.label) (o.answer ∙ x.answer) in
      let root2 : (answer_of b.answer).label ≡ label Sha256.label (slip_tree u) = ap (λ (q : Answer). q.label) (k.opens.answer ∙ z.answer) in
      record {
        types_room = t;
        counts_room = c;
        lengths_room = n;
        alike = record { types = x.well.root ∙ sym z.well.root; labels = sym root ∙ l ∙ root2 };
        labelled = sym root ∙ ap (λ (q : Answer). q.label) (sym g);
        two = two_held;
      }
