-- An accepted slip that was opened: the areas hold its tree.
use Rattle.std.specs.Prelude.{ℕ, ◌+◌, ◌*◌, ◌≤◌, List, [], ◌∷◌, ◌≡◌, refl, length, take, drop}
use Rattle.std.proofs.Common.{sym, ap, ap₂, ◌∙◌, subst, arith, length-drop, length-take-le, take-take, take-add, drop_at}
use Rattle.trees.specs.Nodes.{size}
use Rattle.trees.specs.Rules.{label_bytes, max_nodes}
use Rattle.trees.specs.Rows.{Entry, rows}
use Rattle.trees.specs.RowsLaws.{length_rows}
use Rattle.trees.specs.RowLabelsLaws.{length_labels}
use Rattle.outcomes.specs.Refusals.{accepted}
use Rattle.tables.specs.Tables.{entry_of, entries, sum, Columns}
use Rattle.engine.specs.Engine.{RowsLabelled}
use Rattle.sha256.specs.Sha256 as Sha256
use Rattle.titles.specs.Compose.{composed_text}
use Rattle.answers.specs.declared.Answer.{Answer}
use Rattle.answers.specs.Answers.{answer_of}
use Rattle.slips.specs.declared.open.Opened.{Opened}
use Rattle.slips.specs.Check.{count_of}
use Rattle.slips.specs.Opening.{OpenGives}
use Rattle.slips.specs.RowLabelLaws.{labelled_tree}
use Rattle.slips.specs.SlipTree.{slip_tree}
use Rattle.slips.specs.SlipTreeLaws.{ReadsAs, body_tree}
use Rattle.slips.specs.Holding.{HoldsTree}

-- entries look at no more of the area than the sum of lengths
pub entries_part : (ts cs ls vs : List ℕ) → sum ls ≤ length vs → entries ts cs ls (take (sum ls) vs) ≡ entries ts cs ls vs
unfolding sum
entries_part [] cs ls vs h = refl
entries_part (t ∷ ts) [] ls vs h = refl
entries_part (t ∷ ts) (c ∷ cs) [] vs h = refl
entries_part (t ∷ ts) (c ∷ cs) (l ∷ ls) vs h =
    let front : length (take l vs) ≡ l = length-take-le l vs (omega arith) in
    let rest : drop l (take (l + sum ls) vs) ≡ take (sum ls) (drop l vs) =
    ap (drop l) (take-add l (sum ls) vs) ∙ drop_at (take l vs) (take (sum ls) (drop l vs)) l front in
    ap₂ (λ (x y : List ℕ). entry_of t c x ∷ entries ts cs ls y) (take-take l (l + sum ls) vs (omega arith)) rest
    ∙ ap (λ (es : List Entry). entry_of t c (take l vs) ∷ es) (entries_part ts cs ls (drop l vs) (omega (arith, length-drop l vs)))

-- room for the rows and labels of a slip of n entries
pub record Rooms (n : ℕ) (types counts lengths labels : List ℕ) : Type 0 where
  pub few : n ≤ max_nodes
  pub types_room : n ≤ length types
  pub counts_room : n ≤ length counts
  pub lengths_room : n ≤ length lengths
  pub labels_room : label_bytes * n ≤ length labels

module _ {s : List ℕ} {r : Opened} {types counts lengths values labels : List ℕ} (o : OpenGives s r types counts lengths values labels)
    (m : Rooms (count_of s) types counts lengths labels) (e : (answer_of r.answer).number ≡ accepted) where
  is : ReadsAs Sha256.label composed_text s (slip_tree s)
  is = body_tree Sha256.label composed_text s (ap (λ (a : Answer). a.number) (sym o.answer) ∙ e)

  long : length (take r.rows types) ≡ r.rows
  long = length-take-le r.rows types (omega (arith, o.few, m.types_room))

  filled : sum (take r.rows lengths) ≤ length values
  filled = omega (arith, o.used, o.room)

  columns : Columns (take r.rows types) (take r.rows counts) (take r.rows lengths)
  columns =
      record {
        counts_long = length-take-le r.rows counts (omega (arith, o.few, m.counts_room)) ∙ sym long;
        lengths_long = length-take-le r.rows lengths (omega (arith, o.few, m.lengths_room)) ∙ sym long;
        few = omega (arith, long, o.few, m.few);
      }

  pub holds_tree : HoldsTree s r.rows types counts lengths values labels
  holds_tree =
      let marked : RowsLabelled Sha256.label composed_text (rows (slip_tree s)) (take r.rows counts) labels =
      subst (λ (es : List Entry). RowsLabelled Sha256.label composed_text es (take r.rows counts) labels) is.rows_are o.labelled in
      let sized : r.rows ≡ size (slip_tree s) = o.count ∙ ap length is.rows_are ∙ length_rows (slip_tree s) in
      record {
        reads_as = is;
        holds =
            record {
              table =
                  record {
                    form = record { columns = columns; rows = o.formed ∙ sym long; area = filled };
                    rows_are =
                        sym (entries_part (take r.rows types) (take r.rows counts) (take r.rows lengths) values filled)
                        ∙ ap (λ (k : ℕ). entries (take r.rows types) (take r.rows counts) (take r.rows lengths) (take k values)) (sym o.used)
                        ∙ o.rows
                        ∙ is.rows_are;
                  };
              labels_room = omega (arith, long, o.few, m.labels_room);
              labels_are = λ k h inner. labelled_tree Sha256.label composed_text (slip_tree s) (take r.rows counts) labels is.well marked k (omega (arith, h, long, sized, length_labels Sha256.label (slip_tree s))) inner;
            };
      }
