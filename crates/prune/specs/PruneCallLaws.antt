-- The pruner's tests, one after the other, over the areas that hold a slip.
use Rattle.std.specs.Prelude.{ℕ, Bool, List, map, ◌≡◌, take}
use Rattle.std.proofs.Math.Path.{refl, sym}
use Rattle.std.proofs.Common.{ap, ◌∙◌, eq-eqb, ne_eqb}
use Rattle.outcomes.specs.Refusals.{accepted}
use Rattle.tables.specs.Cells.{count_cell}
use Rattle.prune_rows.specs.TableLaws.{entries_counts}
use Rattle.answers.specs.declared.Answer.{Answer}
use Rattle.slips.specs.Check.{reading_of, check_of}
use Rattle.outcomes.specs.Outcome.{Leaves}
use Rattle.slips.specs.SlipTree.{slip_tree}
use Rattle.slips.specs.Holding.{HoldsTree}
use Rattle.prune_tables.specs.Pruned.{pruned_of}
use Rattle.prune.specs.Prune.{prune_of}

module _ (H : List ℕ → List ℕ) (composed : List ℕ → Bool) (s list out : List ℕ) where
  -- a slip that is refused
  pub prune_refused : {a : Answer} → a ≡ check_of H composed s → (a.number ≡ accepted → ⊥) → Leaves (prune_of H composed s list out) a out
  unfolding prune_of
  prune_refused {a} e h =
      rw (ne_eqb (check_of H composed s).number accepted (λ q. h (ap (λ (x : Answer). x.number) e ∙ q))) (record { answered = e; written = refl })

  -- and one that is accepted
  pub prune_accepted : (check_of H composed s).number ≡ accepted → pruned_of H (map count_cell (reading_of s).rows) list (slip_tree s) out ≡ prune_of H composed s list out
  unfolding prune_of
  prune_accepted e = sym (rw (eq-eqb (check_of H composed s).number accepted e))

module _ {s : List ℕ} {rows : ℕ} {types counts lengths values labels : List ℕ} (h : HoldsTree s rows types counts lengths values labels) where
  -- the column of counts has what the entries name
  pub counts_held : take rows counts ≡ map count_cell (reading_of s).rows
  counts_held =
      let t = h.holds.table in
      sym (entries_counts (take rows types) (take rows counts) (take rows lengths) values t.form.columns.counts_long t.form.columns.lengths_long)
      ∙ ap (map count_cell) (t.rows_are ∙ sym h.reads_as.rows_are)
