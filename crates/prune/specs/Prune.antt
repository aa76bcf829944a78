-- What the pruner answers and leaves: "Pruner: slip, 12, 11."
use Rattle.std.specs.Prelude.{ℕ, Bool, not, List, [], ◌∷◌, map, eqb}
use Rattle.outcomes.specs.Chain.{chain}
use Rattle.outcomes.specs.Refusals.{accepted}
use Rattle.tables.specs.Cells.{count_cell}
use Rattle.answers.specs.declared.Answer.{Answer}
use Rattle.slips.specs.Check.{reading_of, check_of}
use Rattle.outcomes.specs.Outcome.{Output, still}
use Rattle.slips.specs.SlipTree.{slip_tree}
use Rattle.prune_tables.specs.Pruned.{pruned_of}

-- "slip", by the answer to it
abbrev pub slip_tests : Answer → List ℕ → List (Bool × Output Answer)
slip_tests a out = (not (eqb a.number accepted), still a out) ∷ []

module _ (H : List ℕ → List ℕ) (composed : List ℕ → Bool) where
  -- the pruning of a slip by a list into an output
  unfoldable pub prune_of : List ℕ → List ℕ → List ℕ → Output Answer
  prune_of s list out =
      chain (slip_tests (check_of H composed s) out) (pruned_of H (map count_cell (reading_of s).rows) list (slip_tree s) out)
