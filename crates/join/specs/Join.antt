-- What the join answers and leaves: "Join: first slip (side 1), second slip (side 2), 13, 14 (first clash in this order: a node, then all
-- of its first child's subtree, then the next child's), 15, 11; side is 0 otherwise."
use Rattle.std.specs.Prelude.{ℕ, Bool, List}
use Rattle.outcomes.specs.Outcome.{Output}
use Rattle.answers.specs.declared.Answer.{Answer}
use Rattle.slips.specs.Check.{check_of}
use Rattle.join_bodies.specs.Bodies.{join_by}

module _ (H : List ℕ → List ℕ) (composed : List ℕ → Bool) where
  -- the join of two slips into an output
  unfoldable pub join_of : List ℕ → List ℕ → List ℕ → Output Answer
  join_of s u out = join_by H (check_of H composed s) (check_of H composed u) s u out
