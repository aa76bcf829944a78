-- What the join of two slips answers and leaves, by the answers to the two.
use Rattle.std.specs.Prelude.{ℕ, Bool, List, map}
use Rattle.outcomes.specs.Chain.{chain}
use Rattle.outcomes.specs.Outcome.{Output, still}
use Rattle.trees.specs.Join.{join}
use Rattle.answers.specs.declared.Answer.{Answer}
use Rattle.answers.specs.Both.{both_tests}
use Rattle.slips.specs.Check.{body_of}
use Rattle.slips.specs.SlipTree.{slip_tree}
use Rattle.join_tables.specs.Joined.{joined_of}

-- a test that refuses leaves the output
abbrev pub leaving : List ℕ → Bool × Answer → Bool × Output Answer
leaving out t = (t.0, still t.1 out)

module _ (H : List ℕ → List ℕ) where
  -- "first slip (side 1), second slip (side 2), 13", then the join of the two trees
  abbrev pub join_by : Answer → Answer → List ℕ → List ℕ → List ℕ → Output Answer
  join_by a b s u out = chain (map (leaving out) (both_tests a b)) (joined_of H (slip_tree s) (slip_tree u) out (join H (slip_tree s) (slip_tree u)))

  -- of two slips whose headers are taken: their bodies decide
  unfoldable pub bodies_of : (List ℕ → Bool) → List ℕ → List ℕ → List ℕ → Output Answer
  bodies_of composed s u out = join_by (body_of H composed s) (body_of H composed u) s u out
