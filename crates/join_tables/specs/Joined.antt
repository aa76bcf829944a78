-- What the join of two trees answers and leaves: "14 (first clash in this order: a node, then all of its first child's subtree, then the
-- next child's), 15, 11".
use Rattle.std.specs.Prelude.{ℕ, Bool, ◌||◌, List, [], ◌∷◌, ltb, length}
use Rattle.outcomes.specs.Chain.{chain}
use Rattle.trees.specs.Nodes.{Node, size}
use Rattle.trees.specs.Rules.{max_nodes, max_bytes}
use Rattle.trees.specs.Join.{Joint, ok, clash}
use Rattle.trees.specs.Rows.{rows, number}
use Rattle.outcomes.specs.Refusals.{join_too_large}
use Rattle.codec.specs.Writing.{slip_of}
use Rattle.answers.specs.declared.Answer.{Answer}
use Rattle.answers.specs.Answers.{refused, clashed}
use Rattle.outcomes.specs.Outcome.{Output, still}
use Rattle.send.specs.Sent.{sent_tree}

-- "join over 1,023 nodes or 32,768 bytes"
abbrev pub too_large : Node → Bool
too_large c = ltb max_nodes (size c) || ltb max_bytes (length (slip_of (rows c)))

-- "15"
abbrev pub large_tests : Node → List ℕ → List (Bool × Output Answer)
large_tests c out = (too_large c, still (refused join_too_large 0) out) ∷ []

-- "14 .., 15, 11", by the join of the trees a and b
unfoldable pub joined_of : (List ℕ → List ℕ) → Node → Node → List ℕ → Joint → Output Answer
joined_of H a b out (clash p) = still (clashed (number a p) (number b p)) out
joined_of H a b out (ok c) = chain (large_tests c out) (sent_tree H c out)
