-- What the pruning of a table answers and leaves: "12, 11."
use Rattle.std.specs.Prelude.{ℕ, Bool, List, [], ◌∷◌, ltb, length}
use Rattle.outcomes.specs.Chain.{chain}
use Rattle.trees.specs.Nodes.{Node}
use Rattle.outcomes.specs.Refusals.{bad_list}
use Rattle.tables.specs.PruningList.{first_fault, pruned}
use Rattle.answers.specs.Answers.{refused}
use Rattle.outcomes.specs.Outcome.{Output, still}
use Rattle.answers.specs.declared.Answer.{Answer}
use Rattle.send.specs.Sent.{sent_tree}

-- "12", of a list for entries that have so many children each: its place is "the first faulty index in the list"
abbrev pub list_tests : List ℕ → List ℕ → List ℕ → List (Bool × Output Answer)
list_tests counts list out =
    (ltb (first_fault counts 0 0 list) (length list), still (refused bad_list (first_fault counts 0 0 list)) out) ∷ []

-- "12, 11", of a tree n whose entries have so many children each: "Each becomes dangling with its label, and its descendants go."
unfoldable pub pruned_of : (List ℕ → List ℕ) → List ℕ → List ℕ → Node → List ℕ → Output Answer
pruned_of H counts list n out = chain (list_tests counts list out) (sent_tree H (pruned H list n) out)
