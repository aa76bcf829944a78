-- A slip handed out: "11", or the slip in the output.
use Rattle.std.specs.Prelude.{ℕ, Bool, Result, Ok, Err, List, [], ◌∷◌, ltb, length}
use Rattle.outcomes.specs.Chain.{chain}
use Rattle.trees.specs.Nodes.{Node, label, blocks}
use Rattle.trees.specs.Rows.{Entry, rows}
use Rattle.outcomes.specs.Refusals.{no_room, number_of}
use Rattle.outcomes.specs.declared.numbers.Refusal.{Refusal}
use Rattle.codec.specs.Writing.{slip_of}
use Rattle.answers.specs.Answers.{refused, taken}
use Rattle.outcomes.specs.Outcome.{over, Output, still}
use Rattle.answers.specs.declared.Answer.{Answer}
use Rattle.answers.specs.declared.Accepted.{Accepted}

-- "11"
abbrev pub sent_tests : List Entry → List ℕ → List (Bool × Output Answer)
sent_tests es out = (ltb (length out) (length (slip_of es)), still (refused no_room 0) out) ∷ []

-- the slip of entries whose blocks and root label are told: 11, or "length, blocks and root label of the slip written"
unfoldable pub sent : List Entry → ℕ → List ℕ → List ℕ → Output Answer
sent es b l out = chain (sent_tests es out) (record { answer = taken (length (slip_of es)) b l; left = over (slip_of es) out })

-- the slip of a tree
abbrev pub sent_tree : (List ℕ → List ℕ) → Node → List ℕ → Output Answer
sent_tree H n out = sent (rows n) (blocks H n) (label H n) out

-- what sending answers: its refusal has no place
abbrev pub sent_answer : Result Accepted Refusal → Answer
sent_answer (Ok a) = taken a.length a.blocks a.label
sent_answer (Err r) = refused (number_of r) 0
