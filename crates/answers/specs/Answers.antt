-- "A refusal returns its number and place, with length, blocks and label all zero, and writes nothing."
use Rattle.std.specs.Prelude.{ℕ, List, Result, Ok, Err}
use Rattle.outcomes.specs.Refusals.{accepted, clashing, number_of}
use Rattle.outcomes.specs.declared.numbers.Refused.{Refused}
use Rattle.trees.specs.Rules.{no_label}
use Rattle.answers.specs.declared.Answer.{Answer}
use Rattle.answers.specs.declared.Accepted.{Accepted}

-- a refusal by its number and place; "elsewhere the second number is 0", "side is 0 otherwise"
abbrev pub refused : ℕ → ℕ → Answer
refused k place = record { number = k; place = place; second = 0; side = 0; length = 0; blocks = 0; label = no_label }

-- "It reports length, blocks and root label of the slip."
abbrev pub taken : ℕ → ℕ → List ℕ → Answer
taken n b l = record { number = accepted; place = 0; second = 0; side = 0; length = n; blocks = b; label = l }

-- "the two entry numbers for 14"
abbrev pub clashed : ℕ → ℕ → Answer
clashed i j = record { number = clashing; place = i; second = j; side = 0; length = 0; blocks = 0; label = no_label }

-- a refusal of the code by its name
abbrev pub refusal_answer : Refused → Answer
refusal_answer r = refused (number_of r.refusal) r.place

-- what a call that takes or refuses a slip answers
abbrev pub answer_of : Result Accepted Refused → Answer
answer_of (Ok t) = taken t.length t.blocks t.label
answer_of (Err r) = refusal_answer r
