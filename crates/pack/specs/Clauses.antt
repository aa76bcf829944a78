-- What the packer's steps give.
use Rattle.std.specs.Prelude.{ℕ, Result, is_ok, true, ◌≤◌, ◌≡◌, length}
use Rattle.outcomes.specs.declared.numbers.Refused.{Refused}
use Rattle.tables.specs.Tables.{Table, Formed}
use Rattle.codec.specs.Writing.{slip_of}
use Rattle.answers.specs.declared.Answer.{Answer}
use Rattle.answers.specs.declared.Accepted.{Accepted}
use Rattle.answers.specs.Answers.{answer_of}
use Rattle.pack.specs.Pack.{rows_of}

-- a table of the form whose slip has room
pub record Fitting (t : Table) (room : ℕ) : Type 0 where
  pub form : Formed t
  pub fits : length (slip_of (rows_of t)) ≤ room

-- the packer's answer, and where it accepts what it has found
pub record AnswerGives (t : Table) (room : ℕ) (a : Answer) (r : Result Accepted Refused) : Type 0 where
  pub answer : answer_of r ≡ a
  pub roomy : is_ok r ≡ true → Fitting t room
