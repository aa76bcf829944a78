-- What a call answers, and what it leaves in its buffers.
use Rattle.std.specs.Prelude.{ℕ, List, ◌++◌, ◌≡◌, length, drop}

-- an answer, and what the buffers hold
pub record Outcome (A B : Type 0) : Type 0 where
  pub answer : A
  pub left : B

-- that of a call with one output
abbrev pub Output : Type 0 → Type 0
Output A = Outcome A (List ℕ)

-- a refusal "writes nothing"
abbrev pub still : {A B : Type 0} → A → B → Outcome A B
still a b = record { answer = a; left = b }

-- "An accepted call writes exactly its length; the rest of each buffer stays."
abbrev pub over : List ℕ → List ℕ → List ℕ
over written buffer = written ++ drop (length written) buffer

-- an answer r and buffers at exit are the outcome's
pub record Leaves {A B : Type 0} (o : Outcome A B) (r : A) (b : B) : Type 0 where
  pub answered : r ≡ o.answer
  pub written : b ≡ o.left
