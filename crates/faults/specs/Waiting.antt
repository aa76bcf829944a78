-- The columns of the nodes that wait, and the refusal of a step.
use Rattle.std.specs.Prelude.{ℕ, max, ◌≡◌, List, [], ◌∷◌, map, length, Result, Ok, Err}
use Rattle.outcomes.specs.Refusals.{accepted, number_of}
use Rattle.outcomes.specs.declared.numbers.Refusal.{Refusal}
use Rattle.trees.specs.Rows.{Tag, Step, fault, next}

-- a column of the stack has one of these of each node
abbrev pub kind_of : Tag → ℕ
kind_of g = g.kind

abbrev pub height_of : Tag → ℕ
height_of g = g.height

abbrev pub size_of : Tag → ℕ
size_of g = length g.text

-- the greatest of a column
unfoldable pub greatest : List ℕ → ℕ
greatest [] = 0
greatest (x ∷ xs) = max x (greatest xs)

-- the number of a step's refusal; 0 where it has none
abbrev pub step_fault : Step → ℕ
step_fault (fault k) = k
step_fault (next st c) = 0

-- the number of the code's refusal; 0 where it has none
abbrev pub refusal_number : {A : Type 0} → Result A Refusal → ℕ
refusal_number (Ok a) = accepted
refusal_number (Err r) = number_of r

-- the three columns of a stack
pub record StackColumns (st : List Tag) (kinds heights sizes : List ℕ) : Type 0 where
  pub kinds_are : kinds ≡ map kind_of st
  pub heights_are : heights ≡ map height_of st
  pub sizes_are : sizes ≡ map size_of st
