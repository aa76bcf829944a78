-- Stored answers of another implementation, and the test that a function gives them.
use Rattle.std.specs.Prelude.{ℕ, Bool, true, false, ◌&&◌, List, [], ◌∷◌, eqb}

pub data Vector : Type 0 where
  gives : (given answer : List ℕ) → Vector

unfoldable pub same : List ℕ → List ℕ → Bool
same [] [] = true
same [] (y ∷ ys) = false
same (x ∷ xs) [] = false
same (x ∷ xs) (y ∷ ys) = eqb x y && same xs ys

unfoldable pub passes : (List ℕ → List ℕ) → List Vector → Bool
passes f [] = true
passes f (gives given answer ∷ vs) = same (f given) answer && passes f vs
