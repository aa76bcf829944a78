-- The greatest of a column, folded.
use Rattle.std.proofs.Common.{◌≡◌, ℕ, max, List, [], ◌∷◌, fold, arith}
use Rattle.faults.specs.Waiting.{greatest}

pub folded : (l : List ℕ) (m : ℕ) → fold (λ a x. max a x) m l ≡ max m (greatest l)
unfolding greatest
folded [] m = omega arith
folded (x ∷ l) m = omega (arith, folded l (max m x))
