-- Equal lists have equal heads and tails.
use Rattle.std.specs.Prelude.{◌≡◌, List, ◌∷◌, ℕ, get_or, drop}
use Rattle.std.proofs.Common.{ap}

pub head : {a b : ℕ} {xs ys : List ℕ} → a ∷ xs ≡ b ∷ ys → a ≡ b
head {a} {b} {xs} {ys} e = ap (λ (l : List ℕ). get_or l 0 0) e

pub tail : {a b : ℕ} {xs ys : List ℕ} → a ∷ xs ≡ b ∷ ys → xs ≡ ys
tail {a} {b} {xs} {ys} e = ap (λ (l : List ℕ). drop 1 l) e
