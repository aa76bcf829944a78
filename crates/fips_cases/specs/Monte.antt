-- The Monte Carlo test of the Secure Hash Algorithm Validation System, section 6.4.
use Rattle.std.specs.Prelude.{ℕ, zero, suc, List, ◌++◌}
use Rattle.sha256.specs.Sha256.{label}

-- "M[i] = MD[i-3] || MD[i-2] || MD[i-1]; MD[i] = SHA(M[i])", so many times
unfoldable pub turns : ℕ → List ℕ → List ℕ → List ℕ → List ℕ
turns zero a b c = c
turns (suc n) a b c = turns n b c (label ((a ++ b) ++ c))

-- "MD[0] = MD[1] = MD[2] = Seed", and then 1,000 times
unfoldable pub monte : List ℕ → List ℕ
monte seed = turns 1000 seed seed seed
