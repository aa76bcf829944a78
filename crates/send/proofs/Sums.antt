-- A bound on the sum of a column.
use Prim.Native.Nat.{ℕ, suc, ◌*◌, ◌≤◌, ◌<◌}
use mathlib.Core.List.{List, [], ◌∷◌}
use native.Mathlib.Omega.{arith}
use lib.ListN.{length, get_or}
use Rattle.tables.specs.Tables.{sum}

-- cells of two bytes
pub sum_low : (l : List ℕ) → ((i : ℕ) → i < length l → get_or l i 0 < 65536) → sum l ≤ 65535 * length l
unfolding sum
sum_low [] f = omega arith
sum_low (x ∷ l) f = omega (arith, f 0 (omega arith), sum_low l (λ i h. f (suc i) (omega arith)))
