-- What a number of 16 bits is that stands in an area.
use Rattle.std.specs.Prelude.{◌≡◌, List, ℕ, ◌+◌, ◌*◌, ◌≤◌, ◌<◌, length, get_or}

-- r is the k-th number of an area: its two bytes, the more significant one first; 0 where they are not both there
pub record Sixteen (area : List ℕ) (k r : ℕ) : Type 0 where
  pub inside : 2 * k + 1 < length area → r ≡ 256 * get_or area (2 * k) 0 + get_or area (2 * k + 1) 0
  pub outside : length area ≤ 2 * k + 1 → r ≡ 0
