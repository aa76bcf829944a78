-- What reading a field gives.
use Rattle.std.specs.Prelude.{◌≡◌, List, ℕ, ◌<◌, ◌^◌, take, drop}
use Rattle.bits.specs.Bits.{bits_of, num_of}

-- r is the field of n bits at bit `at` of s
pub record FieldGives (s : List ℕ) (at n r : ℕ) : Type 0 where
  pub value : r ≡ num_of (take n (drop at (bits_of s)))
  pub small : r < 2 ^ n
