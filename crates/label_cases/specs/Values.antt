-- How the cases are written.
use Rattle.std.specs.Prelude.{ℕ, ◌*◌, ◌+◌, List, replicate}
use Rattle.bits.specs.Bits.{bits_in, octets}

-- the n bytes of a number, the highest first
abbrev pub bytes : ℕ → ℕ → List ℕ
bytes n v = octets n (bits_in (8 * n) v)

-- an output of four bytes more than are written
abbrev pub output : ℕ → List ℕ
output n = replicate (n + 4) 165
