-- "Fields are packed with the most significant bit first."
use Rattle.std.specs.Prelude.{ℕ, zero, suc, ◌+◌, ◌*◌, ◌/◌, ◌%◌, ◌^◌, List, [], ◌∷◌, ◌++◌, length, take, drop, replicate}

-- v as a field of n bits
unfoldable pub bits_in : ℕ → ℕ → List ℕ
bits_in zero v = []
bits_in (suc n) v = v / 2 ^ n % 2 ∷ bits_in n v

-- the bits of a run of bytes
unfoldable pub bits_of : List ℕ → List ℕ
bits_of [] = []
bits_of (x ∷ s) = bits_in 8 x ++ bits_of s

-- the number that a field holds
unfoldable pub num_of : List ℕ → ℕ
num_of [] = 0
num_of (b ∷ bs) = b % 2 * 2 ^ length bs + num_of bs

-- the first n bytes of a run of bits
unfoldable pub octets : ℕ → List ℕ → List ℕ
octets zero bs = []
octets (suc n) bs = num_of (take 8 bs) ∷ octets n (drop 8 bs)

-- "0 to 7 zero bits to the byte's end, and nothing more": the bytes of a run of bits
unfoldable pub packed : List ℕ → List ℕ
packed bs = octets ((length bs + 7) / 8) (bs ++ replicate 7 0)
