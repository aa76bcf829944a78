-- FIPS 180-4, sections 2.2.2, 3.1, 3.2 and 4.1: operations on words of w bits, and words as bytes.
use Rattle.std.specs.Prelude.{ℕ, zero, suc, ◌+◌, ◌-◌, ◌*◌, ◌/◌, ◌%◌, ◌^◌, List, [], ◌∷◌, ◌++◌, take, drop}
use Rattle.std.specs.Int.Bits.{bit_and, bit_or, bit_xor}

-- section 3.2, 1: "Addition modulo 2^w"
abbrev pub plus : ℕ → ℕ → ℕ → ℕ
plus w x y = (x + y) % 2 ^ w

-- section 3.2, 3: "The rotate right (circular right shift) operation", ROTR n (x)
abbrev pub rotr : ℕ → ℕ → ℕ → ℕ
rotr w n x = bit_or (x / 2 ^ n) (x * 2 ^ (w - n) % 2 ^ w)

-- section 3.2, 2: "The right shift operation", SHR n (x)
abbrev pub shr : ℕ → ℕ → ℕ
shr n x = x / 2 ^ n

-- section 2.2.2: the bitwise complement of a word
abbrev pub complement : ℕ → ℕ → ℕ
complement w x = 2 ^ w - 1 - x

-- (4.2) and (4.8): Ch(x, y, z) = (x ∧ y) ⊕ (¬x ∧ z)
abbrev pub ch : ℕ → ℕ → ℕ → ℕ → ℕ
ch w x y z = bit_xor (bit_and x y) (bit_and (complement w x) z)

-- (4.3) and (4.9): Maj(x, y, z) = (x ∧ y) ⊕ (x ∧ z) ⊕ (y ∧ z)
abbrev pub maj : ℕ → ℕ → ℕ → ℕ
maj x y z = bit_xor (bit_xor (bit_and x y) (bit_and x z)) (bit_and y z)

-- the number whose bytes follow `high`, most significant first
unfoldable pub number : ℕ → List ℕ → ℕ
number high [] = high
number high (b ∷ bs) = number (high * 256 + b) bs

-- section 3.1, 2: "the most significant bit is stored in the left-most bit position": the low n bytes of x, most significant first
unfoldable pub bytes : ℕ → ℕ → List ℕ
bytes zero x = []
bytes (suc n) x = x / 256 ^ n % 256 ∷ bytes n x

-- section 5.2: the first n words of a text, of k bytes each
unfoldable pub words : ℕ → ℕ → List ℕ → List ℕ
words k zero t = []
words k (suc n) t = words k n t ++ (number 0 (take k (drop (k * n) t)) ∷ [])

-- the bytes of each word in turn, k a word
unfoldable pub spread : ℕ → List ℕ → List ℕ
spread k [] = []
spread k (x ∷ xs) = bytes k x ++ spread k xs
