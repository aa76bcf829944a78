-- FIPS 180-4, section 5.1: padding the message, and how many blocks that makes.
use Rattle.std.specs.Prelude.{ℕ, ◌-◌, ◌*◌, ◌/◌, ◌%◌, List, [], ◌∷◌, ◌++◌, length, replicate}
use Rattle.words.specs.Kind.{Kind, size}
use Rattle.words.specs.Words.{bytes}

-- bytes of the padding's length field: two words
abbrev pub field : Kind → ℕ
field s = s.octets * 2

-- "k zero bits, where k is the smallest, non-negative solution to the equation l + 1 + k ≡ 448 mod 512" (896 mod 1024), in bytes behind 0x80
abbrev pub zeros : Kind → ℕ → ℕ
zeros s n = (size s * 2 - 1 - field s - n % size s) % size s

-- what stands behind the text, from its last bytes on: "append the bit 1 to the end of the message", k zero bytes, and the length in bits
unfoldable pub closing : Kind → List ℕ → ℕ → ℕ → List ℕ
closing s last k bits = ((last ++ (0x80 ∷ [])) ++ replicate k 0) ++ bytes (field s) bits

-- the padded text
unfoldable pub padded : Kind → List ℕ → List ℕ
padded s t = closing s t (zeros s (length t)) (8 * length t)

-- section 5.2: the blocks into which the padded text is parsed
abbrev pub blocks : Kind → List ℕ → ℕ
blocks s t = length (padded s t) / size s
