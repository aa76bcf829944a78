-- UTF-8 as the Unicode Standard has it: its table 3-6 (bit distribution) encodes, its table 3-7 (well-formed byte sequences) decodes.
-- A character is its number. An ill-formed sequence is one more number, so that decoding never fails.
use Rattle.std.specs.Prelude.{ℕ, zero, suc, ◌+◌, ◌*◌, ◌-◌, ◌/◌, ◌%◌, Bool, true, cond, not, ◌&&◌, ◌||◌, List, [], ◌∷◌, ◌++◌, ltb, leb, eqb, length, get_or, drop}

-- what an ill-formed sequence decodes to: one past the last code point, U+10FFFF
abbrev pub ill : ℕ
ill = 0x110000

-- D76: any code point except the surrogates, U+D800 to U+DFFF
unfoldable pub scalar : ℕ → Bool
scalar c = ltb c 0xD800 || (leb 0xE000 c && ltb c ill)

unfoldable pub scalars : List ℕ → Bool
scalars [] = true
scalars (c ∷ cs) = scalar c && scalars cs

-- nothing in a text is ill-formed
unfoldable pub well_formed : List ℕ → Bool
well_formed [] = true
well_formed (c ∷ cs) = not (eqb c ill) && well_formed cs

-- table 3-6: how many bytes a scalar value takes
unfoldable pub width : ℕ → ℕ
width c = cond (ltb c 0x80) 1 (cond (ltb c 0x800) 2 (cond (ltb c 0x10000) 3 4))

-- table 3-6: a following byte, 10xxxxxx, with the lowest six bits of a number
abbrev pub follow : ℕ → ℕ
follow c = 0x80 + c % 0x40

-- table 3-6: the bytes of a scalar value
unfoldable pub encode : ℕ → List ℕ
encode c =
    cond (ltb c 0x80) (c ∷ [])
    (cond (ltb c 0x800) ((0xC0 + c / 0x40) ∷ follow c ∷ [])
    (cond (ltb c 0x10000) ((0xE0 + c / 0x1000) ∷ follow (c / 0x40) ∷ follow c ∷ [])
    ((0xF0 + c / 0x40000) ∷ follow (c / 0x1000) ∷ follow (c / 0x40) ∷ follow c ∷ [])))

unfoldable pub encodes : List ℕ → List ℕ
encodes [] = []
encodes (c ∷ cs) = encode c ++ encodes cs

unfoldable pub within : ℕ → ℕ → ℕ → Bool
within lo hi b = leb lo b && leb b hi

-- table 3-7: the second byte is 80..BF, but A0..BF after E0, 80..9F after ED, 90..BF after F0, 80..8F after F4
unfoldable pub low : ℕ → ℕ
low a = cond (eqb a 0xE0) 0xA0 (cond (eqb a 0xF0) 0x90 0x80)

unfoldable pub high : ℕ → ℕ
high a = cond (eqb a 0xED) 0x9F (cond (eqb a 0xF4) 0x8F 0xBF)

-- table 3-7: the other following bytes are 80..BF
unfoldable pub tail : ℕ → Bool
tail b = within 0x80 0xBF b

-- table 3-7: C2..DF lead two bytes
unfoldable pub two_bytes : ℕ → ℕ → ℕ
two_bytes a b = cond (within 0xC2 0xDF a && tail b) ((a - 0xC0) * 0x40 + (b - 0x80)) ill

-- table 3-7: E0..EF lead three bytes
unfoldable pub three_bytes : ℕ → ℕ → ℕ → ℕ
three_bytes a b c =
    cond (within 0xE0 0xEF a && (within (low a) (high a) b && tail c)) ((a - 0xE0) * 0x1000 + (b - 0x80) * 0x40 + (c - 0x80)) ill

-- table 3-7: F0..F4 lead four bytes
unfoldable pub four_bytes : ℕ → ℕ → ℕ → ℕ → ℕ
four_bytes a b c d =
    cond (within 0xF0 0xF4 a && (within (low a) (high a) b && (tail c && tail d)))
    ((a - 0xF0) * 0x40000 + (b - 0x80) * 0x1000 + (c - 0x80) * 0x40 + (d - 0x80))
    ill

-- table 3-7: the character whose bytes start with a, b, c, d; 00..7F stand alone
unfoldable pub character : ℕ → ℕ → ℕ → ℕ → ℕ
character a b c d =
    cond (ltb a 0x80) a (cond (ltb a 0xE0) (two_bytes a b) (cond (ltb a 0xF0) (three_bytes a b c) (four_bytes a b c d)))

-- the character at the head of some bytes; a missing byte reads as 0, which follows no first byte
unfoldable pub front : List ℕ → ℕ
front s = character (get_or s 0 0) (get_or s 1 0) (get_or s 2 0) (get_or s 3 0)

-- the characters of some bytes, up to the first ill-formed sequence and with it; at most n of them
unfoldable pub chars : ℕ → List ℕ → List ℕ
chars zero s = []
chars (suc n) [] = []
chars (suc n) (b ∷ s) =
    let rest = chars n (drop (width (front (b ∷ s))) (b ∷ s)) in
    front (b ∷ s) ∷ cond (eqb (front (b ∷ s)) ill) [] rest

-- each character takes a byte at least, so there are no more of them than bytes
unfoldable pub decode : List ℕ → List ℕ
decode s = chars (length s) s
