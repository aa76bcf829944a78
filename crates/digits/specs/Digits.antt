-- What digits spell.
use Rattle.std.specs.Prelude.{ℕ, ◌+◌, ◌*◌, Bool, true, false, cond, ◌&&◌, ◌==◌, List, [], ◌∷◌, ltb, position, Option, Some, None, is_some}
use Rattle.std.specs.Option.{unwrap_or, option_and_then}

-- "0123456789abcdef"
unfoldable pub glyphs : List ℕ
glyphs = 48 ∷ 49 ∷ 50 ∷ 51 ∷ 52 ∷ 53 ∷ 54 ∷ 55 ∷ 56 ∷ 57 ∷ 97 ∷ 98 ∷ 99 ∷ 100 ∷ 101 ∷ 102 ∷ []

-- the place of a byte among them, if it has one
unfoldable pub digit_of : ℕ → Option ℕ
digit_of b = position (λ glyph. glyph == b) glyphs

-- that place as a number, 16 where it has none
unfoldable pub value_of : ℕ → ℕ
value_of b = unwrap_or (digit_of b) 16

-- whether digits spell bytes, two a byte
unfoldable pub is_hex : List ℕ → Bool
is_hex [] = true
is_hex (a ∷ []) = false
is_hex (a ∷ b ∷ l) = (is_some (digit_of a) && is_some (digit_of b)) && is_hex l

-- those bytes
unfoldable pub bytes_of : List ℕ → List ℕ
bytes_of [] = []
bytes_of (a ∷ []) = []
bytes_of (a ∷ b ∷ l) = (16 * value_of a + value_of b) ∷ bytes_of l

-- a number with one decimal digit more, if it is one and the number is below 2^32
abbrev pub longer_by : ℕ → ℕ → Option ℕ
longer_by n d = cond (ltb 9 d) None (cond (ltb 4294967295 n) None (Some (n * 10 + d)))

-- a number with one byte more
abbrev pub longer_with : ℕ → ℕ → Option ℕ
longer_with n b = option_and_then (longer_by n) (digit_of b)

-- a number and the digits behind it
unfoldable pub reads : ℕ → List ℕ → Option ℕ
reads n [] = Some n
reads n (b ∷ l) = option_and_then (λ m. reads m l) (longer_with n b)

abbrev pub number_of : List ℕ → Option ℕ
number_of [] = None
number_of (b ∷ l) = reads 0 (b ∷ l)

-- a number that a cell holds
abbrev pub in_cell : ℕ → Option ℕ
in_cell n = cond (ltb n 65536) (Some n) None
