-- Document 01, "Titles": "Repertoire: U+0020 to U+007E, U+00A0 to U+00FF, and seven marks".
use Rattle.std.specs.Prelude.{ℕ, Bool, true, false, ◌&&◌, ◌||◌, List, [], ◌∷◌, eqb}
use Rattle.nfc.specs.Utf8.{within}

unfoldable pub member : List ℕ → ℕ → Bool
member [] c = false
member (x ∷ xs) c = eqb x c || member xs c

-- "seven marks U+0300, 0301, 0302, 0303, 0308, 030A, 0327"
unfoldable pub marks : List ℕ
marks = 0x300 ∷ 0x301 ∷ 0x302 ∷ 0x303 ∷ 0x308 ∷ 0x30A ∷ 0x327 ∷ []

unfoldable pub is_mark : ℕ → Bool
is_mark c = member marks c

-- in the repertoire, and no mark: "U+0020 to U+007E, U+00A0 to U+00FF"
unfoldable pub plain : ℕ → Bool
plain c = within 0x20 0x7E c || within 0xA0 0xFF c

unfoldable pub all_plain : List ℕ → Bool
all_plain [] = true
all_plain (c ∷ cs) = plain c && all_plain cs

unfoldable pub in_repertoire : ℕ → Bool
in_repertoire c = plain c || is_mark c

unfoldable pub all_in : List ℕ → Bool
all_in [] = true
all_in (c ∷ cs) = in_repertoire c && all_in cs
