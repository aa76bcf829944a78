-- What `Hex`, `List` and `name` print.
use Rattle.std.specs.Prelude.{ℕ, ◌/◌, ◌%◌, false, ◌||◌, ◌==◌, List, [], ◌∷◌, ◌++◌, nat_lt, if◌then◌else◌}
use Rattle.std.specs.List.{flat_map}
use Rattle.std.specs.Fmt.{decimal, digit_glyph}

-- a byte in lower-case hex
abbrev pub octet : ℕ → List ℕ
octet b = digit_glyph false (b / 16) ∷ digit_glyph false (b % 16) ∷ []

-- bytes in lower-case hex, `-` for none
abbrev pub hex_text : List ℕ → List ℕ
hex_text [] = 45 ∷ []
hex_text (b ∷ bs) = flat_map octet (b ∷ bs)

-- a number behind another: a comma and its digits
abbrev pub behind_comma : ℕ → List ℕ
behind_comma n = 44 ∷ decimal n

-- numbers in decimal with a comma between two, `-` for none
abbrev pub list_text : List ℕ → List ℕ
list_text [] = 45 ∷ []
list_text (n ∷ ns) = decimal n ++ flat_map behind_comma ns

-- a byte of a name, 63 is `?` for a control byte
abbrev pub plain : ℕ → ℕ
plain b = if nat_lt b 32 || b == 127 then 63 else b
