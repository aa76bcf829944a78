-- What the test of a byte says, and what is read at a place.
use Rattle.std.specs.Prelude.{◌≡◌, ℕ, ◌≤◌, ◌<◌, Bool, true, Option, None, MatchOption, List, length, drop}
use Rattle.nfc.specs.Utf8.{front, ill}

-- r is the test t of the byte b, which only a following byte passes
pub record Follows (b : ℕ) (r t : Bool) : Type 0 where
  pub same : r ≡ t
  pub bounds : r ≡ true → (0x80 ≤ b) × (b ≤ 0xBF)

-- r is the character c, or none where c stands for an ill-formed sequence
abbrev pub Reads : ℕ → Option ℕ → Type 0
Reads c r = MatchOption r (c ≡ ill) (λ x. x ≡ c)

-- r is the character of a text at a place, none past its end
pub record At (s : List ℕ) (at : ℕ) (r : Option ℕ) : Type 0 where
  pub inside : at ≤ length s → Reads (front (drop at s)) r
  pub outside : length s < at → r ≡ None
