-- The character at a place of some bytes, by its first byte.
use Rattle.std.specs.Prelude.{◌≡◌, List, ℕ, ◌+◌, ◌≤◌, ◌<◌, get_or, drop}
use Rattle.std.proofs.Common.{◌∙◌, add-zero, arith, get_or-drop, lt-ltb, le-ltb}
use Rattle.nfc.specs.Utf8.{two_bytes, three_bytes, four_bytes, character, front}

-- the bytes from a place on are those at the place, and the next ones
front_at :
    (s : List ℕ) (at : ℕ)
    → front (drop at s) ≡ character (get_or s at 0) (get_or s (at + 1) 0) (get_or s (at + 2) 0) (get_or s (at + 3) 0)
unfolding front
front_at s at = simp (get_or-drop, add-zero)

pub character_1 : (a b c d : ℕ) → a < 0x80 → character a b c d ≡ a
unfolding character
character_1 a b c d p = simp (lt-ltb a 0x80 p)

pub character_2 : (a b c d : ℕ) → 0x80 ≤ a → a < 0xE0 → character a b c d ≡ two_bytes a b
unfolding character
character_2 a b c d p q = simp (le-ltb a 0x80 p, lt-ltb a 0xE0 q)

pub character_3 : (a b c d : ℕ) → 0xE0 ≤ a → a < 0xF0 → character a b c d ≡ three_bytes a b c
unfolding character
character_3 a b c d p q = simp (le-ltb a 0x80 (omega arith), le-ltb a 0xE0 p, lt-ltb a 0xF0 q)

pub character_4 : (a b c d : ℕ) → 0xF0 ≤ a → character a b c d ≡ four_bytes a b c d
unfolding character
character_4 a b c d p = simp (le-ltb a 0x80 (omega arith), le-ltb a 0xE0 (omega arith), le-ltb a 0xF0 p)

module _ (s : List ℕ) (at : ℕ) where
  pub front_1 : (a : ℕ) → a ≡ get_or s at 0 → a < 0x80 → front (drop at s) ≡ a
  front_1 a ea p = front_at s at ∙ rw (← ea) (character_1 a _ _ _ p)

  pub front_2 : (a b : ℕ) → a ≡ get_or s at 0 → b ≡ get_or s (at + 1) 0 → 0x80 ≤ a → a < 0xE0 → front (drop at s) ≡ two_bytes a b
  front_2 a b ea eb p q = front_at s at ∙ rw (← ea, ← eb) (character_2 a b _ _ p q)

  pub front_3 :
      (a b c : ℕ)
      → a ≡ get_or s at 0
      → b ≡ get_or s (at + 1) 0
      → c ≡ get_or s (at + 2) 0
      → 0xE0 ≤ a
      → a < 0xF0
      → front (drop at s) ≡ three_bytes a b c
  front_3 a b c ea eb ec p q = front_at s at ∙ rw (← ea, ← eb, ← ec) (character_3 a b c _ p q)

  pub front_4 :
      (a b c d : ℕ)
      → a ≡ get_or s at 0
      → b ≡ get_or s (at + 1) 0
      → c ≡ get_or s (at + 2) 0
      → d ≡ get_or s (at + 3) 0
      → 0xF0 ≤ a
      → front (drop at s) ≡ four_bytes a b c d
  front_4 a b c d ea eb ec ed p = front_at s at ∙ rw (← ea, ← eb, ← ec, ← ed) (character_4 a b c d p)
