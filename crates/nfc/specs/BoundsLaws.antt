-- Laws of `within`, and of what table 3-6 says of a character's size.
use Rattle.std.specs.Prelude.{◌≡◌, true, false, [], ◌∷◌, ℕ, ◌≤◌, ◌<◌, ◌+◌, ◌/◌, leb}
use Rattle.std.proofs.Common.{le-leb, leb-true, lt-ltb, le-ltb}
use Rattle.std.proofs.lemmas.Bool.{lt-leb}
use Rattle.lists.specs.TestsLaws.{and_left, and_right}
use Rattle.nfc.specs.Utf8.{within, width, follow, encode}

pub inside : (lo hi b : ℕ) → lo ≤ b → b ≤ hi → within lo hi b ≡ true
unfolding within
inside lo hi b p q = simp (le-leb lo b p, le-leb b hi q)

pub below : (lo hi b : ℕ) → b < lo → within lo hi b ≡ false
unfolding within
below lo hi b p = simp (lt-leb lo b p)

pub above : (lo hi b : ℕ) → lo ≤ b → hi < b → within lo hi b ≡ false
unfolding within
above lo hi b p q = simp (le-leb lo b p, lt-leb b hi q)

pub at_least : (lo hi b : ℕ) → within lo hi b ≡ true → lo ≤ b
unfolding within
at_least lo hi b e = leb-true lo b (and_left (leb lo b) (leb b hi) e)

pub at_most : (lo hi b : ℕ) → within lo hi b ≡ true → b ≤ hi
unfolding within
at_most lo hi b e = leb-true b hi (and_right (leb lo b) (leb b hi) e)

pub width_1 : (c : ℕ) → c < 0x80 → width c ≡ 1
unfolding width
width_1 c p = simp (lt-ltb c 0x80 p)

pub width_2 : (c : ℕ) → 0x80 ≤ c → c < 0x800 → width c ≡ 2
unfolding width
width_2 c p q = simp (le-ltb c 0x80 p, lt-ltb c 0x800 q)

pub encode_1 : (c : ℕ) → c < 0x80 → encode c ≡ c ∷ []
unfolding encode
encode_1 c p = simp (lt-ltb c 0x80 p)

pub encode_2 : (c : ℕ) → 0x80 ≤ c → c < 0x800 → encode c ≡ (0xC0 + c / 0x40) ∷ follow c ∷ []
unfolding encode
encode_2 c p q = simp (le-ltb c 0x80 p, lt-ltb c 0x800 q)
