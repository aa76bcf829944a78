-- Every answer of the composer with its condition: "Composer: 17, then the first bad character, 18 before 19 before 20 there, then 11", and
-- its place: "the first byte of the character for 18 to 20 .. otherwise 0".
use Rattle.std.specs.Prelude.{◌≡◌, true, false, List, ◌++◌, ℕ, ◌≤◌, ◌<◌, length, take, drop}
use Rattle.nfc.specs.Utf8.{scalar, encode, decode}
use Rattle.nfc.specs.Repertoire.{is_mark, in_repertoire}
use Rattle.nfc.specs.Joining.{accepts}
use Rattle.outcomes.specs.Refusals.{no_room, title_long, not_utf8, outside_repertoire, loose_mark}
use Rattle.outcomes.specs.Outcome.{Output, still}
use Rattle.titles.specs.declared.composed.Composed.{Composed}
use Rattle.titles.specs.Compose.{text, refusal, accepted_with, max_title}

-- what a number says of the bytes at its place
pub data Wrong : ℕ → List ℕ → Type 0 where
  -- "title not UTF-8": they start with no scalar value's encoding
  broken : {s : List ℕ} → ((c : ℕ) (r : List ℕ) → scalar c ≡ true → encode c ++ r ≡ s → ⊥) → Wrong not_utf8 s
  -- "character outside the repertoire"
  foreign : (c : ℕ) (r : List ℕ) {s : List ℕ} → encode c ++ r ≡ s → scalar c ≡ true → in_repertoire c ≡ false → Wrong outside_repertoire s
  -- "mark without a letter that takes it"
  loose : (c : ℕ) (r : List ℕ) {s : List ℕ} → encode c ++ r ≡ s → is_mark c ≡ true → Wrong loose_mark s

-- the title up to the place is taken, no longer front of it is, and the character at the place has the fault
pub record FirstBad (title : List ℕ) (number place : ℕ) : Type 0 where
  pub inside : place < length title
  pub before : accepts (decode (take place title)) ≡ true
  pub longest : (n : ℕ) → place < n → accepts (decode (take n title)) ≡ false
  pub wrong : Wrong number (drop place title)

pub data Goes (title out : List ℕ) : Output Composed → Type 0 where
  -- "title over 511 bytes as given"
  long : max_title < length title → Goes title out (still (refusal title_long 0) out)
  -- 18, 19 and 20
  wrong : length title ≤ max_title → (k p : ℕ) → FirstBad title k p → Goes title out (still (refusal k p) out)
  -- "output too short"
  short :
      length title ≤ max_title
      → accepts (decode title) ≡ true
      → length out < length (text title)
      → Goes title out (still (refusal no_room 0) out)
  taken :
      length title ≤ max_title
      → accepts (decode title) ≡ true
      → length (text title) ≤ length out
      → Goes title out (accepted_with (text title) out)
