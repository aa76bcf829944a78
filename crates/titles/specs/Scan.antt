-- What the scan of a title says.
use Rattle.std.specs.Prelude.{◌≡◌, List, ℕ, Result, Ok, Err, MatchResult, true, false, take}
use Rattle.outcomes.specs.Refusals.{accepted, number_of}
use Rattle.nfc.specs.Utf8.{decode}
use Rattle.nfc.specs.Repertoire.{plain}
use Rattle.nfc.specs.Joining.{clusters}
use Rattle.titles.specs.Compose.{text, fault, refusal, acceptance, answer_from}
use Rattle.titles.specs.declared.composed.Composed.{Composed}
use Rattle.outcomes.specs.declared.numbers.Refused.{Refused}

-- the composer's answer for the length written, or for a refusal and its place
abbrev pub answer_of : Result ℕ Refused → Composed
answer_of (Ok n) = acceptance n
answer_of (Err e) = refusal (number_of e.refusal) e.place

-- r is the character c at a place if c is plain, and says what is wrong with c if it isn't
abbrev pub StartsAt : ℕ → ℕ → Result ℕ Refused → Type 0
StartsAt at c r = MatchResult r (λ l. (l ≡ c) × (plain l ≡ true)) (λ e. (number_of e.refusal ≡ fault c) × (e.place ≡ at) × (plain c ≡ false))

-- the answer, room aside; and where it is no refusal, what the title composes to, at the front of a buffer
pub record Scanned (title : List ℕ) (r : Result ℕ Refused) (buffer : List ℕ) : Type 0 where
  pub answered : answer_of r ≡ answer_from 0 0 (clusters (decode title))
  pub front : MatchResult r (λ n. take n buffer ≡ text title) (λ e. number_of e.refusal ≡ accepted → ⊥)
