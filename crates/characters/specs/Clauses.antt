-- What a letter and a mark give.
use Rattle.std.specs.Prelude.{◌≡◌, ℕ, ◌<◌, ◌==◌, List, find, Option, MatchOption}
use Rattle.std.specs.Option.{option_map}
use Rattle.nfc.specs.Joining.{joined}

-- r is the letter that a letter and a mark compose to, none where they compose to none
abbrev pub Joins : ℕ → ℕ → Option ℕ → Type 0
Joins l m r = MatchOption r (joined l m ≡ 0) (λ w. (w ≡ joined l m) × (0 < w))

-- rs has what each letter makes with the mark m, and there it is found by the letter alone
abbrev pub RowsOf : ℕ → List (ℕ × ℕ × ℕ) → Type 0
RowsOf m rs = (l : ℕ) → Joins l m (option_map (λ (p : ℕ × ℕ × ℕ). p.2) (find (λ p. p.0 == l) rs))
