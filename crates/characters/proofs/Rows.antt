-- The rows of the code are the pairs of the definition, and its search of them is that of the definition.
use Rattle.std.proofs.Common.{◌≡◌, refl, Bool, true, false, ◌&&◌, List, [], ◌∷◌, ℕ, ◌<◌, ltb, eqb, eqb-true, ltb-true, MatchOption}
use Rattle.std.specs.List.{find}
use Rattle.std.specs.Option.{option_map}
use Rattle.lists.specs.TestsLaws.{either, clash, and_left, and_right}
use Rattle.nfc.specs.Pairs.{Pair, pair, found, pairs}
use Rattle.nfc.specs.Repertoire.{is_mark}
use Rattle.nfc.specs.Joining.{joined}
use Rattle.nfc.proofs.PairsLaws.{joint}
use Rattle.characters.specs.declared.pairs.TheConstants.{PAIRS}
use Rattle.characters.specs.Clauses.{Joins}

abbrev paired : List (ℕ × ℕ × ℕ) → List Pair
paired [] = []
paired (r ∷ rs) = pair r.0 r.1 r.2 ∷ paired rs

-- no row composes to the character 0, which stands for none
abbrev some_whole : List (ℕ × ℕ × ℕ) → Bool
some_whole [] = true
some_whole (r ∷ rs) = ltb 0 r.2 && some_whole rs

rows_found :
    (rs : List (ℕ × ℕ × ℕ)) (l m : ℕ)
    → some_whole rs ≡ true
    → MatchOption (option_map (λ (p : ℕ × ℕ × ℕ). p.2) (find (λ p. eqb p.1 m && eqb p.0 l) rs)) (found (paired rs) l m ≡ 0) (λ w. (w ≡ found (paired rs) l m) × (0 < w))
unfolding found
rows_found [] l m some = refl
rows_found (r ∷ rs) l m some =
    either (eqb r.1 m && eqb r.0 l) (λ p. rw p (refl, ltb-true 0 r.2 (and_left (ltb 0 r.2) _ some))) (λ p. rw p (rows_found rs l m (and_right (ltb 0 r.2) _ some)))

pub pairs_joined : (l m : ℕ) → Joins l m (option_map (λ (p : ℕ × ℕ × ℕ). p.2) (find (λ p. eqb p.1 m && eqb p.0 l) PAIRS))
unfolding pairs joined
pairs_joined l m = rows_found PAIRS l m refl

-- what is no mark joins no letter
pub markless : (l m : ℕ) → is_mark m ≡ false → joined l m ≡ 0
markless l m off = eqb-true _ 0 (either (eqb (joined l m) 0) (λ p. p) (λ p. absurd (clash (joint l m p).mark off)))
