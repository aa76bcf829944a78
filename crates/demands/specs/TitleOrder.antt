-- Demand 1 of the composer, as a list in document 01's order: each answer is the first of its refusals that is given, and a refused call
-- leaves the buffer.
use Rattle.std.specs.Prelude.{ℕ, ◌+◌, ◌<◌, Bool, true, false, cond, List, [], ◌∷◌, ◌++◌, ◌≡◌, refl, ltb, eqb, length}
use Rattle.std.proofs.Common.{true≢false, inl, inr, sym, ◌∙◌, arith, eqb-true, ltb-true, ltb-false}
use Rattle.std.proofs.lemmas.Bool.{false≢true, eqb-false, not-true, not-false}
use Rattle.outcomes.specs.ChainLaws.{chain_each}
use Rattle.lists.specs.Lists.{all}
use Rattle.lists.specs.ListsLaws.{all_append}
use Rattle.outcomes.specs.Refusals.{accepted, no_room, title_long, not_utf8, outside_repertoire, loose_mark}
use Rattle.nfc.specs.Utf8.{ill, width, decode}
use Rattle.nfc.specs.Repertoire.{is_mark}
use Rattle.nfc.specs.Joining.{Cluster, bad, one, two, joined, clusters, none_bad, accepts}
use Rattle.outcomes.specs.Outcome.{Output}
use Rattle.titles.specs.Compose.{text, fault, refusal, answer_from, accepted_with, compose_tests, compose_of, max_title}
use Rattle.titles.specs.ComposeLaws.{judged_accepts}
use Rattle.titles.specs.declared.composed.Composed.{Composed}
use Rattle.demands.specs.InOrder.{Case, at, plain, Free, among, InOrder}
use Rattle.demands.specs.InOrderLaws.{free, onto}

-- "A refusal returns its number and place, with length .. zero"
abbrev pub says : Case → ℕ → ℕ → Composed
says c i j = refusal c.number i

-- "the first bad character, 18 before 19 before 20 there", of clusters that start at byte p; what is bad is no plain character
abbrev pub character_cases : ℕ → List Cluster → List Case
character_cases p [] = []
character_cases p (bad c ∷ ps) =
    at not_utf8 p (c ≡ ill) ∷ at outside_repertoire p (is_mark c ≡ false) ∷ at loose_mark p (is_mark c ≡ true) ∷ []
character_cases p (one c ∷ ps) = character_cases (p + width c) ps
character_cases p (two l m ∷ ps) = character_cases (p + (width l + width m)) ps

-- "Composer: 17, then the first bad character, 18 before 19 before 20 there, then 11."
abbrev pub compose_cases : List ℕ → ℕ → List Case
compose_cases title room =
    plain title_long (max_title < length title)
    ∷ (character_cases 0 (clusters (decode title)) ++ (plain no_room (room < length (text title)) ∷ []))

abbrev pub compose_numbers : List ℕ
compose_numbers = title_long ∷ not_utf8 ∷ outside_repertoire ∷ loose_mark ∷ no_room ∷ []

-- an answer of the composer, and what the buffer holds
pub record Ordered (title out : List ℕ) (o : Output Composed) : Type 0 where
  pub order : InOrder says (compose_cases title (length out)) (o.answer.number ≡ accepted) o.answer
  pub listed : all (λ (c : Case). among compose_numbers c.number) (compose_cases title (length out)) ≡ true
  pub kept : (o.answer.number ≡ accepted → ⊥) → o.left ≡ out

judged_order : (p n : ℕ) (ps : List Cluster) → InOrder says (character_cases p ps) ((answer_from p n ps).number ≡ accepted) (answer_from p n ps)
unfolding answer_from fault
judged_order p n [] = refl
judged_order p n (bad c ∷ ps) = go (eqb c ill) (is_mark c) refl refl
  where
    go : (x y : Bool) → eqb c ill ≡ x → is_mark c ≡ y
        → InOrder says (character_cases p (bad c ∷ ps)) (cond x not_utf8 (cond y loose_mark outside_repertoire) ≡ accepted) (refusal (cond x not_utf8 (cond y loose_mark outside_repertoire)) p)
    go true y e d = inl (p, 0, (refl, refl, eqb-true c ill e), refl)
    go false false e d = inr (free (eqb-false c ill e), inl (p, 0, (refl, refl, d), refl))
    go false true e d =
        inr (free (eqb-false c ill e), inr (free (λ h. true≢false (sym d ∙ h)), inl (p, 0, (refl, refl, d), refl)))
judged_order p n (one c ∷ ps) = judged_order (p + width c) (n + width c) ps
judged_order p n (two l m ∷ ps) = judged_order (p + (width l + width m)) (n + width (joined l m)) ps

-- where no character is bad, none of theirs is given
none_bad_lem : (R : Type 0) (a : Composed) (ds : List Case) (p : ℕ) (ps : List Cluster) → none_bad ps ≡ true → InOrder says ds R a
    → InOrder says (character_cases p ps ++ ds) R a
unfolding none_bad
none_bad_lem R a ds p [] e x = x
none_bad_lem R a ds p (bad c ∷ ps) e x = absurd (false≢true e)
none_bad_lem R a ds p (one c ∷ ps) e x = none_bad_lem R a ds (p + width c) ps e x
none_bad_lem R a ds p (two l m ∷ ps) e x = none_bad_lem R a ds (p + (width l + width m)) ps e x

characters_listed : (p : ℕ) (ps : List Cluster) → all (λ (c : Case). among compose_numbers c.number) (character_cases p ps) ≡ true
characters_listed p [] = refl
characters_listed p (bad c ∷ ps) = refl
characters_listed p (one c ∷ ps) = characters_listed (p + width c) ps
characters_listed p (two l m ∷ ps) = characters_listed (p + (width l + width m)) ps

-- a title within the limit is not refused with 17
fits_length : (title : List ℕ) → ltb max_title (length title) ≡ false → Free (plain title_long (max_title < length title))
fits_length title e = free (λ h. omega (arith, h, ltb-false max_title (length title) e))

-- "17, then the first bad character, 18 before 19 before 20 there, then 11": the composer's answer is in order, and a refusal leaves the buffer
pub compose_in_order : (title out : List ℕ) → Ordered title out (compose_of title out)
unfolding compose_of accepts
compose_in_order title out =
    let good : Bool = accepts (decode title) in
    record {
      order =
          chain_each (λ o. InOrder says (compose_cases title (length out)) (o.answer.number ≡ accepted) o.answer) (compose_tests title out)
          (accepted_with (text title) out) (
            λ l. inl (0, 0, (refl, refl, ltb-true max_title (length title) l), refl),
            λ l. (
              λ g. inr (
                fits_length title l,
                onto says _ _ _ (character_cases 0 (clusters (decode title))) _
                    (λ a. absurd (true≢false (sym (judged_accepts title a) ∙ not-true good g))) (judged_order 0 0 (clusters (decode title))),
              ),
              λ g. (
                λ r. inr (
                  fits_length title l,
                  none_bad_lem _ _ _ 0 (clusters (decode title)) (not-false good g)
                      (inl (0, 0, (refl, refl, ltb-true (length out) (length (text title)) r), refl)),
                ),
                λ r. inr (
                  fits_length title l,
                  none_bad_lem _ _ _ 0 (clusters (decode title)) (not-false good g)
                      (inr (free (λ h. omega (arith, h, ltb-false (length out) (length (text title)) r)), refl)),
                ),
              ),
            ),
          );
      listed =
          all_append (λ (c : Case). among compose_numbers c.number) (character_cases 0 (clusters (decode title))) _
          (characters_listed 0 (clusters (decode title))) refl;
      kept =
          chain_each (λ o. (o.answer.number ≡ accepted → ⊥) → o.left ≡ out) (compose_tests title out) (accepted_with (text title) out)
          (λ l h. refl, λ l. (λ g h. refl, λ g. (λ r h. refl, λ r h. absurd (h refl))));
    }
