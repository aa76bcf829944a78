-- The search of a type, one row at a time, in one table and in two.
use Prim.Native.Nat.{ℕ, suc, ◌+◌, ◌≤◌, ◌<◌}
use mathlib.Core.Path.{◌≡◌, refl, sym, ap, ◌∙◌}
use mathlib.Core.Bool.{Bool, true, false}
use mathlib.Core.List.{List, ◌∷◌}
use native.Mathlib.Numerals.{add-one}
use native.Mathlib.Omega.{arith}
use lib.ListN.{length, drop, get_or, drop_of_length-le}
use lib.Seq.{drop-cons}
use denote.Ref.{Bor}
use borrow.Author.Tests.{eq-eqb, ne_eqb, le-leb}
use Rattle.tables.specs.Tables.{Table, table_fits}
use Rattle.lookup.specs.Lookup.{Spot, At, Nothing, first_of, held_in, held_by, or_else, lookup, Finding, area_of, PartOf, Handed}
use Rattle.lookup.specs.LookupLaws.{held_within, refused_none}
use Rattle.lookup.specs.Agreement.{found_within}

-- the rows from i on are row i and those behind it
module _ (kind at : ℕ) (ts ls : List ℕ) (i : ℕ) (p : i < length ts) (q : i < length ls) where
  opened : first_of kind at (drop i ts) (drop i ls) ≡ first_of kind at (get_or ts i 0 ∷ drop (suc i) ts) (get_or ls i 0 ∷ drop (suc i) ls)
  opened = rw (drop-cons ts i 0 p, drop-cons ls i 0 q)

  pub first_here : get_or ts i 0 ≡ kind → first_of kind at (drop i ts) (drop i ls) ≡ At at (get_or ls i 0)
  unfolding first_of
  first_here e = opened ∙ rw (eq-eqb _ _ e)

  pub first_later :
      (get_or ts i 0 ≡ kind → ⊥)
      → first_of kind at (drop i ts) (drop i ls) ≡ first_of kind (at + get_or ls i 0) (drop (i + 1) ts) (drop (i + 1) ls)
  unfolding first_of
  first_later e = opened ∙ rw (ne_eqb _ _ e, add-one)

pub first_none : (kind at : ℕ) (ts ls : List ℕ) (i : ℕ) → length ts ≤ i → first_of kind at (drop i ts) ls ≡ Nothing
unfolding first_of
first_none kind at ts ls i p = rw (drop_of_length-le ts p)

-- a table of the form is searched for a type from 1 on
pub held_searched : (kind : ℕ) (t : Table) → (kind ≡ 0 → ⊥) → table_fits t ≡ true → held_in kind t ≡ first_of kind 0 t.types t.lengths
unfolding held_in
held_searched kind t k f = rw (le-leb 1 kind (omega (arith, k)), f)

-- and any other table has nothing: what the test of the form says of an answer
module _ (kind : ℕ) (t : Table) {fits : Bool} (same : fits ≡ table_fits t) where
  pub searched_held : {x : Spot} → fits ≡ true → (kind ≡ 0 → ⊥) → x ≡ first_of kind 0 t.types t.lengths → x ≡ held_in kind t
  searched_held e k p = p ∙ sym (held_searched kind t k (sym same ∙ e))

  pub unfit_held : fits ≡ false → Nothing ≡ held_in kind t
  unfit_held e = sym (refused_none kind t (sym same ∙ e))

pub zero_held : (kind : ℕ) (t : Table) → kind ≡ 0 → Nothing ≡ held_in kind t
unfolding held_in
zero_held kind t e = rw e refl

-- what the first record holds, or else the second
module _ {f : Finding} (kind : ℕ) (t u : Table) (e : f ≡ held_by 1 (held_in kind t)) where
  pub or_first : f.holder ≡ 1 → f ≡ lookup kind t u
  or_first h = go (held_in kind t) e
    where
      go : (x : Spot) → f ≡ held_by 1 x → f ≡ or_else x (held_in kind u)
      go (At a n) p = p
      go Nothing p = absurd (omega (arith, h, ap (λ (q : Finding). q.holder) p))

  pub or_second : {g : Finding} → (f.holder ≡ 1 → ⊥) → g ≡ held_by 2 (held_in kind u) → g ≡ lookup kind t u
  or_second {g} h k = go (held_in kind t) e (held_in kind u) k
    where
      go : (x : Spot) → f ≡ held_by 1 x → (y : Spot) → g ≡ held_by 2 y → g ≡ or_else x y
      go (At a n) p y q = absurd (h (ap (λ (q : Finding). q.holder) p))
      go Nothing p (At a n) q = q
      go Nothing p Nothing q = q

-- the part that was found, in the area of its holder
module _ {f : Finding} (kind : ℕ) (t u : Table) (e : f ≡ lookup kind t u) where
  within : f.start + f.size ≤ length (area_of f.holder t.values u.values)
  within = rw e (found_within kind t u)

  pub in_first : (f.holder ≡ 2 → ⊥) → f.start + f.size ≤ length t.values
  in_first h = rw (ne_eqb f.holder 2 h) at within

  -- the empty part lies within the second area too
  pub in_second : (f.holder ≡ 1 → ⊥) → f.start + f.size ≤ length u.values
  in_second h = go (held_in kind t) refl (held_in kind u) refl
    where
      go : (x : Spot) → held_in kind t ≡ x → (y : Spot) → held_in kind u ≡ y → f.start + f.size ≤ length u.values
      go (At a n) p y q = absurd (h (rw (e, p)))
      go Nothing p (At a n) q = rw (e, p, q) (held_within kind u a n q)
      go Nothing p Nothing q = rw (e, p, q) (omega arith)

  module _ (first second r : Bor (List ℕ)) where
    pub of_first : (f.holder ≡ 2 → ⊥) → PartOf first f.start f.size r → Handed (lookup kind t u) first second r
    of_first h p = rw (← e, ne_eqb f.holder 2 h) p

    pub of_second : f.holder ≡ 2 → PartOf second f.start f.size r → Handed (lookup kind t u) first second r
    of_second h p = rw (← e, eq-eqb f.holder 2 h) p
