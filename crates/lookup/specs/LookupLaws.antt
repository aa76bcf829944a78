-- What the definitions of the lookup say of one table: which row's value is held, where it lies, and what is never found.
use Rattle.std.specs.Prelude.{ℕ, zero, suc, ◌+◌, ◌≤◌, ◌<◌, ◌≡◌, refl, Bool, true, false, ◌&&◌, List, [], ◌∷◌, leb, eqb, length, get_or, take, drop}
use Rattle.std.proofs.Common.{sym, ◌∙◌, arith, eqb-true, leb-true, le-leb}
use Rattle.std.proofs.Math.Bool.{and-false}
use Rattle.std.proofs.lemmas.Bool.{eqb-false}
use Rattle.trees.specs.Rules.{max_type}
use Rattle.trees.specs.Rows.{Entry, tip}
use Rattle.lists.specs.TestsLaws.{and_left, and_right}
use Rattle.tables.specs.Tables.{Table, table_fits, entries, sum, Formed}
use Rattle.tables.specs.TablesLaws.{table_told, fits_cases, formed_row, sum_part, entries_at}
use Rattle.lookup.specs.Lookup.{Spot, At, Nothing, first_of, held_in}

-- a spot is a part or nothing, and never both
never : (a n : ℕ) → ◌≡◌ {A = Spot} Nothing (At a n) → ⊥
never a n e = let z : ◌≡◌ {A = ℕ} 0 1 = cc in omega arith

-- "the value of the first row of that type": the row, in columns whose first row's value starts at `at`
pub record Row (kind at : ℕ) (ts ls : List ℕ) (start size : ℕ) : Type 0 where
  pub number : ℕ
  pub typed_in : number < length ts
  pub measured_in : number < length ls
  pub typed : get_or ts number 0 ≡ kind
  pub first : (j : ℕ) → j < number → get_or ts j 0 ≡ kind → ⊥
  pub starts : start ≡ at + sum (take number ls)
  pub sized : size ≡ get_or ls number 0

-- the first row, and a row behind one of another type
here : (kind at t l : ℕ) (ts ls : List ℕ) (a n : ℕ) → t ≡ kind → At at l ≡ At a n → Row kind at (t ∷ ts) (l ∷ ls) a n
unfolding sum
here kind at t l ts ls a n e f =
    let p : at ≡ a = cc in
    record {
      number = 0;
      typed_in = omega arith;
      measured_in = omega arith;
      typed = e;
      first = λ j h. absurd (omega arith);
      starts = omega arith;
      sized = cc;
    }

later :
    (kind at t l : ℕ) (ts ls : List ℕ) (a n : ℕ)
    → (t ≡ kind → ⊥)
    → Row kind (at + l) ts ls a n
    → Row kind at (t ∷ ts) (l ∷ ls) a n
unfolding sum
later kind at t l ts ls a n e r = record {
  number = suc r.number;
  typed_in = omega (arith, r.typed_in);
  measured_in = omega (arith, r.measured_in);
  typed = r.typed;
  first = before;
  starts = omega (arith, r.starts);
  sized = r.sized;
}
  where
    before : (j : ℕ) → j < suc r.number → get_or (t ∷ ts) j 0 ≡ kind → ⊥
    before zero h f = e f
    before (suc j) h f = r.first j (omega arith) f

first_row : (kind at : ℕ) (ts ls : List ℕ) (a n : ℕ) → first_of kind at ts ls ≡ At a n → Row kind at ts ls a n
unfolding first_of
first_row kind at [] ls a n e = absurd (never a n e)
first_row kind at (t ∷ ts) [] a n e = absurd (never a n e)
first_row kind at (t ∷ ts) (l ∷ ls) a n e = go (eqb t kind) refl (first_row kind (at + l) ts ls a n)
  where
    go : (b : Bool) → eqb t kind ≡ b → (first_of kind (at + l) ts ls ≡ At a n → Row kind (at + l) ts ls a n) → Row kind at (t ∷ ts) (l ∷ ls) a n
    go true f next = here kind at t l ts ls a n (eqb-true t kind f) (rw f at e)
    go false f next = later kind at t l ts ls a n (eqb-false t kind f) (next (rw f at e))

-- where nothing is found no row has the type
no_row : (kind at : ℕ) (ts ls : List ℕ) → length ls ≡ length ts → first_of kind at ts ls ≡ Nothing → (j : ℕ) → j < length ts → get_or ts j 0 ≡ kind → ⊥
unfolding first_of
no_row kind at [] ls m e j h f = omega arith
no_row kind at (t ∷ ts) [] m e j h f = omega arith
no_row kind at (t ∷ ts) (l ∷ ls) m e j h f = go (eqb t kind) refl (no_row kind (at + l) ts ls (omega arith)) j h f
  where
    go :
        (b : Bool)
        → eqb t kind ≡ b
        → (first_of kind (at + l) ts ls ≡ Nothing → (j : ℕ) → j < length ts → get_or ts j 0 ≡ kind → ⊥)
        → (j : ℕ)
        → j < length (t ∷ ts)
        → get_or (t ∷ ts) j 0 ≡ kind
        → ⊥
    go true g next j h f = never at l (sym (rw g at e))
    go false g next zero h f = eqb-false t kind g f
    go false g next (suc j) h f = next (rw g at e) j (omega arith) f

-- what a table holds of a type is the value of its first row of that type; it has the form, and the type is no 0
pub record Holds (kind : ℕ) (t : Table) (start size : ℕ) : Type 0 where
  pub formed : Formed t
  pub proper : 1 ≤ kind
  pub row : Row kind 0 t.types t.lengths start size

pub held_told : (kind : ℕ) (t : Table) (a n : ℕ) → held_in kind t ≡ At a n → Holds kind t a n
unfolding held_in
held_told kind t a n e = go (leb 1 kind && table_fits t) refl
  where
    go : (b : Bool) → (leb 1 kind && table_fits t) ≡ b → Holds kind t a n
    go true f = record {
      formed = table_told t (and_right (leb 1 kind) (table_fits t) f);
      proper = leb-true 1 kind (and_left (leb 1 kind) (table_fits t) f);
      row = first_row kind 0 _ _ a n (rw f at e);
    }
    go false f = absurd (never a n (rw f at e))

-- a table of the form that holds nothing of a type from 1 on has no row of it
pub held_none :
    (kind : ℕ) (t : Table)
    → 1 ≤ kind
    → table_fits t ≡ true
    → held_in kind t ≡ Nothing
    → (j : ℕ)
    → j < length t.types
    → get_or t.types j 0 ≡ kind
    → ⊥
unfolding held_in
held_none kind t p f e =
    no_row kind 0 t.types t.lengths (table_told t f).columns.lengths_long (rw (le-leb 1 kind p, f) at e)

-- "A table that number 16 would refuse holds nothing"
pub refused_none : (kind : ℕ) (t : Table) → table_fits t ≡ false → held_in kind t ≡ Nothing
unfolding held_in
refused_none kind t e = rw (e, and-false)

-- "type 0 is never found"
pub zero_none : (t : Table) → held_in 0 t ≡ Nothing
unfolding held_in
zero_none t = refl

-- a type above 1,023 is never found
pub above_none : (kind : ℕ) (t : Table) → max_type < kind → held_in kind t ≡ Nothing
above_none kind t h = go (held_in kind t) refl
  where
    go : (s : Spot) → held_in kind t ≡ s → held_in kind t ≡ Nothing
    go Nothing e = e
    go (At a n) e =
        let k = held_told kind t a n e in
        let r = k.row in
        absurd (fits_cases _ _ _ (formed_row t k.formed r.number r.typed_in)
        (λ z. omega (arith, r.typed, k.proper))
        (λ m z. omega (arith, r.typed)))

-- the part lies within the area
pub held_within : (kind : ℕ) (t : Table) (a n : ℕ) → held_in kind t ≡ At a n → a + n ≤ length t.values
held_within kind t a n e =
    let k = held_told kind t a n e in
    omega (arith, k.formed.area, k.row.starts, k.row.sized, sum_part t.lengths k.row.number k.row.measured_in)

-- the part's bytes are the value of the table's entry at that row
pub held_entry :
    (kind : ℕ) (t : Table) (a n : ℕ) (e : held_in kind t ≡ At a n) (d : Entry)
    → get_or (entries t.types t.counts t.lengths t.values) (held_told kind t a n e).row.number d
    ≡ tip kind (take n (drop a t.values))
held_entry kind t a n e d =
    let k = held_told kind t a n e in
    let r = k.row in
    let starts : sum (take r.number t.lengths) ≡ a = omega (arith, r.starts) in
    entries_at _ _ _ t.values k.formed.columns r.number d r.typed_in
    ∙ fits_cases _ _ _ (formed_row t k.formed r.number r.typed_in)
    (λ z. absurd (omega (arith, r.typed, k.proper)))
    (λ m z. rw (z, r.typed, ← r.sized, starts))
