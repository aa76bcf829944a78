-- "The lookup takes two unpacked records and a type of 1 or above, and hands back a part of the first record's value area, or else of
-- the second's"; "A separate question says which record has it: 0, 1 or 2."
use Rattle.std.specs.Prelude.{ℕ, ◌+◌, ◌≡◌, cond, Option, Some, None, ◌&&◌, List, [], ◌∷◌, leb, eqb, take, drop}
use Rattle.std.specs.Borrow.{Bor}
use Rattle.tables.specs.Tables.{Table, table_fits}
use Rattle.lookup.specs.declared.held.Span.{Span}
use Rattle.lookup.specs.declared.Found.{Found}
use Rattle.lookup.specs.declared.Found.TheVariants.{First, Second}

-- a part of a table's values area, by its start and size; or no part
pub data Spot : Type 0 where
  At : ℕ → ℕ → Spot
  Nothing : Spot

-- a part of a record's values area: which record, where the part starts and how long it is. Of no record, 0, where nothing is found.
pub record Finding : Type 0 where
  pub holder : ℕ
  pub start : ℕ
  pub size : ℕ

-- the code's part of an area, and its finding
abbrev pub spot_of : Option Span → Spot
spot_of None = Nothing
spot_of (Some p) = At p.start p.size

abbrev pub finding_of : Option Found → Finding
finding_of None = record { holder = 0; start = 0; size = 0 }
finding_of (Some (First p)) = record { holder = 1; start = p.start; size = p.size }
finding_of (Some (Second p)) = record { holder = 2; start = p.start; size = p.size }

-- "the value of the first row of that type": its part of an area whose first row's value starts at `at`, the others' end to end behind it
unfoldable pub first_of : ℕ → ℕ → List ℕ → List ℕ → Spot
first_of kind at [] ls = Nothing
first_of kind at (t ∷ ts) [] = Nothing
first_of kind at (t ∷ ts) (l ∷ ls) = cond (eqb t kind) (At at l) (first_of kind (at + l) ts ls)

-- "A table that number 16 would refuse holds nothing, and type 0 is never found."
unfoldable pub held_in : ℕ → Table → Spot
held_in kind t = cond (leb 1 kind && table_fits t) (first_of kind 0 t.types t.lengths) Nothing

-- what is held by the record of that number
abbrev pub held_by : ℕ → Spot → Finding
held_by h (At a n) = record { holder = h; start = a; size = n }
held_by h Nothing = record { holder = 0; start = 0; size = 0 }

-- "of the first record's value area, or else of the second's"; "Nothing found: the empty part at the start of the first area."
abbrev pub or_else : Spot → Spot → Finding
or_else (At a n) s = record { holder = 1; start = a; size = n }
or_else Nothing (At a n) = record { holder = 2; start = a; size = n }
or_else Nothing Nothing = record { holder = 0; start = 0; size = 0 }

-- what is found of a type in two records
abbrev pub lookup : ℕ → Table → Table → Finding
lookup kind t u = or_else (held_in kind t) (held_in kind u)

-- the area that a finding is a part of: the second's for holder 2, else the first's
abbrev pub area_of {ℓ} : {A : Type ℓ} → ℕ → A → A → A
area_of holder first second = cond (eqb holder 2) second first

-- r is the part of `area` from `start` on, `size` bytes long: it lies there in memory, and has its bytes
pub record PartOf (area : Bor (List ℕ)) (start size : ℕ) (r : Bor (List ℕ)) : Type 0 where
  pub place : r.ref_ptr ≡ (area.ref_ptr.0, start + area.ref_ptr.1)
  pub bytes : r.now ≡ take size (drop start area.now)

-- r is the part that was found, of one of two areas
abbrev pub Handed : Finding → Bor (List ℕ) → Bor (List ℕ) → Bor (List ℕ) → Type 0
Handed f first second r = PartOf (area_of f.holder first second) f.start f.size r
