-- The lookup on each side of its rules, computed.
use Rattle.std.specs.Prelude.{ℕ, ◌≡◌, refl, [], ◌∷◌, ◌++◌, replicate, take, drop}
use Rattle.tables.specs.Tables.{Table, table, columns_fit, row_fits, first_bad, sum, table_fits}
use Rattle.lookup.specs.Lookup.{Finding, first_of, held_in, lookup}

-- a salt of 32 bytes 7, raw values of the types 600 (8 9, then 10) and 601 (empty), under one root
abbrev full : Table
full =
    table (1 ∷ 600 ∷ 600 ∷ 601 ∷ 0 ∷ []) (0 ∷ 0 ∷ 0 ∷ 0 ∷ 4 ∷ []) (32 ∷ 2 ∷ 1 ∷ 0 ∷ 0 ∷ []) (replicate 32 7 ++ 8 ∷ 9 ∷ 10 ∷ [])

-- a salt of 32 bytes 5 and values of the types 600 (11) and 602 (12 13)
abbrev other : Table
other = table (1 ∷ 600 ∷ 602 ∷ 0 ∷ []) (0 ∷ 0 ∷ 0 ∷ 3 ∷ []) (32 ∷ 1 ∷ 2 ∷ 0 ∷ []) (replicate 32 5 ++ 11 ∷ 12 ∷ 13 ∷ [])

-- a salt of 32 bytes alone
abbrev bare : Table
bare = table (1 ∷ 0 ∷ []) (0 ∷ 1 ∷ []) (32 ∷ 0 ∷ []) (replicate 32 5)

-- `other` with one byte more in its area, with a row of type 1,024, and with a length missing: number 16 refuses each
abbrev long : Table
long = table other.types other.counts other.lengths (other.values ++ 14 ∷ [])

abbrev foreign : Table
foreign = table (1 ∷ 600 ∷ 1024 ∷ 0 ∷ []) other.counts other.lengths other.values

abbrev uneven : Table
uneven = table other.types other.counts (32 ∷ 1 ∷ 2 ∷ []) other.values

-- a value with no node above it, which 9 would refuse
abbrev rootless : Table
rootless = table (600 ∷ []) (0 ∷ []) (1 ∷ []) (9 ∷ [])

abbrev found : ℕ → ℕ → ℕ → Finding
found h a n = record { holder = h; start = a; size = n }

pub record Examples : Type 0 where
  pub in_first : lookup 600 full bare ≡ found 1 32 2
  pub in_second : lookup 602 full other ≡ found 2 33 2
  pub in_both : lookup 600 other full ≡ found 1 32 1
  pub in_neither : lookup 603 full other ≡ found 0 0 0
  -- a found empty value is the empty part at its own offset
  pub empty_value : lookup 601 other full ≡ found 2 35 0
  -- "A table that number 16 would refuse holds nothing"
  pub long_area : lookup 600 long full ≡ found 2 32 2
  pub foreign_row : lookup 1024 foreign foreign ≡ found 0 0 0
  pub uneven_columns : lookup 602 uneven uneven ≡ found 0 0 0
  -- only 16 empties a table
  pub no_tree : lookup 600 rootless full ≡ found 1 0 1
  -- "type 0 is never found", though every tree has a row of it
  pub type_0 : lookup 0 full other ≡ found 0 0 0
  -- a salt is found
  pub salt : lookup 1 foreign bare ≡ found 2 0 32
  -- the bytes of a part
  pub bytes : take 2 (drop 33 other.values) ≡ 12 ∷ 13 ∷ []

pub examples : Examples
unfolding columns_fit row_fits first_bad sum table_fits first_of held_in
examples = record {
  in_first = refl;
  in_second = refl;
  in_both = refl;
  in_neither = refl;
  empty_value = refl;
  long_area = refl;
  foreign_row = refl;
  uneven_columns = refl;
  no_tree = refl;
  type_0 = refl;
  salt = refl;
  bytes = refl;
}
