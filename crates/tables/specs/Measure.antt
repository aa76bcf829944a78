-- The size of a slip in bits, over the columns of its table.
use Rattle.std.specs.Prelude.{ℕ, zero, suc, ◌+◌, ◌*◌, List, [], ◌∷◌}
use Rattle.tables.specs.Limits.{header_bits, child_bits, type_bits, length_bits}

-- "An entry takes 6, 267 or 20 + 8 × length bits."
unfoldable pub row_bits : ℕ → ℕ → ℕ → ℕ
row_bits t (suc c) l = 1 + child_bits
row_bits zero zero l = 1 + type_bits + 8 * l
row_bits (suc t) zero l = 1 + type_bits + length_bits + 8 * l

-- the rows', end to end
unfoldable pub rows_bits : List ℕ → List ℕ → List ℕ → ℕ
rows_bits [] cs ls = 0
rows_bits (t ∷ ts) [] ls = 0
rows_bits (t ∷ ts) (c ∷ cs) [] = 0
rows_bits (t ∷ ts) (c ∷ cs) (l ∷ ls) = row_bits t c l + rows_bits ts cs ls

-- with the header's
unfoldable pub table_bits : List ℕ → List ℕ → List ℕ → ℕ
table_bits ts cs ls = header_bits + rows_bits ts cs ls
