-- "All these limits bear one name each": those of the slip's bits. The limits of a tree stand in the crate trees.
use Rattle.std.specs.Prelude.{ℕ, ◌+◌}

-- "Edition, 6 bits, equal to 1."
abbrev pub edition : ℕ
edition = 1

abbrev pub edition_bits : ℕ
edition_bits = 6

-- "Node count, 10 bits"
abbrev pub count_bits : ℕ
count_bits = 10

-- the header's bits
abbrev pub header_bits : ℕ
header_bits = edition_bits + count_bits

-- "children minus 1 in 5 bits"
abbrev pub child_bits : ℕ
child_bits = 5

-- "type in 10 bits"
abbrev pub type_bits : ℕ
type_bits = 10

-- "the length in 9 bits"
abbrev pub length_bits : ℕ
length_bits = 9
