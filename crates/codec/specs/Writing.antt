-- "Slip bits": the header, one entry a node, and the zero bits to the byte's end.
use Rattle.std.specs.Prelude.{ℕ, zero, suc, ◌-◌, List, [], ◌∷◌, ◌++◌, length}
use Rattle.bits.specs.Bits.{bits_in, bits_of, packed}
use Rattle.trees.specs.Rows.{Entry, node, tip}
use Rattle.tables.specs.Limits.{edition, edition_bits, count_bits, child_bits, type_bits, length_bits}

-- "for type 0 the 256 bits of its label, otherwise the length in 9 bits and the value"
unfoldable pub leaf_bits : ℕ → List ℕ → List ℕ
leaf_bits zero v = bits_of v
leaf_bits (suc t) v = bits_in length_bits (length v) ++ bits_of v

-- "Internal: bit 1, then children minus 1 in 5 bits. Leaf: bit 0, type in 10 bits; then .."
unfoldable pub entry_bits : Entry → List ℕ
entry_bits (node k) = 1 ∷ bits_in child_bits (k - 1)
entry_bits (tip t v) = 0 ∷ (bits_in type_bits t ++ leaf_bits t v)

-- the entries' bits end to end
unfoldable pub all_bits : List Entry → List ℕ
all_bits [] = []
all_bits (e ∷ es) = entry_bits e ++ all_bits es

-- "Edition, 6 bits, equal to 1. Node count, 10 bits"; then "One entry a node"
unfoldable pub slip_bits : List Entry → List ℕ
slip_bits es = bits_in edition_bits edition ++ (bits_in count_bits (length es) ++ all_bits es)

-- the slip of a list of entries
unfoldable pub slip_of : List Entry → List ℕ
slip_of es = packed (slip_bits es)
