-- The definitions on document 01's own slips.
use Rattle.std.specs.Prelude.{◌≡◌, refl, true, false, List, [], ◌∷◌, ◌++◌, ℕ, length, take, drop, replicate}
use Rattle.bits.specs.Bits.{bits_in, bits_of, num_of, octets, packed}
use Rattle.trees.specs.Rows.{Entry, node, tip}
use Rattle.codec.specs.Writing.{leaf_bits, entry_bits, all_bits, slip_bits, slip_of}
use Rattle.codec.specs.Reading.{read_value, read_leaf, read_rest, read_one, read_all}
use Rattle.tables.specs.Limits.{header_bits}

-- "`04 01 00 1f`, then 31 bytes `ff`, then `e0`": one dangling root
abbrev bare : List ℕ
bare = 4 ∷ 1 ∷ 0 ∷ 31 ∷ (replicate 31 255 ++ (224 ∷ []))

bare_written : slip_of (tip 0 (replicate 32 255) ∷ []) ≡ bare
unfolding slip_of slip_bits all_bits entry_bits leaf_bits packed octets num_of bits_of bits_in
bare_written = refl

bare_read : read_all 1 (drop header_bits (bits_of bare)) ≡ record { rows = tip 0 (replicate 32 255) ∷ []; rest = replicate 5 0; whole = true }
unfolding read_all read_one read_rest read_leaf read_value octets num_of bits_of bits_in
bare_read = refl

-- "without it: 2 at 0": the bits end inside the entry
bare_short : (read_all 1 (drop header_bits (bits_of (take 35 bare)))).whole ≡ false
unfolding read_all read_one read_rest read_leaf read_value octets num_of bits_of bits_in
bare_short = refl

-- "A root with salt and a five-byte title: 358 bits, 45 bytes"
abbrev titled : List Entry
titled = tip 1 (replicate 32 7) ∷ tip 2 (67 ∷ 105 ∷ 116 ∷ 195 ∷ 169 ∷ []) ∷ node 2 ∷ []

titled_bits : length (slip_bits titled) ≡ 358
unfolding slip_bits all_bits entry_bits leaf_bits bits_of bits_in
titled_bits = refl

titled_bytes : length (slip_of titled) ≡ 45
unfolding slip_of slip_bits all_bits entry_bits leaf_bits packed octets num_of bits_of bits_in
titled_bytes = refl
