-- Reading entries from a slip's bits, whatever tree they make or fail to make.
use Rattle.std.specs.Prelude.{ℕ, zero, suc, ◌+◌, ◌*◌, Bool, true, false, cond, List, [], ◌∷◌, ltb, length, take, drop}
use Rattle.bits.specs.Bits.{num_of, octets}
use Rattle.trees.specs.Rules.{label_bytes}
use Rattle.trees.specs.Rows.{Entry, node, tip}
use Rattle.tables.specs.Limits.{child_bits, type_bits, length_bits}

-- One entry and the bits behind it, or: "bits end inside .. entry".
pub data Read : Type 0 where
  short : Read
  got : Entry → List ℕ → Read

-- n bits of b are asked for: short where b has fewer, else what f makes of b
abbrev pub with : ℕ → List ℕ → Read → Read
with n b r = cond (ltb (length b) n) short r

-- a leaf's value of n bytes at the head of b
unfoldable pub read_value : ℕ → ℕ → List ℕ → Read
read_value t n b = with (8 * n) b (got (tip t (octets n b)) (drop (8 * n) b))

-- "for type 0 the 256 bits of its label, otherwise the length in 9 bits and the value"
unfoldable pub read_leaf : ℕ → List ℕ → Read
read_leaf zero b = read_value 0 label_bytes b
read_leaf (suc t) b = with length_bits b (read_value (suc t) (num_of (take length_bits b)) (drop length_bits b))

-- "Internal: bit 1, then children minus 1 in 5 bits. Leaf: bit 0, type in 10 bits; then .."
unfoldable pub read_rest : ℕ → List ℕ → Read
read_rest zero b = with type_bits b (read_leaf (num_of (take type_bits b)) (drop type_bits b))
read_rest (suc x) b = with child_bits b (got (node (num_of (take child_bits b) + 1)) (drop child_bits b))

unfoldable pub read_one : List ℕ → Read
read_one [] = short
read_one (x ∷ b) = read_rest x b

-- The entries read, the bits behind them, and whether all that were asked for are there.
pub record Reading : Type 0 where
  pub rows : List Entry
  pub rest : List ℕ
  pub whole : Bool

abbrev pub add : Entry → Reading → Reading
add e r = record { rows = e ∷ r.rows; rest = r.rest; whole = r.whole }

abbrev pub after : Read → List ℕ → (List ℕ → Reading) → Reading
after short b go = record { rows = []; rest = b; whole = false }
after (got e rest) b go = add e (go rest)

-- n entries, while the bits last
unfoldable pub read_all : ℕ → List ℕ → Reading
read_all zero b = record { rows = []; rest = b; whole = true }
read_all (suc n) b = after (read_one b) b (λ rest. read_all n rest)
