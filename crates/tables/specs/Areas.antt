-- The areas of a small slip.
use Rattle.std.specs.Prelude.{ℕ}

-- the code's `Small::BYTES`
abbrev pub small_bytes : ℕ
small_bytes = 4608

-- the code's `Small::NODES`
abbrev pub small_nodes : ℕ
small_nodes = 128
