-- The blocks of a table's tree, from its counts and lengths: a walk of the rows that holds only the sizes of the pieces that wait, the last at the end.
use Rattle.std.specs.Prelude.{ℕ, ◌+◌, ◌-◌, ◌≤◌, cond, List, [], ◌∷◌, ◌++◌, ◌≡◌, eqb, length}
use Rattle.trees.specs.Nodes.{Node, head_bytes, blocks_of, blocks}
use Rattle.trees.specs.Rules.{label_bytes}
use Rattle.trees.specs.Rows.{kids, below}
use Rattle.tables.specs.Records.{TreeTable}
use Rattle.tables.specs.Tables.{sum}

-- The size of the piece that a row leaves waiting. A row that names no child is a leaf, and "its value is its label", or "the label it
-- carries"; any other has a label of 32 bytes.
unfoldable pub piece_size : ℕ → ℕ → ℕ
piece_size c l = head_bytes + cond (eqb c 0) l label_bytes

-- "A prelabel of n bytes takes floor((n + 72) / 64) blocks": those of a row with c children whose pieces have the sizes ss; a leaf takes none
unfoldable pub row_blocks : ℕ → List ℕ → ℕ
row_blocks c ss = cond (eqb c 0) 0 (blocks_of (sum ss))

-- the sum over rows of their blocks, where pieces of the sizes st wait: a row takes its children's and leaves its own
unfoldable pub blocks_from : List ℕ → List ℕ → List ℕ → ℕ
blocks_from [] ls st = 0
blocks_from (c ∷ cs) [] st = 0
blocks_from (c ∷ cs) (l ∷ ls) st = row_blocks c (kids c st) + blocks_from cs ls (below c st ++ (piece_size c l ∷ []))

-- where d pieces wait, no row names more children than wait: none would be refused by number 5
abbrev pub Enough : List ℕ → ℕ → Type 0
Enough [] d = Unit {0}
Enough (c ∷ cs) d = (c ≤ d) × Enough cs (d - c + 1)

-- the counts and lengths are those of some tree's table
pub record BlocksAsks (counts lengths : List ℕ) : Type 0 where
  pub tree : Node
  pub types : List ℕ
  pub values : List ℕ
  pub table : TreeTable tree types counts lengths values

-- for every label function of 32 bytes and every tree whose table has these counts and lengths, the tree's blocks
abbrev pub BlocksGives : List ℕ → List ℕ → ℕ → Type 0
BlocksGives counts lengths r =
    (H : List ℕ → List ℕ)
    → ((x : List ℕ) → length (H x) ≡ label_bytes)
    → (n : Node) (types values : List ℕ)
    → TreeTable n types counts lengths values
    → r ≡ blocks H n
