-- The walk on small tables, and a table that the call takes.
use Rattle.std.specs.Prelude.{◌≡◌, refl, [], ◌∷◌}
use Rattle.std.proofs.Common.{lit≤}
use Rattle.trees.specs.Nodes.{inner, leaf, nil, cons}
use Rattle.tables.specs.Tables.{row_fits, first_bad, sum}
use Rattle.send.specs.Blocks.{piece_size, row_blocks, blocks_from, BlocksAsks}

-- "A root with salt and a five-byte title: .. its prelabel is 45 bytes too."
salt_and_title : blocks_from (0 ∷ 0 ∷ 2 ∷ []) (32 ∷ 5 ∷ 0 ∷ []) [] ≡ 1
unfolding blocks_from row_blocks piece_size sum
salt_and_title = refl

-- "55 bytes take 1": a salt and fifteen bytes
one_block : blocks_from (0 ∷ 0 ∷ 2 ∷ []) (32 ∷ 15 ∷ 0 ∷ []) [] ≡ 1
unfolding blocks_from row_blocks piece_size sum
one_block = refl

-- "56 take 2"
two_blocks_lem : blocks_from (0 ∷ 0 ∷ 2 ∷ []) (32 ∷ 16 ∷ 0 ∷ []) [] ≡ 2
unfolding blocks_from row_blocks piece_size sum
two_blocks_lem = refl

-- a dangling child beside an internal one: two labels of 32 bytes make 72, and a third 108
two_levels : blocks_from (0 ∷ 0 ∷ 1 ∷ 2 ∷ 0 ∷ 0 ∷ 3 ∷ []) (32 ∷ 0 ∷ 0 ∷ 0 ∷ 32 ∷ 32 ∷ 0 ∷ []) [] ≡ 5
unfolding blocks_from row_blocks piece_size sum
two_levels = refl

-- what the call asks can be met: a root with one raw byte
one_byte : BlocksAsks (0 ∷ 1 ∷ []) (1 ∷ 0 ∷ [])
unfolding first_bad row_fits sum
one_byte =
    record {
      tree = inner (cons (leaf 600 (7 ∷ [])) nil);
      types = 600 ∷ 0 ∷ [];
      values = 7 ∷ [];
      table = record { form = record { columns = record { counts_long = refl; lengths_long = refl; few = lit≤ tt }; rows = refl; area = lit≤ tt }; rows_are = refl };
    }
