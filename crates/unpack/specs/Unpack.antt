-- What the unpacker answers and leaves: "Unpacker: slip, 11."
use Rattle.std.specs.Prelude.{ℕ, Bool, List, map, take}
use Rattle.trees.specs.Rows.{Entry}
use Rattle.tables.specs.Tables.{Table, sum}
use Rattle.slips.specs.Check.{reading_of, check_of}
use Rattle.tables.specs.Cells.{type_cell, count_cell, length_cell, values_of}
use Rattle.outcomes.specs.Outcome.{Outcome}
use Rattle.answers.specs.declared.Answer.{Answer}
use Rattle.handing.specs.Handing.{handed_of}

-- the table of n rows at the start of four buffers: its rows, and as many values as their lengths sum to
abbrev pub table_in : ℕ → Table → Table
table_in n b =
    record {
      types = take n b.types;
      counts = take n b.counts;
      lengths = take n b.lengths;
      values = take (sum (take n b.lengths)) b.values;
    }

-- the table of a list of entries
abbrev pub table_of : List Entry → Table
table_of es = record { types = map type_cell es; counts = map count_cell es; lengths = map length_cell es; values = values_of es }

module _ (H : List ℕ → List ℕ) (composed : List ℕ → Bool) where
  -- the unpacking of a slip into four buffers
  unfoldable pub unpack_of : List ℕ → Table → Outcome Answer Table
  unpack_of s b = handed_of (check_of H composed s) (table_of (reading_of s).rows) b
