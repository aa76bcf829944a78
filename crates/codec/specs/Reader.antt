-- What the reader asks and gives.
use Rattle.std.specs.Prelude.{◌≡◌, true, List, ℕ, ◌+◌, ◌*◌, ◌≤◌, ◌<◌, Option, None, Some, Result, Ok, Err, is_ok, length, take, drop}
use Rattle.bits.specs.Bits.{bits_of, octets}
use Rattle.bits.specs.Reads.{FieldGives}
use Rattle.trees.specs.Rules.{max_nodes, max_bytes}
use Rattle.tables.specs.Limits.{header_bits}
use Rattle.tables.specs.Tables.{entry_of, entries, row_fits, first_bad, sum}
use Rattle.codec.specs.Reading.{Read, short, got, Reading}
use Rattle.codec.specs.declared.fill.Filled.{Filled}
use Rattle.codec.specs.declared.row.Row.{Row}

-- the field of n bits at a bit, or none where the bits end before it does
abbrev pub FieldIs : List ℕ → ℕ → ℕ → Option ℕ → Type 0
FieldIs s at n None = 8 * length s < at + n
FieldIs s at n (Some v) = (at + n ≤ 8 * length s) × FieldGives s at n v

-- x, what is read at a bit, is this row with the value at its bit
pub record RowIs (s : List ℕ) (at : ℕ) (x : Read) (r : Row) : Type 0 where
  pub entry : x ≡ got (entry_of r.kind r.count (octets r.length (drop r.from (bits_of s)))) (drop (r.from + 8 * r.length) (bits_of s))
  pub form : row_fits r.kind r.count r.length ≡ true
  pub onward : at ≤ r.from
  pub fits : r.from + 8 * r.length ≤ 8 * length s

abbrev pub RowGives : List ℕ → ℕ → Read → Option Row → Type 0
RowGives s at x None = x ≡ short
RowGives s at x (Some r) = RowIs s at x r

-- a slip with a header, and room for n rows and the values
pub record FillAsks (s : List ℕ) (n : ℕ) (types counts lengths values : List ℕ) : Type 0 where
  pub head : header_bits ≤ 8 * length s
  pub long : length s ≤ max_bytes
  pub few : n ≤ max_nodes
  pub types_room : n ≤ length types
  pub counts_room : n ≤ length counts
  pub lengths_room : n ≤ length lengths
  pub values_room : length s ≤ length values

-- the bit at which a reading stopped, whether all that was asked for was there or not
abbrev pub stop : Result ℕ ℕ → ℕ
stop (Ok at) = at
stop (Err at) = at

-- the table holds the rows x that were read, and the reading stopped behind them
pub record FillGives (s : List ℕ) (n : ℕ) (x : Reading) (r : Filled) (types counts lengths values : List ℕ) : Type 0 where
  pub rows : entries (take r.rows types) (take r.rows counts) (take r.rows lengths) (take r.used values) ≡ x.rows
  pub count : r.rows ≡ length x.rows
  pub few : r.rows ≤ n
  pub whole : is_ok r.rest ≡ x.whole
  pub rest : drop (stop r.rest) (bits_of s) ≡ x.rest
  pub within : stop r.rest ≤ 8 * length s
  pub form : first_bad 0 (take r.rows types) (take r.rows counts) (take r.rows lengths) ≡ r.rows
  pub used : r.used ≡ sum (take r.rows lengths)
  pub packed : 8 * r.used ≤ stop r.rest
  pub room : r.used ≤ length values
