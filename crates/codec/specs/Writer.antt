-- What the writer asks and gives.
use Rattle.std.specs.Prelude.{◌≡◌, List, ◌++◌, ℕ, ◌≤◌, ◌<◌, ◌^◌, length, drop}
use Rattle.tables.specs.Tables.{FormedIn, entries, sum}
use Rattle.tables.specs.Measure.{table_bits}
use Rattle.codec.specs.Writing.{slip_of}

pub record MeasureGives (types counts lengths : List ℕ) (r : ℕ) : Type 0 where
  pub bits : r ≡ table_bits types counts lengths
  pub small : r < 2 ^ 30

-- the bytes of the table's slip, whatever the values
abbrev pub SizeGives : List ℕ → List ℕ → List ℕ → ℕ → Type 0
SizeGives ts cs ls r = (vs : List ℕ) → sum ls ≤ length vs → r ≡ length (slip_of (entries ts cs ls vs))

-- a table of the form, with its values and room for its slip
pub record WriteAsks (types counts lengths values out : List ℕ) : Type 0 where
  pub form : FormedIn types counts lengths values
  pub room : length (slip_of (entries types counts lengths values)) ≤ length out

-- the slip's r bytes, and nothing behind them is touched
pub record WriteGives (types counts lengths values out : List ℕ) (r : ℕ) (out' : List ℕ) : Type 0 where
  pub bytes : out' ≡ slip_of (entries types counts lengths values) ++ drop r out
  pub size : r ≡ length (slip_of (entries types counts lengths values))
