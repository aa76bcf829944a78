-- What a pen has written, and what each of its calls adds.
use Rattle.std.specs.Prelude.{◌≡◌, List, ◌++◌, ℕ, ◌+◌, ◌*◌, ◌≤◌, ◌<◌, ◌^◌, length, take, drop}
use Rattle.bits.specs.Bits.{bits_in, bits_of, packed}
use Rattle.bits.specs.declared.pen.Pen.{Pen}

-- the bits written: those of the bytes before the pen, then those that it holds
unfoldable pub ink : Pen → List ℕ → List ℕ
ink pen out = bits_of (take pen.at out) ++ bits_in pen.held pen.acc

-- a pen that holds less than a byte
pub record PenReady (pen : Pen) (out : List ℕ) : Type 0 where
  pub few : pen.held < 8
  pub small : pen.acc < 2 ^ pen.held
  pub within : pen.at ≤ length out

-- n bits more fit
pub record PutAsks (pen : Pen) (n : ℕ) (out : List ℕ) : Type 0 where
  pub ready : PenReady pen out
  pub fits : 8 * pen.at + pen.held + n ≤ 8 * length out

-- the bits bs are written behind those before them, and nothing behind the pen is touched
pub record PutGives (pen : Pen) (out bs : List ℕ) (pen' : Pen) (out' : List ℕ) : Type 0 where
  pub bits : ink pen' out' ≡ ink pen out ++ bs
  pub ready : PenReady pen' out'
  pub size : 8 * pen'.at + pen'.held ≡ 8 * pen.at + pen.held + length bs
  pub rest : drop pen'.at out' ≡ drop pen'.at out

-- dst holds the first bits of `acc` and src, and `rest` the others
pub record ShiftGives (acc held : ℕ) (src : List ℕ) (rest : ℕ) (dst : List ℕ) : Type 0 where
  pub bits : bits_of dst ++ bits_in held rest ≡ bits_in held acc ++ bits_of src
  pub small : rest < 2 ^ held

-- what was written is packed into r bytes, and nothing behind them is touched
pub record FinishGives (pen : Pen) (out : List ℕ) (r : ℕ) (out' : List ℕ) : Type 0 where
  pub bytes : out' ≡ packed (ink pen out) ++ drop r out
  pub size : r ≡ length (packed (ink pen out))
