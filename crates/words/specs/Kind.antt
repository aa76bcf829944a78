-- What tells one hash of the SHA-2 family from another: the word's width, four functions and the constants.
use Rattle.std.specs.Prelude.{ℕ, ◌*◌, List}

pub record Kind : Type 0 where
  -- bits of a word, and bytes
  pub width : ℕ
  pub octets : ℕ
  -- section 4.1: Σ0, Σ1, σ0, σ1
  pub sum0 : ℕ → ℕ
  pub sum1 : ℕ → ℕ
  pub sigma0 : ℕ → ℕ
  pub sigma1 : ℕ → ℕ
  -- section 4.2: one constant a round, K
  pub constants : List ℕ
  -- section 5.3: the initial hash value, H(0)
  pub start : List ℕ

-- bytes of a block: 16 words
abbrev pub size : Kind → ℕ
size s = s.octets * 16
