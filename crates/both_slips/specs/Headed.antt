-- A slip whose header is taken.
use Rattle.std.specs.Prelude.{ℕ, List, ◌≡◌}
use Rattle.outcomes.specs.Refusals.{accepted}
use Rattle.slips.specs.Check.{header_of}
use Rattle.slips.specs.Opening.{Counted}

-- a slip of n entries whose header is taken, of at most `bytes` bytes and `nodes` nodes
pub record Headed (s : List ℕ) (n bytes nodes : ℕ) : Type 0 where
  pub taken : (header_of s).number ≡ accepted
  pub is : Counted s n bytes nodes
