-- The rows in turn: what holds before row i.
use Prim.Native.Nat.{ℕ, ◌+◌, ◌*◌, ◌^◌, ◌≤◌, ◌<◌}
use mathlib.Core.Path.{◌≡◌, refl}
use mathlib.Core.Bool.{true}
use mathlib.Core.List.{List, [], ◌++◌}
use native.Mathlib.Omega.{arith}
use lib.ListN.{length, drop}
use Rattle.lists.specs.Lists.{all}
use Rattle.trees.specs.Nodes.{head_bytes}
use Rattle.trees.specs.Rules.{max_value}
use Rattle.trees.specs.Rows.{Entry, judged, verdict}
use Rattle.tables.specs.Tables.{Table, entries, sum}
use Rattle.sha256.specs.Sha256 as Sha256
use Rattle.titles.specs.Compose.{composed_text}
use Rattle.engine.specs.Engine.{tops}
use Rattle.stack.specs.Areas.{Held, pieces}
use Rattle.engine.proofs.Growing.{whole}
use Rattle.engine.proofs.Noting.{RowNoted}

abbrev pub rows_of : Table → List Entry
rows_of t = entries t.types t.counts t.lengths t.values

-- the entries from row i on, whose values begin at `at`
abbrev pub rest : Table → ℕ → ℕ → List Entry
rest t i at = entries (drop i t.types) (drop i t.counts) (drop i t.lengths) (drop at t.values)

-- Before row i: the verdict is that of the rows left on the stack, and the labels of the rows before are noted.
pub record Going (t : Table) (i at : ℕ) (s : Held) (labels : List ℕ) : Type 0 where
  pub before : List (List ℕ)
  pub whole_labels : all whole s.tags ≡ true
  pub verdict_is : verdict Sha256.label composed_text (rows_of t) ≡ judged Sha256.label composed_text (rest t i at) i s.tags s.blocks
  pub tops_are : tops Sha256.label composed_text [] (rows_of t) ≡ before ++ tops Sha256.label composed_text s.tags (rest t i at)
  pub passed : length before ≡ i
  pub noted : (k : ℕ) → k < i → RowNoted t.counts labels before k
  pub used : at + sum (drop i t.lengths) ≡ sum t.lengths
  pub few : length s.tags ≤ i
  pub low : length (pieces s.tags) ≤ head_bytes * i + at
  pub small : at ≤ max_value * i
  pub counted : s.blocks ≤ 2 ^ 15 * i

-- before the first row
pub going_start : (t : Table) (labels : List ℕ) → Going t 0 0 (record { tags = []; blocks = 0 }) labels
going_start t labels =
    record {
      before = [];
      whole_labels = refl;
      verdict_is = refl;
      tops_are = refl;
      passed = refl;
      noted = λ k h. absurd (omega arith);
      used = omega arith;
      few = omega arith;
      low = omega arith;
      small = omega arith;
      counted = omega arith;
    }
