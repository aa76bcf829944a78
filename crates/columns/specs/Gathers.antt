-- The table that a plan names.
use Rattle.std.specs.Prelude.{◌≡◌, List, map, ℕ, ◌≤◌, ◌<◌, length, take, get_or}
use Rattle.lists.specs.Lists.{concat}
use Rattle.trees.specs.Rules.{max_nodes}
use Rattle.tables.specs.Tables.{sum}
use Rattle.columns.specs.declared.gather.Gathered.{Gathered}
use Rattle.columns.specs.Columns.{value_at, Placed}

-- a cell of a column
abbrev pub cell_of : List ℕ → ℕ → ℕ
cell_of column x = get_or column x 0

-- every cell of the plan names one of n rows
abbrev pub InRange : List ℕ → ℕ → Type 0
InRange plan n = (k : ℕ) → k < length plan → get_or plan k 0 < n

-- a plan of rows of the columns, no more than a slip has
pub record Gatherable (plan types counts lengths values offsets : List ℕ) : Type 0 where
  pub few : length plan ≤ max_nodes
  pub in_range : InRange plan (length types)
  pub placed : Placed types counts lengths values offsets

-- and room for what it names
pub record GatherAsks (plan types counts lengths values offsets outTypes outCounts outLengths outValues : List ℕ) : Type 0 where
  pub plan_is : Gatherable plan types counts lengths values offsets
  pub types_room : length plan ≤ length outTypes
  pub counts_room : length plan ≤ length outCounts
  pub lengths_room : length plan ≤ length outLengths
  pub values_room : sum (map (cell_of lengths) plan) ≤ length outValues

-- the values of the rows named, end to end
abbrev pub values_of : List ℕ → List ℕ → List ℕ → List ℕ → List ℕ
values_of plan lengths values offsets = concat (map (value_at lengths values offsets) plan)

-- the columns hold the rows named, in order, and their values end to end
pub record GatherGives (plan types counts lengths values offsets outTypes outCounts outLengths outValues : List ℕ) (r : Gathered) : Type 0 where
  pub rows_are : r.rows ≡ length plan
  pub types_are : take r.rows outTypes ≡ map (cell_of types) plan
  pub counts_are : take r.rows outCounts ≡ map (cell_of counts) plan
  pub lengths_are : take r.rows outLengths ≡ map (cell_of lengths) plan
  pub used_is : r.used ≡ sum (map (cell_of lengths) plan)
  pub values_are : take r.used outValues ≡ values_of plan lengths values offsets
