-- What the pruner's steps ask and promise.
use Rattle.std.specs.Prelude.{ℕ, ◌+◌, ◌*◌, ◌≤◌, ◌<◌, true, ◌≡◌, List, [], ◌∷◌, ◌++◌, length, get_or}
use Rattle.trees.specs.Rules.{label_bytes}
use Rattle.trees.specs.Rows.{Entry}
use Rattle.tables.specs.Tables.{FormedIn, entries, row_fits}
use Rattle.prune_rows.specs.declared.marks.Mark.{Mark}
use Rattle.prune_rows.specs.Marks.{gone, cut_off}
use Rattle.prune_rows.specs.Picked.{picked, row_by, label_rows}
use Rattle.prune_rows.specs.Clauses.{Written}

-- k of the names are those of rows before row i
pub record Before (list : List ℕ) (i k : ℕ) : Type 0 where
  pub within : k ≤ length list
  pub low : (a : ℕ) → a < k → get_or list a 0 < i
  pub high : (a : ℕ) → k ≤ a → a < length list → i ≤ get_or list a 0

-- what one row more asks: room, a part as long as it says, and the form of a row
pub record PutAsks (t c l rows used : ℕ) (part types counts lengths values : List ℕ) : Type 0 where
  pub types_room : rows < length types
  pub counts_room : rows < length counts
  pub lengths_room : rows < length lengths
  pub values_room : used + l ≤ length values
  pub long : length part ≡ l
  pub fits : row_fits t c l ≡ true

-- from one state of the second table to the next: es are added behind the entries that it held
abbrev pub Adds : ℕ → ℕ → List ℕ → List ℕ → List ℕ → List ℕ → List Entry → ℕ → ℕ → List ℕ → List ℕ → List ℕ → List ℕ → Type 0
Adds rows used ts cs ls vs es rows' used' ts' cs' ls' vs' =
    (old : List Entry) → Written rows used ts cs ls vs old → Written rows' used' ts' cs' ls' vs' (old ++ es)

-- one entry more, with l bytes
pub record PutGives (e : Entry) (l rows used : ℕ) (ts cs ls vs : List ℕ) (rows' used' : ℕ) (ts' cs' ls' vs' : List ℕ) : Type 0 where
  pub row : rows' ≡ rows + 1
  pub bytes : used' ≡ used + l
  pub adds : Adds rows used ts cs ls vs (e ∷ []) rows' used' ts' cs' ls' vs'

-- one row of the first table, by its mark
pub record TurnGives
    (mark : Mark) (l : ℕ) (e : Entry) (label : List ℕ) (rows used : ℕ) (ts cs ls vs : List ℕ)
    (rows' used' : ℕ) (ts' cs' ls' vs' : List ℕ) : Type 0 where
  pub row : rows' ≤ rows + 1
  pub bytes : used' ≤ used + l + label_bytes
  pub adds : Adds rows used ts cs ls vs (row_by mark e label) rows' used' ts' cs' ls' vs'

-- a table of the form with its labels and marks, of which only internal rows are cut off
pub record PickAsks (types counts lengths values labels : List ℕ) (marks : List Mark) : Type 0 where
  pub form : FormedIn types counts lengths values
  pub labels_room : label_bytes * length types ≤ length labels
  pub cuts : (k : ℕ) → k < length types → get_or marks k gone ≡ cut_off → 0 < get_or counts k 0

-- what marks pick from a table
pub record PickGives (types counts lengths values labels : List ℕ) (marks : List Mark) (rows used : ℕ) (types2 counts2 lengths2 values2 : List ℕ) : Type 0 where
  pub no_more : rows ≤ length types
  pub table :
      Written rows used types2 counts2 lengths2 values2
      (picked row_by marks (entries types counts lengths values) (label_rows (length types) labels))
