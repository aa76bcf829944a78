-- The rule of the pruning list: "entry numbers of internal nodes, strictly rising"; and where it is broken, the index told.
use Rattle.std.specs.Prelude.{ℕ, ◌≤◌, ◌<◌, ◌≡◌, List, length, get_or, take}

-- "strictly rising"
abbrev pub Rising : List ℕ → Type 0
Rising list = (a b : ℕ) → a < b → b < length list → get_or list a 0 < get_or list b 0

-- "names entry numbers of internal nodes": every number of the list is that of a row with children
abbrev pub NamesInner : List ℕ → List ℕ → Type 0
NamesInner counts list = (k : ℕ) → k < length list → 0 < get_or counts (get_or list k 0) 0

-- the number at index k is faulty: "not rising, out of range, or not an internal node"
pub data Faulty (counts list : List ℕ) (k : ℕ) : Type 0 where
  falls : (j : ℕ) → j < k → get_or list k 0 ≤ get_or list j 0 → Faulty counts list k
  outside : length counts ≤ get_or list k 0 → Faulty counts list k
  childless : get_or list k 0 < length counts → get_or counts (get_or list k 0) 0 ≡ 0 → Faulty counts list k

-- "the first faulty index in the list": the numbers before it keep the rule, and it is faulty
pub record FaultAt (counts list : List ℕ) (k : ℕ) : Type 0 where
  pub within : k < length list
  pub rising : Rising (take k list)
  pub inner : NamesInner counts (take k list)
  pub fault : Faulty counts list k

-- a list that keeps the rule, in which no number is below low
pub record Clean (counts : List ℕ) (low : ℕ) (list : List ℕ) : Type 0 where
  pub above : (k : ℕ) → k < length list → low ≤ get_or list k 0
  pub rising : Rising list
  pub inner : NamesInner counts list
