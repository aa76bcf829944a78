-- Document 01, "Titles": what the characters of a title are read as, and what they compose to.
use Rattle.std.specs.Prelude.{ℕ, Bool, true, false, cond, List, [], ◌∷◌, eqb}
use Rattle.nfc.specs.Repertoire.{plain}
use Rattle.nfc.specs.Pairs.{found, pairs}

-- "A mark directly after a letter joins it": the joined letter, or 0
unfoldable pub joined : ℕ → ℕ → ℕ
joined l m = found pairs l m

-- what a title is read as: characters that stay, letters that a mark joins, and the first bad character, which ends it
pub data Cluster : Type 0 where
  bad : (c : ℕ) → Cluster
  one : (c : ℕ) → Cluster
  two : (l m : ℕ) → Cluster

-- "A joined letter takes no further mark": a mark that joins nothing starts the next cluster, and is bad there
unfoldable pub clusters : List ℕ → List Cluster
clusters [] = []
clusters (c ∷ []) = cond (plain c) (one c ∷ []) (bad c ∷ [])
clusters (c ∷ (m ∷ cs)) =
    cond (plain c) (cond (eqb (joined c m) 0) (one c ∷ clusters (m ∷ cs)) (two c m ∷ clusters cs)) (bad c ∷ [])

-- the characters that clusters leave
unfoldable pub outs : List Cluster → List ℕ
outs [] = []
outs (bad c ∷ ps) = []
outs (one c ∷ ps) = c ∷ outs ps
outs (two l m ∷ ps) = joined l m ∷ outs ps

unfoldable pub none_bad : List Cluster → Bool
none_bad [] = true
none_bad (bad c ∷ ps) = false
none_bad (one c ∷ ps) = none_bad ps
none_bad (two l m ∷ ps) = none_bad ps

-- lengths aside: every character of a title is taken; and what it composes to
unfoldable pub accepts : List ℕ → Bool
accepts cs = none_bad (clusters cs)

unfoldable pub composed : List ℕ → List ℕ
composed cs = outs (clusters cs)
