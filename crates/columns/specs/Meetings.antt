-- How two rows meet.
use Rattle.std.specs.Prelude.{cond, List, ℕ, eqb, get_or}
use Rattle.trees.specs.Nodes.{Head}
use Rattle.columns.specs.declared.meet.Meeting.{Meeting}
use Rattle.columns.specs.declared.meet.Meeting.TheVariants.{Clash, Take, Both}
use Rattle.columns.specs.Columns.{heads_back, heads_agree}

-- at a leaf the other's subtree is taken, and the first's leaf where both are leaves;
-- "a clash is a shared place, internal in both, where the prelabels differ"
abbrev pub meeting_at : (ℕ → Head) → List ℕ → List ℕ → ℕ → ℕ → Meeting
meeting_at head counts starts i j =
    cond (eqb (get_or counts j 0) 0) (Take i)
    (cond (eqb (get_or counts i 0) 0) (Take j)
    (cond (eqb (get_or counts i 0) (get_or counts j 0))
    (cond (heads_agree (heads_back head starts (get_or counts i 0) i) (heads_back head starts (get_or counts i 0) j)) Both Clash)
    Clash))
