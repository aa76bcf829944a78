-- What the refusals 5 to 9 of a list of entries mean of trees.
use Rattle.std.specs.Prelude.{◌≡◌, Bool, false, List, [], ◌∷◌, ◌++◌, ℕ, ◌≤◌, ◌<◌, length}
use Rattle.trees.specs.Nodes.{Node, inner, type_of, height, heads}
use Rattle.outcomes.specs.Refusals.{children_missing, too_high, salt_broken, not_composed}
use Rattle.trees.specs.Rules.{max_height, salted, text_fits}
use Rattle.trees.specs.Rows.{Entry, node, tip}
use Rattle.trees.specs.Forest.{rows_all, last_run, AllFit}

module _ (H : List ℕ → List ℕ) (composed : List ℕ → Bool) where
  -- The rule that an entry breaks where the trees ns wait, by its number; "5, 6, 7 at its internal node, 8 at its leaf", so the rules
  -- before it are kept. The last c of ns are to be the children.
  pub data Breaks (ns : List Node) : Entry → ℕ → Type 0 where
    -- "more children named than entries waiting"
    missing : {c : ℕ} → length ns < c → Breaks ns (node c) children_missing
    -- "height over 16"
    high : {c : ℕ} → c ≤ length ns → max_height < height (inner (last_run c ns)) → Breaks ns (node c) too_high
    -- "salt rule broken"
    unsalted : {c : ℕ} → c ≤ length ns → height (inner (last_run c ns)) ≤ max_height → salted (heads H (last_run c ns)) ≡ false → Breaks ns (node c) salt_broken
    -- "text value not composed"
    wrong : {t : ℕ} {v : List ℕ} → text_fits composed t v ≡ false → Breaks ns (tip t v) not_composed

  -- Refused with k at entry i: the entries before it are the rows, end to end, of trees that keep every rule, and entry i breaks rule k on them.
  pub record Broken (es : List Entry) (k i : ℕ) : Type 0 where
    pub trees : List Node
    pub entry : Entry
    pub rest : List Entry
    pub split : rows_all trees ++ (entry ∷ rest) ≡ es
    pub place : i ≡ length (rows_all trees)
    pub fits : AllFit H composed trees
    pub breaks : Breaks trees entry k

  -- "not one tree with a root of type 0": the entries are the rows of trees that keep every rule, none or several, or of one pair
  pub record Scattered (es : List Entry) : Type 0 where
    pub trees : List Node
    pub exact : rows_all trees ≡ es
    pub fits : AllFit H composed trees
    pub other : (n : Node) → trees ≡ n ∷ [] → type_of n ≡ 0 → ⊥
