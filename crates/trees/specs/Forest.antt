-- Several trees that wait side by side: their rows end to end, their blocks, and that each keeps the rules.
use Rattle.std.specs.Prelude.{◌≡◌, refl, Bool, List, [], ◌∷◌, ◌++◌, ℕ, zero, suc, ◌+◌, ◌-◌, ◌≤◌, length, take, drop}
use Rattle.std.proofs.Common.{sym, ap, ap₂, ◌∙◌, append_assoc, append-nil, zero-add, arith, length-drop, take-append-drop}
use Rattle.trees.specs.Nodes.{Node, Run, inner, count, prelabel, heads, blocks_of, blocks, blocks_in}
use Rattle.trees.specs.Rules.{AllIn, NodeRules, LeafRules, Fit}
use Rattle.trees.specs.Rows.{Entry, node, rows, rows_in, kids, below, run_of, grow}

-- the rows of several trees, end to end
abbrev pub rows_all : List Node → List Entry
rows_all [] = []
rows_all (n ∷ ns) = rows n ++ rows_all ns

pub rows_all_append : (ns ms : List Node) → rows_all (ns ++ ms) ≡ rows_all ns ++ rows_all ms
rows_all_append [] ms = refl
rows_all_append (n ∷ ns) ms = ap (λ (l : List Entry). rows n ++ l) (rows_all_append ns ms) ∙ sym (append_assoc (rows n) (rows_all ns) (rows_all ms))

-- the rows of a run are those of its children
pub rows_run : (ns : List Node) → rows_in (run_of ns) ≡ rows_all ns
rows_run [] = refl
rows_run (n ∷ ns) = ap (λ (l : List Entry). rows n ++ l) (rows_run ns)

-- its count is their number
pub count_run : (ns : List Node) → count (run_of ns) ≡ length ns
count_run [] = refl
count_run (n ∷ ns) = ap suc (count_run ns)

-- the stack is what is below the last k, and the last k
pub below_kids : (k : ℕ) (ns : List Node) → below k ns ++ kids k ns ≡ ns
below_kids k ns = take-append-drop (length ns - k) ns

-- the last k, as the run of children that an internal node makes of them
abbrev pub last_run : ℕ → List Node → Run
last_run k ns = run_of (kids k ns)

-- it has k children
pub count_last : (k : ℕ) (ns : List Node) → k ≤ length ns → count (last_run k ns) ≡ k
count_last k ns h = count_run (kids k ns) ∙ length-drop (length ns - k) ns ∙ omega arith

-- an internal node over the last k is one row more
pub node_rows : (ns : List Node) (k : ℕ) → k ≤ length ns → rows_all (grow ns (node k)) ≡ rows_all ns ++ (node k ∷ [])
node_rows ns k h =
    rows_all_append (below k ns) (inner (last_run k ns) ∷ [])
    ∙ ap (λ (l : List Entry). rows_all (below k ns) ++ l) (append-nil (rows (inner (last_run k ns))))
    ∙ ap₂ (λ (l : List Entry) (c : ℕ). rows_all (below k ns) ++ (l ++ (node c ∷ []))) (rows_run (kids k ns)) (count_last k ns h)
    ∙ sym (append_assoc (rows_all (below k ns)) (rows_all (kids k ns)) (node k ∷ []))
    ∙ ap (λ (l : List Entry). l ++ (node k ∷ [])) (sym (rows_all_append (below k ns) (kids k ns)) ∙ ap rows_all (below_kids k ns))

module _ (H : List ℕ → List ℕ) where
  -- the blocks of several trees
  abbrev pub blocks_all : List Node → ℕ
  blocks_all [] = 0
  blocks_all (n ∷ ns) = blocks H n + blocks_all ns

  pub blocks_all_append : (ns ms : List Node) → blocks_all (ns ++ ms) ≡ blocks_all ns + blocks_all ms
  blocks_all_append [] ms = sym (zero-add (blocks_all ms))
  blocks_all_append (n ∷ ns) ms = let h : blocks_all (ns ++ ms) ≡ blocks_all ns + blocks_all ms = blocks_all_append ns ms in omega arith

  -- the blocks of a run are those of its children
  pub blocks_run : (ns : List Node) → blocks_in H (run_of ns) ≡ blocks_all ns
  blocks_run [] = refl
  blocks_run (n ∷ ns) = ap (λ (b : ℕ). blocks H n + b) (blocks_run ns)

  -- an internal node over the last k adds the blocks of its prelabel
  pub node_blocks : (ns : List Node) (k : ℕ)
      → blocks_all (grow ns (node k)) ≡ blocks_all ns + blocks_of (length (prelabel (heads H (last_run k ns))))
  node_blocks ns k =
      let whole : blocks_all (below k ns ++ kids k ns) ≡ blocks_all ns = ap blocks_all (below_kids k ns) in
      omega (
        arith,
        blocks_all_append (below k ns) (inner (last_run k ns) ∷ []),
        blocks_all_append (below k ns) (kids k ns),
        blocks_run (kids k ns),
        whole,
      )

module _ (H : List ℕ → List ℕ) (composed : List ℕ → Bool) where
  -- each of several trees keeps the rules
  abbrev pub AllFit : List Node → Type 0
  AllFit [] = Unit {0}
  AllFit (n ∷ ns) = Fit H composed n × AllFit ns

  -- of trees put side by side, of the first and of the last of them
  pub fit_append : (ns ms : List Node) → AllFit ns → AllFit ms → AllFit (ns ++ ms)
  fit_append [] ms f g = g
  fit_append (n ∷ ns) ms f g = (f.0, fit_append ns ms f.1 g)

  pub fit_take : (k : ℕ) (ns : List Node) → AllFit ns → AllFit (take k ns)
  fit_take zero ns f = tt
  fit_take (suc k) [] f = tt
  fit_take (suc k) (n ∷ ns) f = (f.0, fit_take k ns f.1)

  pub fit_drop : (k : ℕ) (ns : List Node) → AllFit ns → AllFit (drop k ns)
  fit_drop zero ns f = f
  fit_drop (suc k) [] f = tt
  fit_drop (suc k) (n ∷ ns) f = fit_drop k ns f.1

  -- so the children of a run keep the rules
  pub fit_run : (ns : List Node) → AllFit ns → AllIn H NodeRules (LeafRules composed) (run_of ns)
  fit_run [] f = tt
  fit_run (n ∷ ns) f = (f.0.rules, fit_run ns f.1)
