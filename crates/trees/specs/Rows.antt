-- The post-order rows of a tree, their entry numbers, and the stack of document 000, section 5.4.2, with document 01's refusals.
use Rattle.std.specs.Prelude.{Bool, cond, List, [], ◌∷◌, ◌++◌, map, ℕ, zero, suc, ◌+◌, ◌-◌, max, ltb, length, take, drop}
use Rattle.trees.specs.Nodes.{Node, Run, inner, leaf, nil, cons, type_of, count, size, sizes, height, Head, prelabel, label, blocks_of}
use Rattle.outcomes.specs.Refusals.{children_missing, too_high, salt_broken, not_composed}
use Rattle.trees.specs.Rules.{max_height, salted, count_fits, leaf_fits, text_fits}
use Rattle.trees.specs.Places.{Place}

-- "One entry a node": an internal node with its number of children, or a leaf with its type and its label or value.
pub data Entry : Type 0 where
  node : ℕ → Entry
  tip : ℕ → List ℕ → Entry

-- an entry of the form that document 01 gives a row: "a count of 1 to 32", "length 32", "type 1 to 1,023 .. and length 0 to 511"
abbrev pub formed : Entry → Bool
formed (node k) = count_fits k
formed (tip t v) = leaf_fits t v

-- the entries of a tree "in depth-first post order": 000's linear description (5.4.1)
abbrev mutual
  pub rows : Node → List Entry
  rows (inner r) = rows_in r ++ (node (count r) ∷ [])
  rows (leaf t v) = tip t v ∷ []

  -- of a run: the children's rows end to end
  pub rows_in : Run → List Entry
  rows_in nil = []
  rows_in (cons n r) = rows n ++ rows_in r

-- the entry of a tree's root, its last
abbrev pub last_row : Node → Entry
last_row (inner r) = node (count r)
last_row (leaf t v) = tip t v

-- the entry number of the node at a place, "numbered from 0"; a tree's root is its last entry
abbrev mutual
  pub number : Node → Place → ℕ
  number (inner r) [] = sizes r
  number (inner r) (i ∷ p) = number_in r i p
  number (leaf t v) p = 0

  -- below child i of a run, after the entries of the children before it
  pub number_in : Run → ℕ → Place → ℕ
  number_in nil i p = 0
  number_in (cons n r) zero p = number n p
  number_in (cons n r) (suc i) p = size n + number_in r i p

-- The rows of a tree pruned by entry numbers: a named internal node gives one dangling row with its label, and its descendants' rows go.
-- b is the number of the tree's first entry.
module _ (H : List ℕ → List ℕ) where
  abbrev mutual
    pub pruned_rows : (ℕ → Bool) → ℕ → Node → List Entry
    pruned_rows f b (inner r) = cond (f (b + sizes r)) (tip 0 (label H (inner r)) ∷ []) (pruned_rows_in f b r ++ (node (count r) ∷ []))
    pruned_rows f b (leaf t v) = tip t v ∷ []

    -- of a run: each child begins where the one before it ended
    pub pruned_rows_in : (ℕ → Bool) → ℕ → Run → List Entry
    pruned_rows_in f b nil = []
    pruned_rows_in f b (cons n r) = pruned_rows f b n ++ pruned_rows_in f (b + size n) r

-- The stack is a list whose top is its end (000, 5.4.2). The last k of a list, and those before them:
module _ {A : Type 0} where
  -- the last k
  abbrev pub kids : ℕ → List A → List A
  kids k st = drop (length st - k) st

  -- those before the last k
  abbrev pub below : ℕ → List A → List A
  below k st = take (length st - k) st

-- the children as a run
abbrev pub run_of : List Node → Run
run_of [] = nil
run_of (n ∷ ns) = cons n (run_of ns)

-- the trees that wait, after one entry more: a leaf is pushed, an internal node takes the last k as its children
abbrev pub grow : List Node → Entry → List Node
grow ns (node k) = below k ns ++ (inner (run_of (kids k ns)) ∷ [])
grow ns (tip t v) = ns ++ (leaf t v ∷ [])

-- the trees that wait after the entries es, where ns waited before
abbrev pub grown : List Entry → List Node → List Node
grown [] ns = ns
grown (e ∷ es) ns = grown es (grow ns e)

-- what the stack holds of a waiting node: its type, its height and its label
pub record Tag : Type 0 where
  pub kind : ℕ
  pub height : ℕ
  pub text : List ℕ

-- what a parent hashes of a waiting node
abbrev pub head_of : Tag → Head
head_of g = record { kind = g.kind; text = g.text }

-- "its highest child"
abbrev pub highest_of : List Tag → ℕ
highest_of [] = 0
highest_of (g ∷ gs) = max g.height (highest_of gs)

-- what one entry does to the stack: a refusal by its number, or the next stack and the blocks compressed
pub data Step : Type 0 where
  fault : ℕ → Step
  next : List Tag → ℕ → Step

-- the verdict on a list of entries: the first refusal, by its number and its entry, or the stack left and the sum of the blocks
pub data Verdict : Type 0 where
  faulty : ℕ → ℕ → Verdict
  left : List Tag → ℕ → Verdict

-- a refusal ends the run, "the place is the entry"; else it goes on
abbrev pub onward : Step → ℕ → (List Tag → ℕ → Verdict) → Verdict
onward (fault k) i go = faulty k i
onward (next st c) i go = go st c

module _ (H : List ℕ → List ℕ) where
  -- the tag of a tree, by the recursive definitions
  abbrev pub tag_of : Node → Tag
  tag_of n = record { kind = type_of n; height = height n; text = label H n }

  -- the tag of an internal node over children with the heads hs, of which the highest has the height h
  abbrev pub parent : ℕ → List Head → Tag
  parent h hs = record { kind = 0; height = h + 1; text = H (prelabel hs) }

  -- the hash step: "popping n entries and pushing the entry (d, h(f(s)))", where the rules are kept: "6, 7 at its internal node"
  abbrev pub hashed : List Tag → ℕ → List Head → Step
  hashed st h hs =
      cond (ltb max_height (h + 1)) (fault too_high)
      (cond (salted hs) (next (st ++ (parent h hs ∷ [])) (blocks_of (length (prelabel hs)))) (fault salt_broken))

module _ (H : List ℕ → List ℕ) (composed : List ℕ → Bool) where
  -- a step of the stack: "5, 6, 7 at its internal node, 8 at its leaf"
  abbrev pub step_of : List Tag → Entry → Step
  step_of st (node k) =
      cond (ltb (length st) k) (fault children_missing) (hashed H (below k st) (highest_of (kids k st)) (map head_of (kids k st)))
  step_of st (tip t v) =
      cond (text_fits composed t v) (next (st ++ (record { kind = t; height = 1; text = v } ∷ [])) 0) (fault not_composed)

  -- the entries es in turn, the first with the number i, on the stack st with b blocks compressed
  abbrev pub judged : List Entry → ℕ → List Tag → ℕ → Verdict
  judged [] i st b = left st b
  judged (e ∷ es) i st b = onward (step_of st e) i (λ z c. judged es (i + 1) z (b + c))

  -- the verdict on a slip's entries, from an empty stack
  abbrev pub verdict : List Entry → Verdict
  verdict es = judged es 0 [] 0
