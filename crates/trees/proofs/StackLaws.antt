-- The stack of section 5.4.2 accepts the rows of a well-formed tree, and gives its label, height and blocks.
use Rattle.std.specs.Prelude.{◌≡◌, refl, Bool, true, List, [], ◌∷◌, ◌++◌, map, ℕ, suc, ◌+◌, ◌≤◌, max, length}
use Rattle.std.proofs.Common.{sym, ap, ap₂, ◌∙◌, append_assoc, append-nil, add-zero, zero-add, arith, length-append, le-ltb}
use Rattle.std.proofs.lemmas.List.{length-map}
use Rattle.lists.specs.TestsLaws.{and_both}
use Rattle.lists.specs.Lists.{all}
use Rattle.lists.specs.ListsLaws.{all_append}
use Rattle.trees.specs.Nodes.{Node, Run, inner, leaf, nil, cons, count, size, sizes, height, highest, Head, prelabel, heads, blocks_of, blocks, blocks_in}
use Rattle.trees.specs.Rules.{max_height, salted, count_fits, leaf_fits, All, AllIn, NodeRules, LeafRules, WellFormed}
use Rattle.trees.specs.Rows.{Entry, node, formed, rows, rows_in, run_of, Tag, head_of, highest_of, Step, next, left, onward, tag_of, hashed, step_of, judged, verdict}
use Rattle.trees.specs.RowsLaws.{kids_at, below_at, nodes_of, run_of_nodes, length_nodes}

more : (a b c : ℕ) → a + b + c ≡ a + (b + c)
more a b c = omega arith

module _ (H : List ℕ → List ℕ) where
  -- the stack's heights and heads are the tree's
  pub highest_tags : (ns : List Node) → highest_of (map (tag_of H) ns) ≡ highest (run_of ns)
  highest_tags [] = refl
  highest_tags (n ∷ ns) = ap (max (height n)) (highest_tags ns)

  pub heads_tags : (ns : List Node) → map head_of (map (tag_of H) ns) ≡ heads H (run_of ns)
  heads_tags [] = refl
  heads_tags (n ∷ ns) = ap (λ (hs : List Head). head_of (tag_of H n) ∷ hs) (heads_tags ns)

  -- as many heads as children
  pub length_heads : (r : Run) → length (heads H r) ≡ count r
  length_heads nil = refl
  length_heads (cons n r) = ap suc (length_heads r)

  -- the hash step over trees is that over their heights and heads
  pub hashed_tags : (st : List Tag) (ns : List Node)
      → hashed H st (highest_of (map (tag_of H) ns)) (map head_of (map (tag_of H) ns)) ≡ hashed H st (highest (run_of ns)) (heads H (run_of ns))
  hashed_tags st ns = ap₂ (hashed H st) (highest_tags ns) (heads_tags ns)

  -- where the rules are kept it pushes the node's tag
  hashed_ok : (st : List Tag) (r : Run) → height (inner r) ≤ max_height → salted (heads H r) ≡ true
      → hashed H st (highest r) (heads H r) ≡ next (st ++ (tag_of H (inner r) ∷ [])) (blocks_of (length (prelabel (heads H r))))
  hashed_ok st r low salt = rw (le-ltb max_height (highest r + 1) low, salt)

module _ (H : List ℕ → List ℕ) (composed : List ℕ → Bool) where
  -- the step of an internal node on its children
  pub node_step : (st : List Tag) (r : Run) → height (inner r) ≤ max_height → salted (heads H r) ≡ true
      → step_of H composed (st ++ map (tag_of H) (nodes_of r)) (node (count r))
      ≡ next (st ++ (tag_of H (inner r) ∷ [])) (blocks_of (length (prelabel (heads H r))))
  node_step st r low salt =
      let ts : List Tag = map (tag_of H) (nodes_of r) in
      let long : length (map (tag_of H) (nodes_of r)) ≡ count r = length-map (nodes_of r) (tag_of H) ∙ length_nodes r in
      rw (le-ltb (length (st ++ ts)) (count r) (omega (arith, length-append st ts)))
      (ap₂ (λ (x y : List Tag). hashed H x (highest_of y) (map head_of y)) (below_at st ts (count r) long) (kids_at st ts (count r) long)
      ∙ hashed_tags H st (nodes_of r)
      ∙ ap (λ (s : Run). hashed H st (highest s) (heads H s)) (run_of_nodes r)
      ∙ hashed_ok H st r low salt)

  nothing : (es : List Entry) (i : ℕ) (st : List Tag) (b : ℕ) → judged H composed es i st b ≡ judged H composed es (i + 0) (st ++ []) (b + 0)
  nothing es i st b = rw (append-nil st, add-zero i, add-zero b)

  -- the rows of a tree that keeps the rules, on any stack and before any rest, push its tag and add its blocks
  mutual
    pub complete : (n : Node) → height n ≤ max_height → All H NodeRules (LeafRules composed) n
        → (es : List Entry) (i : ℕ) (st : List Tag) (b : ℕ)
        → judged H composed (rows n ++ es) i st b ≡ judged H composed es (i + size n) (st ++ (tag_of H n ∷ [])) (b + blocks H n)
    complete (inner r) low k es i st b =
        ap (λ (l : List Entry). judged H composed l i st b) (append_assoc (rows_in r) (node (count r) ∷ []) es)
        ∙ complete_in r (omega arith) k.1 (node (count r) ∷ es) i st b
        ∙ ap (λ (s : Step). onward s (i + sizes r) (λ z c. judged H composed es (i + sizes r + 1) z (b + blocks_in H r + c)))
        (node_step st r low k.0.salt)
        ∙ ap₂ (λ (j c : ℕ). judged H composed es j (st ++ (tag_of H (inner r) ∷ [])) c)
        (more i (sizes r) 1) (more b (blocks_in H r) (blocks_of (length (prelabel (heads H r)))))
    complete (leaf t v) low k es i st b = rw k.words

    pub complete_in : (r : Run) → highest r ≤ max_height → AllIn H NodeRules (LeafRules composed) r
        → (es : List Entry) (i : ℕ) (st : List Tag) (b : ℕ)
        → judged H composed (rows_in r ++ es) i st b ≡ judged H composed es (i + sizes r) (st ++ map (tag_of H) (nodes_of r)) (b + blocks_in H r)
    complete_in nil low k es i st b = nothing es i st b
    complete_in (cons n r) low k es i st b =
        ap (λ (l : List Entry). judged H composed l i st b) (append_assoc (rows n) (rows_in r) es)
        ∙ complete n (omega arith) k.0 (rows_in r ++ es) i st b
        ∙ complete_in r (omega arith) k.1 es (i + size n) (st ++ (tag_of H n ∷ [])) (b + blocks H n)
        ∙ rw (append_assoc st (tag_of H n ∷ []) (map (tag_of H) (nodes_of r)), more i (size n) (sizes r), more b (blocks H n) (blocks_in H r))

  -- the rows of a tree that keeps the rules have the form of rows
  mutual
    pub rows_formed : (n : Node) → All H NodeRules (LeafRules composed) n → all formed (rows n) ≡ true
    rows_formed (inner r) k =
        all_append formed (rows_in r) (node (count r) ∷ []) (rows_in_formed r k.1)
        (and_both (count_fits (count r)) true (ap count_fits (sym (length_heads H r)) ∙ k.0.children) refl)
    rows_formed (leaf t v) k = and_both (leaf_fits t v) true k.form refl

    pub rows_in_formed : (r : Run) → AllIn H NodeRules (LeafRules composed) r → all formed (rows_in r) ≡ true
    rows_in_formed nil k = refl
    rows_in_formed (cons n r) k = all_append formed (rows n) (rows_in r) (rows_formed n k.0) (rows_in_formed r k.1)

  -- the rows of a well-formed tree leave it alone on the stack, with its label, its height and its blocks
  pub complete_tree : (n : Node) → WellFormed H composed n → verdict H composed (rows n) ≡ left (tag_of H n ∷ []) (blocks H n)
  complete_tree n w =
      ap (verdict H composed) (sym (append-nil (rows n)))
      ∙ complete n w.fit.low w.fit.rules [] 0 [] 0
      ∙ ap (left (tag_of H n ∷ [])) (zero-add (blocks H n))
