-- Rows that the stack accepts are the rows, end to end, of the trees that wait, each of which keeps the rules; a row that it refuses breaks
-- the rule of that number on them.
use Rattle.std.specs.Prelude.{◌≡◌, refl, Bool, true, false, cond, List, [], ◌∷◌, ◌++◌, map, ℕ, ◌+◌, ◌-◌, ◌≤◌, ltb, length, take, drop}
use Rattle.std.proofs.Common.{sym, ap, ap₂, ◌∙◌, subst, subst₂, append_assoc, append-nil, arith, length-append, ltb-true, ltb-false}
use Rattle.std.proofs.lemmas.List.{map-append, length-map}
use Rattle.lists.specs.TestsLaws.{and_left, and_right}
use Rattle.lists.specs.Lists.{all}
use Rattle.lists.specs.ListsLaws.{cons_head, cons_tail, nil_cons}
use Rattle.lists.specs.PartsLaws.{map_take, map_drop}
use Rattle.trees.specs.Nodes.{Node, inner, leaf, height, highest, prelabel, heads, blocks_of, blocks}
use Rattle.outcomes.specs.Refusals.{children_missing, not_composed}
use Rattle.trees.specs.Rules.{max_height, salted, count_fits, text_fits, Fit, WellFormed}
use Rattle.trees.specs.Rows.{Entry, node, tip, formed, rows, kids, below, grow, grown, Tag, head_of, highest_of, Step, fault, next, Verdict, faulty, left, onward, tag_of, hashed, step_of, judged, verdict}
use Rattle.trees.specs.RowsLaws.{rows_inj}
use Rattle.trees.proofs.StackLaws.{hashed_tags, length_heads}
use Rattle.trees.specs.Forest.{rows_all, rows_all_append, last_run, count_last, node_rows, blocks_all, blocks_all_append, node_blocks, AllFit, fit_append, fit_take, fit_drop, fit_run}
use Rattle.trees.specs.Refused.{Breaks, missing, high, unsalted, wrong, Broken}

module _ (H : List ℕ → List ℕ) (composed : List ℕ → Bool) where
  -- what one accepted entry leaves: the trees with one more row, their tags and their blocks
  pub record Grows (ns : List Node) (e : Entry) (st : List Tag) (c : ℕ) : Type 0 where
    pub tags : st ≡ map (tag_of H) (grow ns e)
    pub fits : AllFit H composed (grow ns e)
    pub exact : rows_all (grow ns e) ≡ rows_all ns ++ (e ∷ [])
    pub sum : blocks_all H (grow ns e) ≡ blocks_all H ns + c

  -- or the rule that a refused one breaks
  abbrev GrowsOn : List Node → Entry → Step → Type 0
  GrowsOn ns e (fault k) = Breaks H composed ns e k
  GrowsOn ns e (next st c) = Grows ns e st c

  tip_sound : (ns : List Node) (t : ℕ) (v : List ℕ) → formed (tip t v) ≡ true → AllFit H composed ns
      → (b : Bool) → text_fits composed t v ≡ b
      → GrowsOn ns (tip t v) (cond b (next (map (tag_of H) ns ++ (tag_of H (leaf t v) ∷ [])) 0) (fault not_composed))
  tip_sound ns t v form f true e =
      record {
        tags = sym (map-append (tag_of H) ns (leaf t v ∷ []));
        fits = fit_append H composed ns (leaf t v ∷ []) f (record { low = omega arith; rules = record { form = form; words = e } }, tt);
        exact = rows_all_append ns (leaf t v ∷ []);
        sum = blocks_all_append H ns (leaf t v ∷ []);
      }
  tip_sound ns t v form f false e = wrong e

  -- the hash step, where the rules are kept
  hash_sound : (ns : List Node) (k : ℕ) → formed (node k) ≡ true → AllFit H composed ns → k ≤ length ns
      → height (inner (last_run k ns)) ≤ max_height → salted (heads H (last_run k ns)) ≡ true
      → Grows ns (node k) (map (tag_of H) (below k ns) ++ (tag_of H (inner (last_run k ns)) ∷ []))
      (blocks_of (length (prelabel (heads H (last_run k ns)))))
  hash_sound ns k form f h low salt =
      let long : length (heads H (last_run k ns)) ≡ k = length_heads H (last_run k ns) ∙ count_last k ns h in
      record {
        tags = sym (map-append (tag_of H) (below k ns) (inner (last_run k ns) ∷ []));
        fits = fit_append H composed (below k ns) (inner (last_run k ns) ∷ []) (fit_take H composed (length ns - k) ns f) (
          record {
            low = low;
            rules = (record { children = ap count_fits long ∙ form; salt = salt }, fit_run H composed (kids k ns) (fit_drop H composed (length ns - k) ns f));
          },
          tt,
        );
        exact = node_rows ns k h;
        sum = node_blocks H ns k;
      }

  kept_sound : (ns : List Node) (k : ℕ) → formed (node k) ≡ true → AllFit H composed ns → k ≤ length ns
      → (a : Bool) → ltb max_height (highest (last_run k ns) + 1) ≡ a → (b : Bool) → salted (heads H (last_run k ns)) ≡ b
      → GrowsOn ns (node k) (hashed H (map (tag_of H) (below k ns)) (highest (last_run k ns)) (heads H (last_run k ns)))
  kept_sound ns k form f h true e b q = rw e (high h (ltb-true max_height (highest (last_run k ns) + 1) e))
  kept_sound ns k form f h false e true q = rw (e, q) (hash_sound ns k form f h (ltb-false max_height (highest (last_run k ns) + 1) e) q)
  kept_sound ns k form f h false e false q = rw (e, q) (unsalted h (ltb-false max_height (highest (last_run k ns) + 1) e) q)

  -- the hash step on the last k tags of a stack
  abbrev hash_top : ℕ → List Tag → Step
  hash_top k st = hashed H (below k st) (highest_of (kids k st)) (map head_of (kids k st))

  -- the stack of tags is cut where the stack of trees is
  pub tags_below : (k : ℕ) (ns : List Node) → below k (map (tag_of H) ns) ≡ map (tag_of H) (below k ns)
  tags_below k ns = ap (λ (l : ℕ). take (l - k) (map (tag_of H) ns)) (length-map ns (tag_of H)) ∙ map_take (tag_of H) (length ns - k) ns

  pub tags_kids : (k : ℕ) (ns : List Node) → kids k (map (tag_of H) ns) ≡ map (tag_of H) (kids k ns)
  tags_kids k ns = ap (λ (l : ℕ). drop (l - k) (map (tag_of H) ns)) (length-map ns (tag_of H)) ∙ map_drop (tag_of H) (length ns - k) ns

  node_sound : (ns : List Node) (k : ℕ) → formed (node k) ≡ true → AllFit H composed ns → (b : Bool) → ltb (length (map (tag_of H) ns)) k ≡ b
      → GrowsOn ns (node k) (cond b (fault children_missing) (hash_top k (map (tag_of H) ns)))
  node_sound ns k form f true e = missing {c = k} (omega (arith, ltb-true (length (map (tag_of H) ns)) k e, length-map ns (tag_of H)))
  node_sound ns k form f false e =
      subst (GrowsOn ns (node k))
      (sym (ap₂ (λ (x y : List Tag). hashed H x (highest_of y) (map head_of y)) (tags_below k ns) (tags_kids k ns)
      ∙ hashed_tags H (map (tag_of H) (below k ns)) (kids k ns)))
      (kept_sound ns k form f
      (omega (arith, ltb-false (length (map (tag_of H) ns)) k e, length-map ns (tag_of H)))
      (ltb max_height (highest (last_run k ns) + 1)) refl (salted (heads H (last_run k ns))) refl)

  step_sound : (ns : List Node) (e : Entry) → formed e ≡ true → AllFit H composed ns → GrowsOn ns e (step_of H composed (map (tag_of H) ns) e)
  step_sound ns (node k) form f = node_sound ns k form f (ltb (length (map (tag_of H) ns)) k) refl
  step_sound ns (tip t v) form f = tip_sound ns t v form f (text_fits composed t v) refl

  -- the stack st with b blocks is what the trees ns make whose rows, end to end, are es, and which all keep the rules
  pub record Stands (es : List Entry) (ns : List Node) (st : List Tag) (b : ℕ) : Type 0 where
    pub tags : st ≡ map (tag_of H) ns
    pub fits : AllFit H composed ns
    pub exact : rows_all ns ≡ es
    pub sum : b ≡ blocks_all H ns

  -- what a verdict tells of entries that grow to the trees ns, refused or not
  abbrev pub StandsOn : List Entry → List Node → Verdict → Type 0
  StandsOn es ns (faulty k i) = Broken H composed es k i
  StandsOn es ns (left st b) = Stands es ns st b

  onward_sound : (es : List Entry) (ns : List Node) (e : Entry) (i b : ℕ) → i ≡ length (rows_all ns) → AllFit H composed ns → b ≡ blocks_all H ns
      → (s : Step) → GrowsOn ns e s
      → ((c : ℕ) → i + 1 ≡ length (rows_all (grow ns e)) → b + c ≡ blocks_all H (grow ns e) → AllFit H composed (grow ns e)
      → StandsOn (rows_all (grow ns e) ++ es) (grown es (grow ns e)) (judged H composed es (i + 1) (map (tag_of H) (grow ns e)) (b + c)))
      → StandsOn (rows_all ns ++ (e ∷ es)) (grown es (grow ns e)) (onward s i (λ z c. judged H composed es (i + 1) z (b + c)))
  onward_sound es ns e i b p f q (fault k) g h = record { trees = ns; entry = e; rest = es; split = refl; place = p; fits = f; breaks = g }
  onward_sound es ns e i b p f q (next st c) g h =
      subst₂ (λ (l : List Entry) (z : List Tag). StandsOn l (grown es (grow ns e)) (judged H composed es (i + 1) z (b + c)))
      (ap (λ (l : List Entry). l ++ es) g.exact ∙ append_assoc (rows_all ns) (e ∷ []) es)
      (sym g.tags)
      (h c (omega (arith, ap length g.exact, length-append (rows_all ns) (e ∷ []))) (omega (arith, g.sum)) g.fits)

  -- entries accepted from the stack of ns leave the stack of the trees grown from ns: their rows are those of ns and the entries, no more
  pub sound : (es : List Entry) (ns : List Node) (i b : ℕ) → all formed es ≡ true → i ≡ length (rows_all ns) → AllFit H composed ns → b ≡ blocks_all H ns
      → StandsOn (rows_all ns ++ es) (grown es ns) (judged H composed es i (map (tag_of H) ns) b)
  sound [] ns i b form p f q = record { tags = refl; fits = f; exact = sym (append-nil (rows_all ns)); sum = q }
  sound (e ∷ es) ns i b form p f q =
      onward_sound es ns e i b p f q (step_of H composed (map (tag_of H) ns) e)
      (step_sound ns e (and_left (formed e) (all formed es) form) f)
      (λ c d r g. sound es (grow ns e) (i + 1) (b + c) (and_right (formed e) (all formed es) form) d g r)

  -- the verdict on entries of the form, from an empty stack
  pub verdict_sound : (es : List Entry) → all formed es ≡ true → StandsOn es (grown es []) (verdict H composed es)
  verdict_sound es form = sound es [] 0 0 form refl tt refl

  -- one tree: its rows are the entries, and it has the label, height and blocks that the stack gives
  pub record Built (es : List Entry) (g : Tag) (b : ℕ) : Type 0 where
    pub tree : Node
    pub fit : Fit H composed tree
    pub exact : rows tree ≡ es
    pub tag : tag_of H tree ≡ g
    pub sum : blocks H tree ≡ b

  one_tree : (es : List Entry) (ns : List Node) (g : Tag) (b : ℕ) → Stands es ns (g ∷ []) b → Built es g b
  one_tree es [] g b s = absurd (nil_cons (sym s.tags))
  one_tree es (n ∷ []) g b s =
      record {
        tree = n;
        fit = s.fits.0;
        exact = sym (append-nil (rows n)) ∙ s.exact;
        tag = sym (cons_head s.tags);
        sum = omega (arith, s.sum);
      }
  one_tree es (n ∷ m ∷ ns) g b s = absurd (nil_cons (cons_tail s.tags))

  -- accepted entries that leave one waiting are the rows of one tree that keeps the rules
  pub sound_one : (es : List Entry) (g : Tag) (b : ℕ) → all formed es ≡ true → verdict H composed es ≡ left (g ∷ []) b → Built es g b
  sound_one es g b form e = one_tree es (grown es []) g b (subst (StandsOn es (grown es [])) e (verdict_sound es form))

  -- and of no other
  pub built_unique : (es : List Entry) (g : Tag) (b : ℕ) (x : Built es g b) (n : Node) → rows n ≡ es → n ≡ x.tree
  built_unique es g b x n e = rows_inj n x.tree (e ∙ sym x.exact)

  -- where the one that waits has type 0, the tree is well-formed
  pub built_well_formed : (es : List Entry) (g : Tag) (b : ℕ) (x : Built es g b) → g.kind ≡ 0 → WellFormed H composed x.tree
  built_well_formed es g b x e = record { root = ap (λ (t : Tag). t.kind) x.tag ∙ e; fit = x.fit }
