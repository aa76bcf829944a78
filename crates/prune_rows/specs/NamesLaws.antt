-- The rule of the pruning list by the tree; and every set of places, so every pruning, has a list.
use Rattle.std.specs.Prelude.{ℕ, zero, suc, ◌+◌, ◌≤◌, ◌<◌, Bool, true, false, cond, ◌||◌, List, [], ◌∷◌, ◌++◌, map, ◌⊎◌, ◌≡◌, refl, leb, ltb, eqb, length, get_or, take}
use Rattle.std.proofs.Math.Bool.{or-false}
use Rattle.std.proofs.Common.{true≢false, inl, inr, sym, ap, ◌∙◌, subst, zero-add, arith, leb-true, ltb-true, ltb-false, eq-eqb, ne_eqb}
use Rattle.std.proofs.Math.Option.{some}
use Rattle.std.proofs.lemmas.List.{length-map}
use Rattle.std.proofs.Math.ListN.{get_or-map, get_or-eq_default}
use Rattle.lists.specs.TestsLaws.{and_left}
use Rattle.lists.specs.Lists.{all}
use Rattle.lists.specs.ListsLaws.{all_at, none_some, some_inj}
use Rattle.trees.specs.Nodes.{Node, Run, inner, leaf, nil, cons, count, size, sizes}
use Rattle.trees.specs.Rules.{max_children}
use Rattle.trees.specs.Places.{Place, node_at, child_at, is_dangling, Le, cut}
use Rattle.trees.specs.PlacesLaws.{leaf_inner}
use Rattle.trees.proofs.PruneLaws.{cut_le, cut_onto, cut_agree}
use Rattle.trees.specs.Rows.{node, tip, formed, rows, last_row, number, number_in}
use Rattle.trees.specs.RowsLaws.{length_rows}
use Rattle.trees.specs.NumbersLaws.{Numbered, number_low, number_in_low, number_onto, entry_at, moved}
use Rattle.tables.specs.PruningList.{named, first_fault, pruned}
use Rattle.tables.specs.ListRule.{Clean, Faulty, falls, outside, childless}
use Rattle.tables.proofs.ListRule.{clean_none, clean_cons, clean_tail, clean_rule, rule_clean, fault_told, fault_is, named_at}
use Rattle.tables.specs.Cells.{count_cell}
use Rattle.prune_rows.specs.Names.{InnerAt, LeafAt, CleanList, Misnames, FaultyList, numbers, numbers_in}
use Rattle.prune_rows.specs.Names as Names

-- the tree's children, row by row
abbrev pub counts_of : Node → List ℕ
counts_of n = map count_cell (rows n)

counts_long : (n : Node) → length (counts_of n) ≡ size n
counts_long n = length-map (rows n) count_cell ∙ length_rows n

-- the count of a node's row
count_at : (n : Node) (p : Place) (x : Node) → node_at n p ≡ some x → get_or (counts_of n) (number n p) 0 ≡ count_cell (last_row x)
count_at n p x e = get_or-map count_cell (rows n) (number n p) (tip 0 []) ∙ ap count_cell (entry_at n p x e (tip 0 []))

module _ (n : Node) (form : all formed (rows n) ≡ true) where
  -- a row of the form names a child if it is internal
  some_child : (p : Place) (r : Run) → node_at n p ≡ some (inner r) → 1 ≤ count r
  some_child p r e =
      let low : number n p < length (rows n) = omega (arith, number_low n p (inner r) e, length_rows n) in
      let fits : formed (node (count r)) ≡ true = ap formed (sym (entry_at n p (inner r) e (tip 0 []))) ∙ all_at formed (rows n) (number n p) (tip 0 []) form low in
      leb-true 1 (count r) (and_left (leb 1 (count r)) (leb (count r) max_children) fits)

  -- so a row has children exactly where it is that of an internal node
  inner_counts : (x : ℕ) → InnerAt n x → 0 < get_or (counts_of n) x 0
  inner_counts x i =
      let c : get_or (counts_of n) x 0 ≡ count i.run =
      ap (λ (k : ℕ). get_or (counts_of n) k 0) (sym i.numbered) ∙ count_at n i.place (inner i.run) i.found in
      omega (arith, some_child i.place i.run i.found)

  counts_inner : (x : ℕ) → 0 < get_or (counts_of n) x 0 → InnerAt n x
  counts_inner x h = go (number_onto n x low)
    where
      inside : (b : Bool) → ltb x (size n) ≡ b → x < size n
      inside true e = ltb-true x (size n) e
      inside false e =
          let out : length (counts_of n) ≤ x = omega (arith, counts_long n, ltb-false x (size n) e) in
          absurd (omega (arith, h, get_or-eq_default (counts_of n) 0 out))

      low : x < size n
      low = inside (ltb x (size n)) refl

      at : (y : Numbered n x) (z : Node) → y.here ≡ z → InnerAt n x
      at y (inner r) e = record { place = y.place; run = r; found = y.found ∙ ap some e; numbered = y.numbered }
      at y (leaf t v) e =
          absurd (omega (arith, h, ap (λ (k : ℕ). get_or (counts_of n) k 0) (sym y.numbered) ∙ count_at n y.place (leaf t v) (y.found ∙ ap some e)))

      go : Numbered n x → InnerAt n x
      go y = at y y.here refl

  -- and none where it is that of a leaf
  leaf_counts : (x : ℕ) → LeafAt n x → (x < length (counts_of n)) × (get_or (counts_of n) x 0 ≡ 0)
  leaf_counts x i = (
    omega (arith, counts_long n, number_low n i.place (leaf i.kind i.text) i.found, i.numbered),
    ap (λ (k : ℕ). get_or (counts_of n) k 0) (sym i.numbered) ∙ count_at n i.place (leaf i.kind i.text) i.found,
  )

  counts_leaf : (x : ℕ) → x < length (counts_of n) → get_or (counts_of n) x 0 ≡ 0 → LeafAt n x
  counts_leaf x low h = go (number_onto n x (omega (arith, counts_long n)))
    where
      at : (y : Numbered n x) (z : Node) → y.here ≡ z → LeafAt n x
      at y (inner r) e =
          absurd (omega (arith, h, inner_counts x (record { place = y.place; run = r; found = y.found ∙ ap some e; numbered = y.numbered })))
      at y (leaf t v) e = record { place = y.place; kind = t; text = v; found = y.found ∙ ap some e; numbered = y.numbered }

      go : Numbered n x → LeafAt n x
      go y = at y y.here refl

  -- a list has no fault exactly when it names "entry numbers of internal nodes, strictly rising"
  pub list_clean : (list : List ℕ) → first_fault (counts_of n) 0 0 list ≡ length list → CleanList n list
  list_clean list e =
      let c = clean_rule (counts_of n) list e in record { rising = c.0; inner = λ k h. counts_inner (get_or list k 0) (c.1 k h) }

  pub clean_list : (list : List ℕ) → CleanList n list → first_fault (counts_of n) 0 0 list ≡ length list
  clean_list list c = rule_clean (counts_of n) list c.rising (λ k h. inner_counts (get_or list k 0) (c.inner k h))

  -- and its fault is told at k exactly when that is "the first faulty index in the list"
  pub list_faulty : (list : List ℕ) (k : ℕ) → k < length list → first_fault (counts_of n) 0 0 list ≡ k → FaultyList n list k
  list_faulty list k h e =
      let f = fault_told (counts_of n) list k h e in
      record {
        within = h;
        before = record { rising = f.rising; inner = λ a l. counts_inner (get_or (take k list) a 0) (f.inner a l) };
        fault = go f.fault;
      }
    where
      go : Faulty (counts_of n) list k → Misnames n list k
      go (falls j l q) = Names.falls j l q
      go (outside q) = Names.outside (omega (arith, counts_long n))
      go (childless l q) = Names.tipped (counts_leaf (get_or list k 0) l q)

  pub faulty_list : (list : List ℕ) (k : ℕ) → FaultyList n list k → first_fault (counts_of n) 0 0 list ≡ k
  faulty_list list k f =
      fault_is (counts_of n) list k
      (record {
        within = f.within;
        rising = f.before.rising;
        inner = λ a h. inner_counts (get_or (take k list) a 0) (f.before.inner a h);
        fault = go f.fault;
      })
    where
      go : Misnames n list k → Faulty (counts_of n) list k
      go (Names.falls j l q) = falls j l q
      go (Names.outside q) = outside (omega (arith, counts_long n))
      go (Names.tipped q) = let c = leaf_counts (get_or list k 0) q in childless c.0 c.1

-- two lists end to end name what either does
named_append : (a b : List ℕ) (x : ℕ) → named (a ++ b) x ≡ (named a x || named b x)
unfolding named
named_append [] b x = refl
named_append (y ∷ a) b x = rw (named_append a b x) (or_assoc (eqb y x) (named a x) (named b x))
  where
    or_assoc : (p q r : Bool) → (p || (q || r)) ≡ ((p || q) || r)
    or_assoc true q r = refl
    or_assoc false q r = refl

-- and keep the rule where the numbers of the second are above those of the first
clean_append : (counts : List ℕ) (low m : ℕ) (a b : List ℕ) → Clean counts low a → Clean counts m b → low ≤ m
    → ((k : ℕ) → k < length a → get_or a k 0 < m) → Clean counts low (a ++ b)
clean_append counts low m [] b c d l u =
    record { above = λ k h. omega (arith, d.above k h); rising = d.rising; inner = d.inner }
clean_append counts low m (x ∷ a) b c d l u =
    clean_cons counts low x (a ++ b) (c.above 0 (omega arith)) (c.inner 0 (omega arith))
    (clean_append counts (x + 1) m a b (clean_tail counts low x a c) d (omega (arith, u 0 (omega arith))) (λ k h. u (suc k) (omega arith)))

-- the root's name, where it is named
one_named : (c : Bool) (x : ℕ) → named (cond c (x ∷ []) []) x ≡ c
unfolding named
one_named true x = rw (eq-eqb x x refl)
one_named false x = refl

one_other : (c : Bool) (y x : ℕ) → (y ≡ x → ⊥) → named (cond c (y ∷ []) []) x ≡ false
unfolding named
one_other true y x h = rw (ne_eqb y x h)
one_other false y x h = refl

none_named : (x : ℕ) → named [] x ≡ false
unfolding named
none_named x = refl

-- a number before the tree's first entry or behind its last is not named
mutual
  numbers_out : (f : Place → Bool) (b : ℕ) (n : Node) (x : ℕ) → (x < b) ⊎ (b + size n ≤ x) → named (numbers f b n) x ≡ false
  numbers_out f b (inner r) x h =
      named_append (numbers_in (λ i p. f (i ∷ p)) b r) (cond (f []) ((b + sizes r) ∷ []) []) x
      ∙ rw (numbers_in_out (λ i p. f (i ∷ p)) b r x (narrow h)) (one_other (f []) (b + sizes r) x (apart h))
    where
      narrow : (x < b) ⊎ (b + size (inner r) ≤ x) → (x < b) ⊎ (b + sizes r ≤ x)
      narrow (inl l) = inl l
      narrow (inr l) = inr (omega arith)

      apart : (x < b) ⊎ (b + size (inner r) ≤ x) → b + sizes r ≡ x → ⊥
      apart (inl l) e = omega arith
      apart (inr l) e = omega arith
  numbers_out f b (leaf t v) x h = none_named x

  numbers_in_out : (f : ℕ → Place → Bool) (b : ℕ) (r : Run) (x : ℕ) → (x < b) ⊎ (b + sizes r ≤ x) → named (numbers_in f b r) x ≡ false
  numbers_in_out f b nil x h = none_named x
  numbers_in_out f b (cons n r) x h =
      named_append (numbers (f 0) b n) (numbers_in (λ i p. f (suc i) p) (b + size n) r) x
      ∙ rw (numbers_out (f 0) b n x (front h), numbers_in_out (λ i p. f (suc i) p) (b + size n) r x (back h))
    where
      front : (x < b) ⊎ (b + sizes (cons n r) ≤ x) → (x < b) ⊎ (b + size n ≤ x)
      front (inl l) = inl l
      front (inr l) = inr (omega arith)

      back : (x < b) ⊎ (b + sizes (cons n r) ≤ x) → (x < b + size n) ⊎ (b + size n + sizes r ≤ x)
      back (inl l) = inl (omega arith)
      back (inr l) = inr (omega arith)

-- the list names an internal node exactly where f does
mutual
  numbers_at : (f : Place → Bool) (b : ℕ) (n : Node) (p : Place) (m : Run) → node_at n p ≡ some (inner m) → named (numbers f b n) (b + number n p) ≡ f p
  numbers_at f b (inner r) [] m e =
      named_append (numbers_in (λ i p. f (i ∷ p)) b r) (cond (f []) ((b + sizes r) ∷ []) []) (b + sizes r)
      ∙ rw (numbers_in_out (λ i p. f (i ∷ p)) b r (b + sizes r) (inr (omega arith))) (one_named (f []) (b + sizes r))
  numbers_at f b (inner r) (i ∷ p) m e =
      let l : number_in r i p < sizes r = number_in_low r i p (inner m) e in
      named_append (numbers_in (λ i p. f (i ∷ p)) b r) (cond (f []) ((b + sizes r) ∷ []) []) (b + number_in r i p)
      ∙ rw (one_other (f []) (b + sizes r) (b + number_in r i p) (λ q. omega arith), or-false) (numbers_in_at (λ i p. f (i ∷ p)) b r i p m e)
  numbers_at f b (leaf t v) [] m e = absurd (leaf_inner (some_inj e))
  numbers_at f b (leaf t v) (i ∷ p) m e = absurd (none_some e)

  numbers_in_at : (f : ℕ → Place → Bool) (b : ℕ) (r : Run) (i : ℕ) (p : Place) (m : Run) → child_at r i p ≡ some (inner m)
      → named (numbers_in f b r) (b + number_in r i p) ≡ f i p
  numbers_in_at f b nil i p m e = absurd (none_some e)
  numbers_in_at f b (cons n r) zero p m e =
      let l : number n p < size n = number_low n p (inner m) e in
      named_append (numbers (f 0) b n) (numbers_in (λ i p. f (suc i) p) (b + size n) r) (b + number n p)
      ∙ rw (numbers_in_out (λ i p. f (suc i) p) (b + size n) r (b + number n p) (inl (omega arith)), or-false) (numbers_at (f 0) b n p m e)
  numbers_in_at f b (cons n r) (suc i) p m e =
      named_append (numbers (f 0) b n) (numbers_in (λ i p. f (suc i) p) (b + size n) r) (b + (size n + number_in r i p))
      ∙ rw (numbers_out (f 0) b n (b + (size n + number_in r i p)) (inr (omega arith)), moved b (size n) (number_in r i p))
      (numbers_in_at (λ i p. f (suc i) p) (b + size n) r i p m e)

-- where no number from m on is named, every number of the list is below m
named_under : (list : List ℕ) (m : ℕ) → ((x : ℕ) → m ≤ x → named list x ≡ false) → (k : ℕ) → k < length list → get_or list k 0 < m
named_under list m out k h = go (ltb (get_or list k 0) m) refl
  where
    go : (t : Bool) → ltb (get_or list k 0) m ≡ t → get_or list k 0 < m
    go true e = ltb-true (get_or list k 0) m e
    go false e = absurd (true≢false (sym (named_at list k (get_or list k 0) h refl) ∙ out (get_or list k 0) (ltb-false (get_or list k 0) m e)))

-- it keeps the rule, where the rows of internal nodes have children
module _ (counts : List ℕ) where
  one_clean : (c : Bool) (x : ℕ) → 0 < get_or counts x 0 → Clean counts x (cond c (x ∷ []) [])
  one_clean true x h = clean_cons counts x x [] (omega arith) h (clean_none counts (x + 1))
  one_clean false x h = clean_none counts x

  mutual
    numbers_clean : (f : Place → Bool) (b : ℕ) (n : Node) → ((p : Place) (m : Run) → node_at n p ≡ some (inner m) → 0 < get_or counts (b + number n p) 0)
        → Clean counts b (numbers f b n)
    numbers_clean f b (inner r) h =
        clean_append counts b (b + sizes r) (numbers_in (λ i p. f (i ∷ p)) b r) (cond (f []) ((b + sizes r) ∷ []) [])
        (numbers_in_clean (λ i p. f (i ∷ p)) b r (λ i p m e. h (i ∷ p) m e)) (one_clean (f []) (b + sizes r) (h [] r refl)) (omega arith)
        (named_under (numbers_in (λ i p. f (i ∷ p)) b r) (b + sizes r) (λ x l. numbers_in_out (λ i p. f (i ∷ p)) b r x (inr l)))
    numbers_clean f b (leaf t v) h = clean_none counts b

    numbers_in_clean : (f : ℕ → Place → Bool) (b : ℕ) (r : Run)
        → ((i : ℕ) (p : Place) (m : Run) → child_at r i p ≡ some (inner m) → 0 < get_or counts (b + number_in r i p) 0) → Clean counts b (numbers_in f b r)
    numbers_in_clean f b nil h = clean_none counts b
    numbers_in_clean f b (cons n r) h =
        clean_append counts b (b + size n) (numbers (f 0) b n) (numbers_in (λ i p. f (suc i) p) (b + size n) r)
        (numbers_clean (f 0) b n (λ p m e. h 0 p m e))
        (numbers_in_clean (λ i p. f (suc i) p) (b + size n) r
        (λ i p m e. subst (λ (x : ℕ). 0 < get_or counts x 0) (moved b (size n) (number_in r i p)) (h (suc i) p m e)))
        (omega arith) (named_under (numbers (f 0) b n) (b + size n) (λ x l. numbers_out (f 0) b n x (inr l)))

module _ (n : Node) (form : all formed (rows n) ≡ true) (f : Place → Bool) where
  -- the internal nodes of any set of places are named by a list that keeps the rule
  pub set_clean : CleanList n (numbers f 0 n)
  set_clean =
      let c : Clean (counts_of n) 0 (numbers f 0 n) =
      numbers_clean (counts_of n) f 0 n
      (λ p m e. subst (λ (x : ℕ). 0 < get_or (counts_of n) x 0) (sym (zero-add (number n p)))
      (inner_counts n form (number n p) (record { place = p; run = m; found = e; numbered = refl }))) in
      record { rising = c.rising; inner = λ k h. counts_inner n form (get_or (numbers f 0 n) k 0) (c.inner k h) }

  -- and the tree pruned by it is the tree pruned at the places
  pub set_pruned : (H : List ℕ → List ℕ) → pruned H (numbers f 0 n) n ≡ cut H f n
  set_pruned H =
      sym (cut_agree H f (λ p. named (numbers f 0 n) (number n p)) n
      (λ p m e k. sym (numbers_at f 0 n p m e) ∙ ap (named (numbers f 0 n)) (zero-add (number n p))))

-- every pruning of a tree is that tree pruned by a list that keeps the rule
pub record Listed (H : List ℕ → List ℕ) (a b : Node) : Type 0 where
  pub list : List ℕ
  pub clean : CleanList b list
  pub gives : pruned H list b ≡ a

pub le_listed : (H : List ℕ → List ℕ) (a b : Node) → all formed (rows b) ≡ true → Le H a b → Listed H a b
le_listed H a b form h =
    record {
      list = numbers (λ p. is_dangling (node_at a p)) 0 b;
      clean = set_clean b form (λ p. is_dangling (node_at a p));
      gives = set_pruned b form (λ p. is_dangling (node_at a p)) H ∙ cut_onto H a b h;
    }

-- and what is pruned by a list is a pruning
pub listed_le : (H : List ℕ → List ℕ) (a b : Node) → Listed H a b → Le H a b
listed_le H a b w = subst (λ (x : Node). Le H x b) w.gives (cut_le H (λ p. named w.list (number b p)) b)
