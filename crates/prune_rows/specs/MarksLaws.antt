-- The walk over a tree's rows marks them as the tree asks.
use Rattle.std.specs.Prelude.{ℕ, zero, suc, ◌+◌, ◌<◌, Bool, true, false, cond, ◌≡◌, refl, List, [], ◌∷◌, ◌++◌, map, length, get_or, replicate}
use Rattle.std.proofs.Common.{sym, ap, ap₂, ◌∙◌, append_assoc, add-zero, arith, length-append}
use Rattle.std.proofs.lemmas.List.{map-append, length-map, length-replicate, replicate-append-replicate}
use Rattle.trees.specs.Nodes.{Node, Run, inner, leaf, nil, cons, count, size, sizes}
use Rattle.trees.specs.Rows.{Entry, node, rows, rows_in}
use Rattle.trees.specs.RowsLaws.{length_rows, length_rows_in}
use Rattle.tables.specs.Cells.{count_cell}
use Rattle.prune_rows.specs.declared.marks.Mark.{Mark}
use Rattle.prune_rows.specs.Marks.{state, gone, kept, cut_off, Walk, mark_by, step_back, walk, marks_of, marks_in}

shift : (i k : ℕ) → i + suc k ≡ i + 1 + k
shift i k = omega arith

swap : (o k : ℕ) → o + k ≡ k + o
swap o k = omega arith

onto : (k o : ℕ) → suc k + o ≡ k + suc o
onto k o = omega arith

-- copies of one number, before others
copies : (k m : ℕ) (ms : List Mark) → replicate k gone ++ (replicate m gone ++ ms) ≡ replicate (k + m) gone ++ ms
copies k m ms = sym (append_assoc (replicate k gone) (replicate m gone) ms) ∙ ap (λ (l : List Mark). l ++ ms) (replicate-append-replicate k m gone)

module _ (f : ℕ → Bool) where
  -- the rows of two lists: the second is walked first
  pub walk_append : (xs ys : List ℕ) (i : ℕ) (w : Walk) → walk f (xs ++ ys) i w ≡ walk f xs i (walk f ys (i + length xs) w)
  walk_append [] ys i w = ap (λ (k : ℕ). walk f ys k w) (sym (add-zero i))
  walk_append (x ∷ xs) ys i w =
      ap (step_back (f i) x)
      (walk_append xs ys (i + 1) w ∙ ap (λ (k : ℕ). walk f xs (i + 1) (walk f ys k w)) (sym (shift i (length xs))))

  -- the same over the children of entries whose number is known
  rows_append : (es fs : List Entry) (i k : ℕ) (w : Walk) → length es ≡ k
      → walk f (map count_cell (es ++ fs)) i w ≡ walk f (map count_cell es) i (walk f (map count_cell fs) (i + k) w)
  rows_append es fs i k w e =
      ap (λ (l : List ℕ). walk f l i w) (map-append count_cell es fs)
      ∙ walk_append (map count_cell es) (map count_cell fs) i w
      ∙ ap (λ (j : ℕ). walk f (map count_cell es) i (walk f (map count_cell fs) (i + j) w)) (length-map es count_cell ∙ e)

  -- where subtrees are owed, a tree's rows go, and one is owed less
  mutual
    pub walk_gone : (n : Node) (b o : ℕ) (ms : List Mark) → walk f (map count_cell (rows n)) b (state ms (suc o)) ≡ state (replicate (size n) gone ++ ms) o
    walk_gone (inner r) b o ms =
        rows_append (rows_in r) (node (count r) ∷ []) b (sizes r) (state ms (suc o)) (length_rows_in r)
        ∙ ap (λ (k : ℕ). walk f (map count_cell (rows_in r)) b (state (gone ∷ ms) k)) (swap o (count r))
        ∙ walk_gone_in r b o (gone ∷ ms)
        ∙ ap (λ (l : List Mark). state l o) (copies (sizes r) 1 ms)
    walk_gone (leaf t v) b o ms = ap (state (gone ∷ ms)) (add-zero o)

    pub walk_gone_in : (r : Run) (b o : ℕ) (ms : List Mark)
        → walk f (map count_cell (rows_in r)) b (state ms (count r + o)) ≡ state (replicate (sizes r) gone ++ ms) o
    walk_gone_in nil b o ms = ap (state ms) (omega arith)
    walk_gone_in (cons n r) b o ms =
        rows_append (rows n) (rows_in r) b (size n) (state ms (suc (count r) + o)) (length_rows n)
        ∙ ap (λ (k : ℕ). walk f (map count_cell (rows n)) b (walk f (map count_cell (rows_in r)) (b + size n) (state ms k))) (onto (count r) o)
        ∙ ap (walk f (map count_cell (rows n)) b) (walk_gone_in r (b + size n) (suc o) ms)
        ∙ walk_gone n b o (replicate (sizes r) gone ++ ms)
        ∙ ap (λ (l : List Mark). state l o) (copies (size n) (sizes r) ms)

  -- an internal node's rows, where it is named or not
  node_marks : (r : Run) (b : ℕ) (ms : List Mark) (c : Bool)
      → ((ns : List Mark) → walk f (map count_cell (rows_in r)) b (state ns 0) ≡ state (marks_in f b r ++ ns) 0)
      → walk f (map count_cell (rows_in r)) b (step_back c (count r) (state ms 0))
      ≡ state (cond c (replicate (sizes r) gone ++ (cut_off ∷ [])) (marks_in f b r ++ (kept ∷ [])) ++ ms) 0
  node_marks r b ms true h =
      ap (λ (k : ℕ). walk f (map count_cell (rows_in r)) b (state (cut_off ∷ ms) k)) (sym (add-zero (count r)))
      ∙ walk_gone_in r b 0 (cut_off ∷ ms)
      ∙ ap (λ (l : List Mark). state l 0) (sym (append_assoc (replicate (sizes r) gone) (cut_off ∷ []) ms))
  node_marks r b ms false h =
      h (kept ∷ ms) ∙ ap (λ (l : List Mark). state l 0) (sym (append_assoc (marks_in f b r) (kept ∷ []) ms))

  leaf_marks : (c : Bool) (ms : List Mark) → step_back c 0 (state ms 0) ≡ state (cond c cut_off kept ∷ ms) 0
  leaf_marks true ms = refl
  leaf_marks false ms = refl

  -- where nothing is owed, a tree's rows get the tree's marks, and nothing is owed before them
  mutual
    pub walk_marks : (n : Node) (b : ℕ) (ms : List Mark) → walk f (map count_cell (rows n)) b (state ms 0) ≡ state (marks_of f b n ++ ms) 0
    walk_marks (inner r) b ms =
        rows_append (rows_in r) (node (count r) ∷ []) b (sizes r) (state ms 0) (length_rows_in r)
        ∙ node_marks r b ms (f (b + sizes r)) (λ ns. walk_marks_in r b ns)
    walk_marks (leaf t v) b ms = leaf_marks (f b) ms

    pub walk_marks_in : (r : Run) (b : ℕ) (ms : List Mark) → walk f (map count_cell (rows_in r)) b (state ms 0) ≡ state (marks_in f b r ++ ms) 0
    walk_marks_in nil b ms = refl
    walk_marks_in (cons n r) b ms =
        rows_append (rows n) (rows_in r) b (size n) (state ms 0) (length_rows n)
        ∙ ap (walk f (map count_cell (rows n)) b) (walk_marks_in r (b + size n) ms)
        ∙ walk_marks n b (marks_in f (b + size n) r ++ ms)
        ∙ ap (λ (l : List Mark). state l 0) (sym (append_assoc (marks_of f b n) (marks_in f (b + size n) r) ms))

  either_length : (c : Bool) (x y : List Mark) (k : ℕ) → length x ≡ k → length y ≡ k → length (cond c x y) ≡ k
  either_length true x y k p q = p
  either_length false x y k p q = q

  -- one mark a row
  mutual
    pub length_marks : (b : ℕ) (n : Node) → length (marks_of f b n) ≡ size n
    length_marks b (inner r) =
        either_length (f (b + sizes r)) (replicate (sizes r) gone ++ (cut_off ∷ [])) (marks_in f b r ++ (kept ∷ [])) (sizes r + 1)
        (omega (arith, length-append (replicate (sizes r) gone) (cut_off ∷ []), length-replicate (sizes r) gone))
        (omega (arith, length-append (marks_in f b r) (kept ∷ []), length_marks_in b r))
    length_marks b (leaf t v) = refl

    pub length_marks_in : (b : ℕ) (r : Run) → length (marks_in f b r) ≡ sizes r
    length_marks_in b nil = refl
    length_marks_in b (cons n r) =
        length-append (marks_of f b n) (marks_in f (b + size n) r) ∙ ap₂ ◌+◌ (length_marks b n) (length_marks_in (b + size n) r)

  mark_named : (c : Bool) (o : ℕ) → mark_by c o ≡ cut_off → c ≡ true
  mark_named true zero e = refl
  mark_named false zero e = absurd (cc e)
  mark_named c (suc o) e = absurd (cc e)

  shorter : (i k : ℕ) → f (i + 1 + k) ≡ true → f (i + suc k) ≡ true
  shorter i k e = ap f (shift i k) ∙ e

  -- only a named row is cut off
  pub cut_off_named : (cs : List ℕ) (i : ℕ) (w : Walk) (k : ℕ) → k < length cs → get_or (walk f cs i w).marks k gone ≡ cut_off → f (i + k) ≡ true
  cut_off_named [] i w k h e = absurd (omega arith)
  cut_off_named (c ∷ cs) i w zero h e = ap f (add-zero i) ∙ mark_named (f i) (walk f cs (i + 1) w).owed e
  cut_off_named (c ∷ cs) i w (suc k) h e = shorter i k (cut_off_named cs (i + 1) w k (omega arith) e)
