-- The walk of a tree's table gives the tree's blocks.
use Rattle.std.specs.Prelude.{ℕ, zero, suc, ◌+◌, ◌-◌, ◌≤◌, ◌≡◌, List, [], ◌∷◌, ◌++◌, length, take, drop}
use Rattle.std.proofs.Math.Path.{refl}
use Rattle.std.proofs.Common.{sym, ap, ap₂, ◌∙◌, append_assoc, append-nil, zero-add, add-zero, add_assoc, arith, length-drop, take_all, length-take-le, ne_eqb}
use Rattle.std.proofs.Math.ListN.{length-append}
use Rattle.trees.specs.Nodes.{Node, Run, inner, leaf, nil, cons, count, head_bytes, prelabel, label, heads, blocks_of, blocks, blocks_in}
use Rattle.trees.specs.Rules.{label_bytes}
use Rattle.trees.specs.Rows.{Entry, node, tip, rows, rows_in, kids, below}
use Rattle.trees.specs.RowsLaws.{kids_at, below_at}
use Rattle.tables.specs.Tables.{entries, sum}
use Rattle.tables.specs.Records.{TreeTable}
use Rattle.send.specs.Blocks.{piece_size, row_blocks, blocks_from}

-- the same walk over entries
abbrev entry_blocks : List Entry → List ℕ → ℕ
entry_blocks [] st = 0
entry_blocks (node k ∷ es) st = blocks_of (sum (kids k st)) + entry_blocks es (below k st ++ ((head_bytes + label_bytes) ∷ []))
entry_blocks (tip t v ∷ es) st = entry_blocks es (st ++ ((head_bytes + length v) ∷ []))

-- all that wait are below none
below_none : (st : List ℕ) → below 0 st ≡ st
below_none st = take_all (length st - 0) st (omega arith)

-- a table's columns are walked as its entries are
columns_walked :
    (ts cs ls vs st : List ℕ)
    → length cs ≡ length ts
    → length ls ≡ length ts
    → sum ls ≤ length vs
    → blocks_from cs ls st ≡ entry_blocks (entries ts cs ls vs) st
unfolding blocks_from row_blocks piece_size sum
columns_walked [] [] ls vs st p q h = refl
columns_walked [] (c ∷ cs) ls vs st p q h = absurd (omega arith)
columns_walked (t ∷ ts) [] ls vs st p q h = absurd (omega arith)
columns_walked (t ∷ ts) (c ∷ cs) [] vs st p q h = absurd (omega arith)
columns_walked (t ∷ ts) (zero ∷ cs) (l ∷ ls) vs st p q h =
    let long : length (take l vs) ≡ l = length-take-le l vs (omega arith) in
    let rest = columns_walked ts cs ls (drop l vs) (below 0 st ++ ((head_bytes + l) ∷ [])) (omega arith) (omega arith) (omega (arith, length-drop l vs)) in
    zero-add (blocks_from cs ls (below 0 st ++ ((head_bytes + l) ∷ [])))
    ∙ rest
    ∙ ap₂ (λ (b : List ℕ) (m : ℕ). entry_blocks (entries ts cs ls (drop l vs)) (b ++ ((head_bytes + m) ∷ []))) (below_none st) (sym long)
columns_walked (t ∷ ts) (suc c ∷ cs) (l ∷ ls) vs st p q h =
    rw (ne_eqb (suc c) 0 (λ e. omega arith))
    (ap (λ (s : ℕ). blocks_of (sum (kids (suc c) st)) + s)
    (columns_walked ts cs ls (drop l vs) (below (suc c) st ++ ((head_bytes + label_bytes) ∷ [])) (omega arith) (omega arith)
    (omega (arith, length-drop l vs))))

module _ (H : List ℕ → List ℕ) (long : (x : List ℕ) → length (H x) ≡ label_bytes) where
  -- the size of a node's piece
  abbrev piece_of : Node → ℕ
  piece_of n = head_bytes + length (label H n)

  -- of a run: the children's in order
  abbrev pieces : Run → List ℕ
  pieces nil = []
  pieces (cons n r) = piece_of n ∷ pieces r

  length_pieces : (r : Run) → length (pieces r) ≡ count r
  length_pieces nil = refl
  length_pieces (cons n r) = ap suc (length_pieces r)

  -- together they are as long as the prelabel
  sum_pieces : (r : Run) → sum (pieces r) ≡ length (prelabel (heads H r))
  unfolding sum
  sum_pieces nil = refl
  sum_pieces (cons n r) = omega (arith, sum_pieces r, length-append (label H n) (prelabel (heads H r)))

  -- the rows of a tree, whatever waits and whatever follows, give its blocks and leave its piece waiting
  mutual
    walk_rows : (n : Node) (es : List Entry) (st : List ℕ) → entry_blocks (rows n ++ es) st ≡ blocks H n + entry_blocks es (st ++ (piece_of n ∷ []))
    walk_rows (inner r) es st =
        ap (λ (l : List Entry). entry_blocks l st) (append_assoc (rows_in r) (node (count r) ∷ []) es)
        ∙ walk_rows_in r (node (count r) ∷ es) st
        ∙ ap₂ (λ (x y : List ℕ). blocks_in H r + (blocks_of (sum y) + entry_blocks es (x ++ ((head_bytes + label_bytes) ∷ []))))
        (below_at st (pieces r) (count r) (length_pieces r)) (kids_at st (pieces r) (count r) (length_pieces r))
        ∙ ap₂ (λ (b s : ℕ). blocks_in H r + (blocks_of b + entry_blocks es (st ++ ((head_bytes + s) ∷ []))))
        (sum_pieces r) (sym (long (prelabel (heads H r))))
        ∙ sym (add_assoc (blocks_in H r) (blocks_of (length (prelabel (heads H r)))) (entry_blocks es (st ++ (piece_of (inner r) ∷ []))))
    walk_rows (leaf t v) es st = sym (zero-add (entry_blocks es (st ++ (piece_of (leaf t v) ∷ []))))

    walk_rows_in : (r : Run) (es : List Entry) (st : List ℕ) → entry_blocks (rows_in r ++ es) st ≡ blocks_in H r + entry_blocks es (st ++ pieces r)
    walk_rows_in nil es st = ap (entry_blocks es) (sym (append-nil st)) ∙ sym (zero-add (entry_blocks es (st ++ [])))
    walk_rows_in (cons n r) es st =
        ap (λ (l : List Entry). entry_blocks l st) (append_assoc (rows n) (rows_in r) es)
        ∙ walk_rows n (rows_in r ++ es) st
        ∙ ap (λ (k : ℕ). blocks H n + k) (walk_rows_in r es (st ++ (piece_of n ∷ [])))
        ∙ ap (λ (l : List ℕ). blocks H n + (blocks_in H r + entry_blocks es l)) (append_assoc st (piece_of n ∷ []) (pieces r))
        ∙ sym (add_assoc (blocks H n) (blocks_in H r) (entry_blocks es (st ++ pieces (cons n r))))

  -- the walk of a tree's table gives the tree's blocks
  pub blocks_tree : (n : Node) (ts cs ls vs : List ℕ) → TreeTable n ts cs ls vs → blocks_from cs ls [] ≡ blocks H n
  blocks_tree n ts cs ls vs t =
      columns_walked ts cs ls vs [] t.form.columns.counts_long t.form.columns.lengths_long t.form.area
      ∙ ap (λ (es : List Entry). entry_blocks es []) (t.rows_are ∙ sym (append-nil (rows n)))
      ∙ walk_rows n [] []
      ∙ add-zero (blocks H n)
