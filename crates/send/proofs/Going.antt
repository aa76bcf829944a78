-- The state of the walk at a row, and what one row does to it.
use Rattle.std.proofs.Common.{ℕ, ◌+◌, ◌-◌, ◌*◌, ◌≤◌, ◌<◌, ◌≡◌, List, [], ◌∷◌, ◌++◌, length, take, drop, get_or, sym, ap, ap₂, ◌∙◌, subst, arith, length-append, length-drop, length-take-le, take_all, drop_of_length-le}
use Rattle.trees.specs.Rules.{max_value, max_children, max_nodes}
use Rattle.trees.specs.Rows.{kids, below}
use Rattle.tables.specs.Records.{TreeTable}
use Rattle.lists.specs.PartsLaws.{next_cons}
use Rattle.send.specs.Blocks.{piece_size, row_blocks, blocks_from, Enough, BlocksAsks, BlocksGives}
use Rattle.send.specs.BlocksLaws.{blocks_tree}
use Rattle.send.specs.SafeLaws.{enough_tree, table_low}

-- At row i the pieces `waiting` wait, and the rows passed take `total` blocks.
pub record Going (counts lengths waiting : List ℕ) (total i : ℕ) : Type 0 where
  pub deep : length waiting ≤ i
  pub low : total ≤ 32768 * i
  pub enough : Enough (drop i counts) (length waiting)
  pub so_far : blocks_from counts lengths [] ≡ total + blocks_from (drop i counts) (drop i lengths) waiting

pub going_start : {counts lengths : List ℕ} → BlocksAsks counts lengths → Going counts lengths [] 0 0
going_start {counts} {lengths} p =
    record {
      deep = omega arith;
      low = omega arith;
      enough = enough_tree p.tree p.types counts lengths p.values p.table;
      so_far = omega arith;
    }

-- Row i is there and has c children and the length l; they keep their limits, the children wait, and there is room.
pub record Here (counts lengths waiting : List ℕ) (i c l : ℕ) : Type 0 where
  pub counts_next : drop i counts ≡ c ∷ drop (i + 1) counts
  pub lengths_next : drop i lengths ≡ l ∷ drop (i + 1) lengths
  pub room : length waiting < max_nodes
  pub awaited : c ≤ length waiting
  pub few : c ≤ max_children
  pub short : l ≤ max_value

module _ {counts lengths waiting : List ℕ} {total i c l : ℕ} (g : Going counts lengths waiting total i) where
  pub row_here : BlocksAsks counts lengths → i < length counts → c ≡ get_or counts i 0 → l ≡ get_or lengths i 0 → Here counts lengths waiting i c l
  row_here p h ec el =
      let t : TreeTable p.tree p.types counts lengths p.values = p.table in
      let low : (get_or counts i 0 ≤ max_children) × (get_or lengths i 0 ≤ max_value) =
      table_low p.tree p.types counts lengths p.values t i (omega arith) in
      let e : drop i counts ≡ c ∷ drop (i + 1) counts = next_cons counts i 0 h ∙ ap (λ (x : ℕ). x ∷ drop (i + 1) counts) (sym ec) in
      let n : drop i lengths ≡ l ∷ drop (i + 1) lengths =
      next_cons lengths i 0 (omega arith) ∙ ap (λ (x : ℕ). x ∷ drop (i + 1) lengths) (sym el) in
      let w : Enough (c ∷ drop (i + 1) counts) (length waiting) = subst (λ (z : List ℕ). Enough z (length waiting)) e g.enough in
      record {
        counts_next = e;
        lengths_next = n;
        room = omega (arith, g.deep, t.form.columns.few, t.form.columns.counts_long);
        awaited = w.0;
        few = omega arith;
        short = omega arith;
      }

  module _ (h : Here counts lengths waiting i c l) where
    -- one row more
    pub going_next :
        {own size : ℕ}
        → own ≡ row_blocks c (kids c waiting)
        → own ≤ 32768
        → size ≡ piece_size c l
        → Going counts lengths (below c waiting ++ (size ∷ [])) (total + own) (i + 1)
    unfolding blocks_from
    going_next {own} {size} is most sized =
        let walk : List ℕ → ℕ = blocks_from (drop (i + 1) counts) (drop (i + 1) lengths) in
        let walked : blocks_from (drop i counts) (drop i lengths) waiting ≡ row_blocks c (kids c waiting) + walk (below c waiting ++ (piece_size c l ∷ [])) =
        ap₂ (λ (x y : List ℕ). blocks_from x y waiting) h.counts_next h.lengths_next in
        let later : walk (below c waiting ++ (size ∷ [])) ≡ walk (below c waiting ++ (piece_size c l ∷ [])) = ap (λ (z : ℕ). walk (below c waiting ++ (z ∷ []))) sized in
        let long : length (below c waiting ++ (size ∷ [])) ≡ length waiting - c + 1 =
        length-append (below c waiting) (size ∷ []) ∙ ap (λ (k : ℕ). k + 1) (length-take-le (length waiting - c) waiting (omega arith)) in
        let e : Enough (drop (i + 1) counts) (length waiting - c + 1) = (subst (λ (x : List ℕ). Enough x (length waiting)) h.counts_next g.enough).1 in
        record {
          deep = omega (arith, g.deep, h.awaited);
          low = omega (arith, g.low);
          enough = subst (Enough (drop (i + 1) counts)) (sym long) e;
          so_far = omega (arith, g.so_far, walked, later, is);
        }

-- the children's pieces, as the code cuts them off
pub cut_off : (held waiting : List ℕ) (long c : ℕ) → held ≡ waiting → long ≡ length waiting → take (length held - (long - c)) (drop (long - c) held) ≡ kids c waiting
cut_off held waiting long c e f =
    rw (e, f) (take_all (length waiting - (length waiting - c)) (kids c waiting) (omega (arith, length-drop (length waiting - c) waiting)))

-- past the last row the blocks are those of every tree whose table has these columns
pub going_done : {counts lengths waiting : List ℕ} {total i : ℕ} → Going counts lengths waiting total i → length counts ≤ i → BlocksGives counts lengths total
unfolding blocks_from
going_done {counts} {lengths} {waiting} {total} {i} g h H long n types values t =
    let past : blocks_from (drop i counts) (drop i lengths) waiting ≡ 0 =
    ap (λ (x : List ℕ). blocks_from x (drop i lengths) waiting) (drop_of_length-le counts h) in
    omega (arith, g.so_far, past, blocks_tree H long n types counts lengths values t)
