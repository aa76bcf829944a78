-- Entry numbers and places: each node of a tree has one of each, and pruning by numbers is pruning at places.
use Rattle.std.specs.Prelude.{◌≡◌, refl, Bool, true, false, cond, List, [], ◌∷◌, ◌++◌, ℕ, zero, suc, ◌+◌, ◌-◌, ◌<◌, ◌≤◌, ltb, length, get_or}
use Rattle.std.proofs.Common.{sym, ap, ap₂, ◌∙◌, subst, append_assoc, append-nil, arith, length-append, ltb-true, ltb-false}
use Rattle.std.proofs.Math.Option.{some}
use Rattle.std.proofs.lemmas.List.{get_or_at}
use Rattle.lists.specs.ListsLaws.{none_some, some_inj}
use Rattle.trees.specs.Nodes.{Node, Run, inner, leaf, nil, cons, count, size, sizes, label}
use Rattle.trees.specs.Places.{Place, node_at, child_at, cut, cut_in}
use Rattle.trees.specs.Rows.{Entry, node, tip, rows, rows_in, last_row, number, number_in, pruned_rows, pruned_rows_in}
use Rattle.trees.specs.RowsLaws.{length_rows, length_rows_in}

-- an entry number is below the number of nodes
mutual
  pub number_low : (n : Node) (p : Place) (x : Node) → node_at n p ≡ some x → number n p < size n
  number_low (inner r) [] x e = omega arith
  number_low (inner r) (i ∷ p) x e = let h : number_in r i p < sizes r = number_in_low r i p x e in omega arith
  number_low (leaf t v) p x e = omega arith

  pub number_in_low : (r : Run) (i : ℕ) (p : Place) (x : Node) → child_at r i p ≡ some x → number_in r i p < sizes r
  number_in_low nil i p x e = absurd (none_some e)
  number_in_low (cons n r) zero p x e = let h : number n p < size n = number_low n p x e in omega arith
  number_in_low (cons n r) (suc i) p x e = let h : number_in r i p < sizes r = number_in_low r i p x e in omega arith

-- two places of a tree with one entry number are one place
mutual
  pub number_inj : (n : Node) (p q : Place) (x y : Node) → node_at n p ≡ some x → node_at n q ≡ some y → number n p ≡ number n q → p ≡ q
  number_inj (inner r) [] [] x y e f h = refl
  number_inj (inner r) [] (j ∷ q) x y e f h = absurd (let k : number_in r j q < sizes r = number_in_low r j q y f in omega arith)
  number_inj (inner r) (i ∷ p) [] x y e f h = absurd (let k : number_in r i p < sizes r = number_in_low r i p x e in omega arith)
  number_inj (inner r) (i ∷ p) (j ∷ q) x y e f h = number_in_inj r i j p q x y e f h
  number_inj (leaf t v) [] [] x y e f h = refl
  number_inj (leaf t v) [] (j ∷ q) x y e f h = absurd (none_some f)
  number_inj (leaf t v) (i ∷ p) q x y e f h = absurd (none_some e)

  pub number_in_inj : (r : Run) (i j : ℕ) (p q : Place) (x y : Node) → child_at r i p ≡ some x → child_at r j q ≡ some y
      → number_in r i p ≡ number_in r j q → i ∷ p ≡ j ∷ q
  number_in_inj nil i j p q x y e f h = absurd (none_some e)
  number_in_inj (cons n r) zero zero p q x y e f h = ap (λ (z : Place). 0 ∷ z) (number_inj n p q x y e f h)
  number_in_inj (cons n r) zero (suc j) p q x y e f h = absurd (let k : number n p < size n = number_low n p x e in omega arith)
  number_in_inj (cons n r) (suc i) zero p q x y e f h = absurd (let k : number n q < size n = number_low n q y f in omega arith)
  number_in_inj (cons n r) (suc i) (suc j) p q x y e f h =
      let k : i ∷ p ≡ j ∷ q = number_in_inj r i j p q x y e f (omega arith) in cc

-- the node with an entry number: its place, and the node there
pub record Numbered (n : Node) (k : ℕ) : Type 0 where
  pub place : Place
  pub here : Node
  pub found : node_at n place ≡ some here
  pub numbered : number n place ≡ k

-- the same below a child of a run
pub record NumberedIn (r : Run) (k : ℕ) : Type 0 where
  pub child : ℕ
  pub place : Place
  pub here : Node
  pub found : child_at r child place ≡ some here
  pub numbered : number_in r child place ≡ k

from_run : (r : Run) (k : ℕ) → k < size (inner r) → (b : Bool) → ltb k (sizes r) ≡ b → (k < sizes r → NumberedIn r k) → Numbered (inner r) k
from_run r k h true e f =
    let x : NumberedIn r k = f (ltb-true k (sizes r) e) in
    record { place = x.child ∷ x.place; here = x.here; found = x.found; numbered = x.numbered }
from_run r k h false e f =
    record { place = []; here = inner r; found = refl; numbered = omega (arith, ltb-false k (sizes r) e) }

from_child : (n : Node) (r : Run) (k : ℕ) → k < sizes (cons n r) → (b : Bool) → ltb k (size n) ≡ b → (k < size n → Numbered n k)
    → (k - size n < sizes r → NumberedIn r (k - size n)) → NumberedIn (cons n r) k
from_child n r k h true e f g =
    let x : Numbered n k = f (ltb-true k (size n) e) in
    record { child = 0; place = x.place; here = x.here; found = x.found; numbered = x.numbered }
from_child n r k h false e f g =
    let low : size n ≤ k = ltb-false k (size n) e in
    let x : NumberedIn r (k - size n) = g (omega arith) in
    record { child = suc x.child; place = x.place; here = x.here; found = x.found; numbered = omega (arith, x.numbered) }

-- every entry number is that of a node
mutual
  pub number_onto : (n : Node) (k : ℕ) → k < size n → Numbered n k
  number_onto (inner r) k h = from_run r k h (ltb k (sizes r)) refl (λ l. number_in_onto r k l)
  number_onto (leaf t v) k h = record { place = []; here = leaf t v; found = refl; numbered = omega arith }

  pub number_in_onto : (r : Run) (k : ℕ) → k < sizes r → NumberedIn r k
  number_in_onto nil k h = absurd (omega arith)
  number_in_onto (cons n r) k h =
      from_child n r k h (ltb k (size n)) refl (λ l. number_onto n k l) (λ l. number_in_onto r (k - size n) l)

-- the rows of x stand together in the rows es, and end at the entry number k
pub record Within (es : List Entry) (x : Node) (k : ℕ) : Type 0 where
  pub front : List Entry
  pub back : List Entry
  pub split : es ≡ front ++ (rows x ++ back)
  pub ends : k + 1 ≡ length front + size x

whole : (n : Node) → Within (rows n) n (number n [])
whole (inner r) = record { front = []; back = []; split = sym (append-nil (rows (inner r))); ends = omega arith }
whole (leaf t v) = record { front = []; back = []; split = refl; ends = omega arith }

after : (es fs : List Entry) (x : Node) (k : ℕ) → Within es x k → Within (es ++ fs) x k
after es fs x k w =
    record {
      front = w.front;
      back = w.back ++ fs;
      split = ap (λ (l : List Entry). l ++ fs) w.split ∙ simp append_assoc;
      ends = w.ends;
    }

before : (es fs : List Entry) (x : Node) (k : ℕ) → Within fs x k → Within (es ++ fs) x (length es + k)
before es fs x k w =
    record {
      front = es ++ w.front;
      back = w.back;
      split = ap (λ (l : List Entry). es ++ l) w.split ∙ simp append_assoc;
      ends = omega (arith, w.ends, length-append es w.front);
    }

-- the rows of the node at a place stand together in the tree's rows, and end at its entry number
mutual
  pub rows_at : (n : Node) (p : Place) (x : Node) → node_at n p ≡ some x → Within (rows n) x (number n p)
  rows_at (inner r) [] x e = subst (λ (y : Node). Within (rows (inner r)) y (sizes r)) (some_inj e) (whole (inner r))
  rows_at (inner r) (i ∷ p) x e = after (rows_in r) (node (count r) ∷ []) x (number_in r i p) (rows_at_in r i p x e)
  rows_at (leaf t v) [] x e = subst (λ (y : Node). Within (rows (leaf t v)) y 0) (some_inj e) (whole (leaf t v))
  rows_at (leaf t v) (i ∷ p) x e = absurd (none_some e)

  pub rows_at_in : (r : Run) (i : ℕ) (p : Place) (x : Node) → child_at r i p ≡ some x → Within (rows_in r) x (number_in r i p)
  rows_at_in nil i p x e = absurd (none_some e)
  rows_at_in (cons n r) zero p x e = after (rows n) (rows_in r) x (number n p) (rows_at n p x e)
  rows_at_in (cons n r) (suc i) p x e =
      subst (λ (k : ℕ). Within (rows n ++ rows_in r) x (k + number_in r i p)) (length_rows n)
      (before (rows n) (rows_in r) x (number_in r i p) (rows_at_in r i p x e))

-- the root's entry behind all others of the tree
record Last (x : Node) : Type 0 where
  pub front : List Entry
  pub split : rows x ≡ front ++ (last_row x ∷ [])
  pub long : length front + 1 ≡ size x

root_last : (x : Node) → Last x
root_last (inner r) = record { front = rows_in r; split = refl; long = ap (λ (k : ℕ). k + 1) (length_rows_in r) }
root_last (leaf t v) = record { front = []; split = refl; long = omega arith }

-- the entry with the number of a node is that node's
pub entry_at : (n : Node) (p : Place) (x : Node) → node_at n p ≡ some x → (d : Entry) → get_or (rows n) (number n p) d ≡ last_row x
entry_at n p x e d =
    let w : Within (rows n) x (number n p) = rows_at n p x e in
    let y : Last x = root_last x in
    let split : rows n ≡ (w.front ++ y.front) ++ (last_row x ∷ w.back) =
    w.split ∙ ap (λ (l : List Entry). w.front ++ (l ++ w.back)) y.split ∙ simp append_assoc in
    ap (λ (l : List Entry). get_or l (number n p) d) split
    ∙ get_or_at (w.front ++ y.front) (last_row x) w.back d (number n p)
    (length-append w.front y.front ∙ omega (arith, w.ends, y.long))

-- a child's entries are counted on from those before it
pub moved : (a b c : ℕ) → a + (b + c) ≡ a + b + c
moved a b c = omega arith

module _ (H : List ℕ → List ℕ) where
  -- pruning below a node keeps its number of children
  pub count_cut : (f : ℕ → Place → Bool) (r : Run) → count (cut_in H f r) ≡ count r
  count_cut f nil = refl
  count_cut f (cons n r) = ap suc (count_cut (λ i p. f (suc i) p) r)

  either_rows : (b : Bool) (x y : Node) → rows (cond b x y) ≡ cond b (rows x) (rows y)
  either_rows true x y = refl
  either_rows false x y = refl

  -- the rows of a tree pruned at the places of the named entries
  mutual
    pub rows_cut : (f : ℕ → Bool) (b : ℕ) (n : Node) → rows (cut H (λ p. f (b + number n p)) n) ≡ pruned_rows H f b n
    rows_cut f b (inner r) =
        either_rows (f (b + sizes r)) (leaf 0 (label H (inner r))) (inner (cut_in H (λ i p. f (b + number_in r i p)) r))
        ∙ ap₂ (λ (l : List Entry) (c : ℕ). cond (f (b + sizes r)) (tip 0 (label H (inner r)) ∷ []) (l ++ (node c ∷ [])))
        (rows_cut_in f b r) (count_cut (λ i p. f (b + number_in r i p)) r)
    rows_cut f b (leaf t v) = refl

    pub rows_cut_in : (f : ℕ → Bool) (b : ℕ) (r : Run) → rows_in (cut_in H (λ i p. f (b + number_in r i p)) r) ≡ pruned_rows_in H f b r
    rows_cut_in f b nil = refl
    rows_cut_in f b (cons n r) =
        ap₂ ◌++◌ (rows_cut f b n)
        ((λ k. rows_in (cut_in H (λ i p. f (moved b (size n) (number_in r i p) k)) r)) ∙ rows_cut_in f (b + size n) r)
