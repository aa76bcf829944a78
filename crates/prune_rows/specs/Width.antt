-- A pruned slip is never longer: the bits of its entries.
use Rattle.std.specs.Prelude.{ℕ, zero, suc, ◌+◌, ◌≤◌, Bool, true, false, not, cond, ◌&&◌, ◌||◌, ◌≡◌, refl, List, [], ◌∷◌, ◌++◌, leb, eqb, length}
use Rattle.std.proofs.lemmas.Bool.{false≢true}
use Rattle.std.proofs.Common.{arith, leb-true, eqb-true, eq-eqb}
use Rattle.lists.specs.TestsLaws.{and_left, and_right, or_cases}
use Rattle.lists.specs.Lists.{all}
use Rattle.trees.specs.Nodes.{Node, Run, inner, leaf, nil, cons, type_of, count, size, sizes, label, Head, heads}
use Rattle.trees.specs.Rules.{label_bytes, salt_type, salt_bytes, is_salt, salt_first, salt_long, salt_there, salted, All, AllIn, NodeRules, LeafRules}
use Rattle.trees.specs.Rows.{Entry, node, tip, rows, rows_in, pruned_rows, pruned_rows_in}
use Rattle.tables.specs.Measure.{row_bits}

-- the bits of an entry, that of a dangling node with a label of its length
abbrev pub entry_width : Entry → ℕ
entry_width (node k) = row_bits 0 (suc k) 0
entry_width (tip zero v) = row_bits 0 0 label_bytes
entry_width (tip (suc t) v) = row_bits (suc t) 0 (length v)

-- the bits of several entries
abbrev pub width : List Entry → ℕ
width [] = 0
width (e ∷ es) = entry_width e + width es

pub width_append : (x y : List Entry) → width (x ++ y) ≡ width x + width y
width_append [] y = omega arith
width_append (e ∷ x) y = let h : width (x ++ y) ≡ width x + width y = width_append x y in omega arith

-- the first child of a node that keeps the salt rule is of type 0, or a salt of 32 bytes
first_low : (h : Head) (hs : List Head) → salted (h ∷ hs) ≡ true → h.kind ≤ salt_type
first_low h hs e =
    or_cases (all (λ x. leb x.kind salt_type) (h ∷ hs)) (is_salt h)
    (and_right (salt_first (h ∷ hs) && salt_long (h ∷ hs)) (salt_there (h ∷ hs)) e)
    (λ p. leb-true h.kind salt_type (and_left (leb h.kind salt_type) (all (λ x. leb x.kind salt_type) hs) p))
    (λ p. omega (arith, eqb-true h.kind salt_type p))

not_salt : (a b : Bool) → a ≡ true → (not a || b) ≡ true → b ≡ true
not_salt true b p e = e
not_salt false b p e = absurd (false≢true p)

first_long : (h : Head) (hs : List Head) → salted (h ∷ hs) ≡ true → h.kind ≡ salt_type → length h.text ≡ salt_bytes
first_long h hs e p =
    let long : salt_long (h ∷ hs) ≡ true =
    and_right (salt_first (h ∷ hs)) (salt_long (h ∷ hs)) (and_left (salt_first (h ∷ hs) && salt_long (h ∷ hs)) (salt_there (h ∷ hs)) e) in
    eqb-true (length h.text) salt_bytes
    (not_salt (is_salt h) (eqb (length h.text) salt_bytes) (eq-eqb h.kind salt_type p)
    (and_left (not (is_salt h) || eqb (length h.text) salt_bytes) (all (λ x. not (is_salt x) || eqb (length x.text) salt_bytes) hs) long))

leaf_wide : (t : ℕ) (v : List ℕ) → t ≤ salt_type → (t ≡ salt_type → length v ≡ salt_bytes) → entry_width (tip 0 []) ≤ width (tip t v ∷ [])
unfolding row_bits
leaf_wide zero v p q = omega arith
leaf_wide (suc zero) v p q = omega (arith, q refl)
leaf_wide (suc (suc t)) v p q = absurd (omega arith)

module _ (H : List ℕ → List ℕ) (composed : List ℕ → Bool) where
  abbrev Keeps : Node → Type 0
  Keeps n = All H NodeRules (LeafRules composed) n

  abbrev KeepsIn : Run → Type 0
  KeepsIn r = AllIn H NodeRules (LeafRules composed) r

  abbrev head : Node → Head
  head n = record { kind = type_of n; text = label H n }

  -- somewhere below a node that keeps the rules is a salt or a label of 32 bytes
  mutual
    unfolding row_bits

    first_wide : (n : Node) → type_of n ≤ salt_type → (type_of n ≡ salt_type → length (label H n) ≡ salt_bytes) → Keeps n → entry_width (tip 0 []) ≤ width (rows n)
    first_wide (inner r) p q k = omega (arith, run_wide r k.0 k.1, width_append (rows_in r) (node (count r) ∷ []))
    first_wide (leaf t v) p q k = leaf_wide t v p q

    run_wide : (r : Run) → NodeRules (heads H r) → KeepsIn r → entry_width (tip 0 []) ≤ width (rows_in r)
    run_wide nil k ks = absurd (false≢true k.children)
    run_wide (cons n r) k ks =
        omega (
          arith,
          first_wide n (first_low (head n) (heads H r) k.salt) (first_long (head n) (heads H r) k.salt) ks.0,
          width_append (rows n) (rows_in r),
        )

  -- a dangling entry is at least 6 bits narrower than the subtree that it stands for
  pub saves_six : (r : Run) → Keeps (inner r) → entry_width (tip 0 (label H (inner r))) + 6 ≤ width (rows (inner r))
  unfolding row_bits
  saves_six r k = omega (arith, run_wide r k.0 k.1, width_append (rows_in r) (node (count r) ∷ []))

  either_narrow : (c : Bool) (r : Run) (es : List Entry) → Keeps (inner r) → width es ≤ width (rows_in r)
      → width (cond c (tip 0 (label H (inner r)) ∷ []) (es ++ (node (count r) ∷ []))) ≤ width (rows (inner r))
  either_narrow true r es k h = omega (arith, saves_six r k)
  either_narrow false r es k h = omega (arith, width_append es (node (count r) ∷ []), width_append (rows_in r) (node (count r) ∷ []))

  -- the pruned rows of a tree that keeps the rules are no wider
  mutual
    pub pruned_narrow : (f : ℕ → Bool) (b : ℕ) (n : Node) → Keeps n → width (pruned_rows H f b n) ≤ width (rows n)
    pruned_narrow f b (inner r) k = either_narrow (f (b + sizes r)) r (pruned_rows_in H f b r) k (pruned_narrow_in f b r k.1)
    pruned_narrow f b (leaf t v) k = omega arith

    pub pruned_narrow_in : (f : ℕ → Bool) (b : ℕ) (r : Run) → KeepsIn r → width (pruned_rows_in H f b r) ≤ width (rows_in r)
    pruned_narrow_in f b nil k = omega arith
    pruned_narrow_in f b (cons n r) k =
        omega (
          arith,
          pruned_narrow f b n k.0,
          pruned_narrow_in f (b + size n) r k.1,
          width_append (pruned_rows H f b n) (pruned_rows_in H f (b + size n) r),
          width_append (rows n) (rows_in r),
        )
