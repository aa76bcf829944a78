-- Pruning at a set of places.
use Rattle.std.specs.Prelude.{◌≡◌, refl, Bool, true, false, not, cond, ◌&&◌, ◌||◌, List, [], ◌∷◌, ◌++◌, ℕ, zero, suc, eqb}
use Rattle.std.proofs.Common.{sym, ap, ◌∙◌, subst, true≢false, append-nil, arith}
use Rattle.std.proofs.lemmas.Bool.{false≢true, not-true}
use Rattle.std.proofs.Math.Option.{some}
use Rattle.std.proofs.Math.Dec.{eqb-suc-suc}
use Rattle.lists.specs.TestsLaws.{and_left, and_right, and_both}
use Rattle.lists.specs.Lists.{same}
use Rattle.lists.specs.ListsLaws.{same_true, none_some, some_inj}
use Rattle.trees.specs.Nodes.{Node, Run, inner, leaf, nil, cons, prelabel, label, heads}
use Rattle.trees.specs.Places.{Place, node_at, child_at, is_dangling, stays, Le, LeIn, cut, cut_in, EqualBut, EqualButIn}
use Rattle.trees.specs.PlacesLaws.{at_root, leaf_inner}
use Rattle.trees.proofs.OrderLaws.{le_label}

module _ (H : List ℕ → List ℕ) where
  -- an internal node, cut or kept
  either_le : (b : Bool) (r s : Run) → LeIn H s r → Le H (cond b (leaf 0 (H (prelabel (heads H r)))) (inner s)) (inner r)
  either_le true r s h = (refl, refl)
  either_le false r s h = h

  -- a tree pruned at places is a pruning
  mutual
    pub cut_le : (f : Place → Bool) (n : Node) → Le H (cut H f n) n
    cut_le f (inner r) = either_le (f []) r (cut_in H (λ i p. f (i ∷ p)) r) (cut_in_le (λ i p. f (i ∷ p)) r)
    cut_le f (leaf t v) = (refl, refl)

    pub cut_in_le : (f : ℕ → Place → Bool) (r : Run) → LeIn H (cut_in H f r) r
    cut_in_le f nil = tt
    cut_in_le f (cons n r) = (cut_le (f 0) n, cut_in_le (λ i p. f (suc i) p) r)

  -- "Pruning keeps the root label"
  pub cut_label : (f : Place → Bool) (n : Node) → label H (cut H f n) ≡ label H n
  cut_label f n = le_label H (cut H f n) n (cut_le f n)

  leaf_onto : (t : ℕ) (l : List ℕ) (s : Run) → t ≡ 0 → l ≡ H (prelabel (heads H s))
      → cut H (λ p. is_dangling (node_at (leaf t l) p)) (inner s) ≡ leaf t l
  leaf_onto zero l s e q = ap (leaf 0) (sym q)
  leaf_onto (suc t) l s e q = absurd (omega arith)

  -- and every pruning is the tree pruned at places, those where the pruning is dangling
  mutual
    pub cut_onto : (a b : Node) → Le H a b → cut H (λ p. is_dangling (node_at a p)) b ≡ a
    cut_onto (inner r) (inner s) h = ap inner (cut_in_onto r s h)
    cut_onto (inner r) (leaf u m) h = absurd h
    cut_onto (leaf t l) (inner s) h = leaf_onto t l s h.0 h.1
    cut_onto (leaf t l) (leaf u m) h = λ i. leaf (sym h.0 i) (sym h.1 i)

    pub cut_in_onto : (r s : Run) → LeIn H r s → cut_in H (λ i p. is_dangling (child_at r i p)) s ≡ r
    cut_in_onto nil nil h = refl
    cut_in_onto nil (cons m s) h = absurd h
    cut_in_onto (cons n r) nil h = absurd h
    cut_in_onto (cons n r) (cons m s) h = λ i. cons (cut_onto n m h.0 i) (cut_in_onto r s h.1 i)

  -- "An empty list returns the slip."
  mutual
    pub cut_none : (n : Node) → cut H (λ p. false) n ≡ n
    cut_none (inner r) = ap inner (cut_in_none r)
    cut_none (leaf t v) = refl

    pub cut_in_none : (r : Run) → cut_in H (λ i p. false) r ≡ r
    cut_in_none nil = refl
    cut_in_none (cons n r) = λ i. cons (cut_none n i) (cut_in_none r i)

  either_eq : (b c : Bool) (x y z : Node) → b ≡ c → (b ≡ false → y ≡ z) → cond b x y ≡ cond c x z
  either_eq true true x y z e h = refl
  either_eq true false x y z e h = absurd (true≢false e)
  either_eq false true x y z e h = absurd (false≢true e)
  either_eq false false x y z e h = h refl

  -- names count only at internal nodes that stay
  mutual
    pub cut_agree : (f g : Place → Bool) (n : Node) → ((p : Place) (m : Run) → node_at n p ≡ some (inner m) → stays f p ≡ true → f p ≡ g p)
        → cut H f n ≡ cut H g n
    cut_agree f g (inner r) h =
        either_eq (f []) (g []) (leaf 0 (H (prelabel (heads H r)))) (inner (cut_in H (λ i p. f (i ∷ p)) r)) (inner (cut_in H (λ i p. g (i ∷ p)) r))
        (h [] r refl refl)
        (λ e. ap inner (cut_in_agree (λ i p. f (i ∷ p)) (λ i p. g (i ∷ p)) r
        (λ i p m at k. h (i ∷ p) m at (and_both (not (f [])) (stays (λ q. f (i ∷ q)) p) (ap not e) k))))
    cut_agree f g (leaf t v) h = refl

    pub cut_in_agree : (f g : ℕ → Place → Bool) (r : Run)
        → ((i : ℕ) (p : Place) (m : Run) → child_at r i p ≡ some (inner m) → stays (f i) p ≡ true → f i p ≡ g i p) → cut_in H f r ≡ cut_in H g r
    cut_in_agree f g nil h = refl
    cut_in_agree f g (cons n r) h =
        λ i. cons (cut_agree (f 0) (g 0) n (λ p m at k. h 0 p m at k) i)
        (cut_in_agree (λ j p. f (suc j) p) (λ j p. g (suc j) p) r (λ j p m at k. h (suc j) p m at k) i)

  -- no place below a named one stays
  pub stays_above : (f : Place → Bool) (p : Place) (i : ℕ) (q : Place) → stays f (p ++ (i ∷ q)) ≡ true → f p ≡ false
  stays_above f [] i q e = not-true (f []) (and_left (not (f [])) (stays (λ x. f (i ∷ x)) q) e)
  stays_above f (j ∷ p) i q e = stays_above (λ x. f (j ∷ x)) p i q (and_right (not (f [])) (stays (λ x. f (j ∷ x)) (p ++ (i ∷ q))) e)

  -- "A name below another named node adds nothing."
  pub cut_below : (f : Place → Bool) (n : Node) (p : Place) (i : ℕ) (q : Place) → f p ≡ true
      → cut H f n ≡ cut H (λ x. f x || same (p ++ (i ∷ q)) x) n
  cut_below f n p i q named = cut_agree f (λ x. f x || same (p ++ (i ∷ q)) x) n (λ x m at k. go x k (f x) refl (same (p ++ (i ∷ q)) x) refl)
    where
      go : (x : Place) → stays f x ≡ true → (a : Bool) → f x ≡ a → (b : Bool) → same (p ++ (i ∷ q)) x ≡ b → a ≡ (a || b)
      go x k true d b e = refl
      go x k false d false e = refl
      go x k false d true e =
          absurd (true≢false (sym named ∙ stays_above f p i q (subst (λ (y : Place). stays f y ≡ true) (sym (same_true (p ++ (i ∷ q)) x e)) k)))

  -- a node below no named place stays at its place, pruned at the names below it
  mutual
    pub cut_stays : (f : Place → Bool) (n : Node) (p : Place) (m : Node) → node_at n p ≡ some m → stays f p ≡ true
        → node_at (cut H f n) p ≡ some (cut H (λ q. f (p ++ q)) m)
    cut_stays f (inner r) [] m e k = at_root (cut H f (inner r)) ∙ ap (λ (x : Node). some (cut H f x)) (some_inj e)
    cut_stays f (inner r) (i ∷ p) m e k =
        let off : f [] ≡ false = not-true (f []) (and_left (not (f [])) (stays (λ q. f (i ∷ q)) p) k) in
        ap (λ (b : Bool). node_at (cond b (leaf 0 (H (prelabel (heads H r)))) (inner (cut_in H (λ j q. f (j ∷ q)) r))) (i ∷ p)) off
        ∙ cut_in_stays (λ j q. f (j ∷ q)) r i p m e (and_right (not (f [])) (stays (λ q. f (i ∷ q)) p) k)
    cut_stays f (leaf t v) [] m e k = ap (λ (x : Node). some (cut H f x)) (some_inj e)
    cut_stays f (leaf t v) (i ∷ p) m e k = absurd (none_some e)

    pub cut_in_stays : (f : ℕ → Place → Bool) (r : Run) (i : ℕ) (p : Place) (m : Node) → child_at r i p ≡ some m → stays (f i) p ≡ true
        → child_at (cut_in H f r) i p ≡ some (cut H (λ q. f i (p ++ q)) m)
    cut_in_stays f nil i p m e k = absurd (none_some e)
    cut_in_stays f (cons n r) zero p m e k = cut_stays (f 0) n p m e k
    cut_in_stays f (cons n r) (suc i) p m e k = cut_in_stays (λ j q. f (suc j) q) r i p m e k

  -- "replaces each chosen subtree by its label only": a named internal node that stays becomes dangling with its label
  pub cut_named : (f : Place → Bool) (n : Node) (p : Place) (r : Run) → node_at n p ≡ some (inner r) → stays f p ≡ true → f p ≡ true
      → node_at (cut H f n) p ≡ some (leaf 0 (label H (inner r)))
  cut_named f n p r e k named =
      cut_stays f n p (inner r) e k
      ∙ ap (λ (b : Bool). some (cond b (leaf 0 (H (prelabel (heads H r)))) (inner (cut_in H (λ j q. f (p ++ (j ∷ q))) r))))
      (ap f (append-nil p) ∙ named)

  -- the name of a later child, its number counted from the first child or from the second
  shifted : (i : ℕ) (p : Place) (x : Run) → cut_in H (λ j q. eqb (suc i) (suc j) && same p q) x ≡ cut_in H (λ j q. eqb i j && same p q) x
  shifted i p x = λ k. cut_in H (λ j q. eqb-suc-suc i j k && same p q) x

  -- "Two accepted slips that are equal outside one place, and are both internal there with the same label, give equal bytes when pruned at
  -- that place alone": here equal trees
  mutual
    pub equal_but_cut : (a b : Node) (p : Place) (r s : Run) → EqualBut a b p → node_at a p ≡ some (inner r) → node_at b p ≡ some (inner s)
        → label H (inner r) ≡ label H (inner s) → cut H (same p) a ≡ cut H (same p) b
    equal_but_cut (inner x) b [] r s h e f l =
        ap (λ (n : Node). cut H (same []) n) (some_inj e)
        ∙ ap (leaf 0) l
        ∙ ap (λ (n : Node). cut H (same []) n) (some_inj (sym f ∙ at_root b))
    equal_but_cut (inner x) (inner y) (i ∷ p) r s h e f l = ap inner (equal_but_cut_in x y i p r s h e f l)
    equal_but_cut (inner x) (leaf u m) (i ∷ p) r s h e f l = absurd h
    equal_but_cut (leaf t v) b [] r s h e f l = absurd (leaf_inner (some_inj e))
    equal_but_cut (leaf t v) b (i ∷ p) r s h e f l = absurd h

    pub equal_but_cut_in : (x y : Run) (i : ℕ) (p : Place) (r s : Run) → EqualButIn x y i p → child_at x i p ≡ some (inner r)
        → child_at y i p ≡ some (inner s) → label H (inner r) ≡ label H (inner s)
        → cut_in H (λ j q. eqb i j && same p q) x ≡ cut_in H (λ j q. eqb i j && same p q) y
    equal_but_cut_in nil y i p r s h e f l = absurd h
    equal_but_cut_in (cons n x) nil i p r s h e f l = absurd h
    equal_but_cut_in (cons n x) (cons m y) zero p r s h e f l =
        λ k. cons (equal_but_cut n m p r s h.0 e f l k) (cut_in H (λ j q. eqb 0 (suc j) && same p q) (h.1 k))
    equal_but_cut_in (cons n x) (cons m y) (suc i) p r s h e f l =
        λ k. cons (cut H (λ q. eqb (suc i) 0 && same p q) (h.0 k))
        ((shifted i p x ∙ equal_but_cut_in x y i p r s h.1 e f l ∙ sym (shifted i p y)) k)
