-- "Is a pruning of" is a partial order that keeps labels and places, and is exactly "discloses no more at each place".
use Rattle.std.specs.Prelude.{◌≡◌, refl, ◌↔◌, List, [], ◌∷◌, ℕ, zero, suc}
use Rattle.std.proofs.Common.{sym, ap, ◌∙◌, subst, subst₂}
use Rattle.std.proofs.Math.Option.{some}
use Rattle.lists.specs.ListsLaws.{none_some, some_inj, cons_head, cons_tail, nil_cons}
use Rattle.trees.specs.Nodes.{Node, Run, inner, leaf, nil, cons, type_of, Head, prelabel, label, heads}
use Rattle.trees.proofs.NodesLaws.{prelabel_inj}
use Rattle.trees.specs.Places.{Place, node_at, child_at, Fact, opened, leaf_tells, tells, tells_in, Le, LeIn}
use Rattle.trees.specs.PlacesLaws.{opened_inj, leaf_shut}

module _ (H : List ℕ → List ℕ) where
  -- a pruning has the root's type
  pub le_type : (a b : Node) → Le H a b → type_of a ≡ type_of b
  le_type (inner r) (inner s) h = refl
  le_type (inner r) (leaf u m) h = absurd h
  le_type (leaf t l) (inner s) h = h.0
  le_type (leaf t l) (leaf u m) h = h.0

  -- "A pruned derivative of a typed hash tree X has the same root label as X" (000, Fact 2): "Pruning keeps the root label".
  mutual
    pub le_label : (a b : Node) → Le H a b → label H a ≡ label H b
    le_label (inner r) (inner s) h = ap (λ (hs : List Head). H (prelabel hs)) (le_heads r s h)
    le_label (inner r) (leaf u m) h = absurd h
    le_label (leaf t l) (inner s) h = h.1
    le_label (leaf t l) (leaf u m) h = h.1

    pub le_heads : (r s : Run) → LeIn H r s → heads H r ≡ heads H s
    le_heads nil nil h = refl
    le_heads nil (cons m s) h = absurd h
    le_heads (cons n r) nil h = absurd h
    le_heads (cons n r) (cons m s) h =
        λ i. record { kind = le_type n m h.0 i; text = le_label n m h.0 i } ∷ le_heads r s h.1 i

  -- "X is a pruned derivative of itself" (000, 5.2.3)
  mutual
    pub le_refl : (a : Node) → Le H a a
    le_refl (inner r) = le_in_refl r
    le_refl (leaf t l) = (refl, refl)

    pub le_in_refl : (r : Run) → LeIn H r r
    le_in_refl nil = tt
    le_in_refl (cons n r) = (le_refl n, le_in_refl r)

  -- a pruning of a pruning is a pruning
  mutual
    pub le_trans : (a b c : Node) → Le H a b → Le H b c → Le H a c
    le_trans (inner r) (inner s) (inner u) h k = le_in_trans r s u h k
    le_trans (inner r) (inner s) (leaf u m) h k = absurd k
    le_trans (inner r) (leaf u m) c h k = absurd h
    le_trans (leaf t l) (inner s) (inner u) h k = (h.0, h.1 ∙ le_label (inner s) (inner u) k)
    le_trans (leaf t l) (inner s) (leaf u m) h k = absurd k
    le_trans (leaf t l) (leaf u m) (inner s) h k = (h.0 ∙ k.0, h.1 ∙ k.1)
    le_trans (leaf t l) (leaf u m) (leaf v w) h k = (h.0 ∙ k.0, h.1 ∙ k.1)

    pub le_in_trans : (r s u : Run) → LeIn H r s → LeIn H s u → LeIn H r u
    le_in_trans nil nil u h k = k
    le_in_trans nil (cons m s) u h k = absurd h
    le_in_trans (cons n r) nil u h k = absurd h
    le_in_trans (cons n r) (cons m s) nil h k = absurd k
    le_in_trans (cons n r) (cons m s) (cons o u) h k = (le_trans n m o h.0 k.0, le_in_trans r s u h.1 k.1)

  -- two trees that are prunings of each other are equal
  mutual
    pub le_antisym : (a b : Node) → Le H a b → Le H b a → a ≡ b
    le_antisym (inner r) (inner s) h k = ap inner (le_in_antisym r s h k)
    le_antisym (inner r) (leaf u m) h k = absurd h
    le_antisym (leaf t l) (inner s) h k = absurd k
    le_antisym (leaf t l) (leaf u m) h k = λ i. leaf (h.0 i) (h.1 i)

    pub le_in_antisym : (r s : Run) → LeIn H r s → LeIn H s r → r ≡ s
    le_in_antisym nil nil h k = refl
    le_in_antisym nil (cons m s) h k = absurd h
    le_in_antisym (cons n r) nil h k = absurd h
    le_in_antisym (cons n r) (cons m s) h k = λ i. cons (le_antisym n m h.0 k.0 i) (le_in_antisym r s h.1 k.1 i)

  -- "pruning never alters the place of a node that stays": what stands at a place of the pruning is a pruning of what stands there
  mutual
    pub le_at : (a b : Node) (p : Place) (x : Node) → Le H a b → node_at a p ≡ some x → (y : Node) × (node_at b p ≡ some y) × Le H x y
    le_at (inner r) (inner s) [] x h e = (inner s, refl, subst (λ (z : Node). Le H z (inner s)) (some_inj e) h)
    le_at (inner r) (inner s) (i ∷ p) x h e = le_at_in r s i p x h e
    le_at (inner r) (leaf u m) p x h e = absurd h
    le_at (leaf t l) (inner s) [] x h e = (inner s, refl, subst (λ (z : Node). Le H z (inner s)) (some_inj e) h)
    le_at (leaf t l) (leaf u m) [] x h e = (leaf u m, refl, subst (λ (z : Node). Le H z (leaf u m)) (some_inj e) h)
    le_at (leaf t l) b (i ∷ p) x h e = absurd (none_some e)

    pub le_at_in : (r s : Run) (i : ℕ) (p : Place) (x : Node) → LeIn H r s → child_at r i p ≡ some x
        → (y : Node) × (child_at s i p ≡ some y) × Le H x y
    le_at_in nil s i p x h e = absurd (none_some e)
    le_at_in (cons n r) nil i p x h e = absurd h
    le_at_in (cons n r) (cons m s) zero p x h e = le_at n m p x h.0 e
    le_at_in (cons n r) (cons m s) (suc i) p x h e = le_at_in r s i p x h.1 e

  -- a pruning discloses no more at each place
  mutual
    pub le_tells : (a b : Node) (p : Place) (x : Fact) → Le H a b → tells H a p ≡ some x → tells H b p ≡ some x
    le_tells (inner r) (inner s) [] x h e = ap (λ (hs : List Head). some (opened (prelabel hs))) (sym (le_heads r s h)) ∙ e
    le_tells (inner r) (inner s) (i ∷ p) x h e = le_tells_in r s i p x h e
    le_tells (inner r) (leaf u m) p x h e = absurd h
    le_tells (leaf t l) (inner s) [] x h e = absurd (none_some (subst (λ (z : ℕ). leaf_tells z l ≡ some x) h.0 e))
    le_tells (leaf t l) (leaf u m) [] x h e = subst₂ (λ (z : ℕ) (w : List ℕ). leaf_tells z w ≡ some x) h.0 h.1 e
    le_tells (leaf t l) b (i ∷ p) x h e = absurd (none_some e)

    pub le_tells_in : (r s : Run) (i : ℕ) (p : Place) (x : Fact) → LeIn H r s → tells_in H r i p ≡ some x → tells_in H s i p ≡ some x
    le_tells_in nil s i p x h e = absurd (none_some e)
    le_tells_in (cons n r) nil i p x h e = absurd h
    le_tells_in (cons n r) (cons m s) zero p x h e = le_tells n m p x h.0 e
    le_tells_in (cons n r) (cons m s) (suc i) p x h e = le_tells_in r s i p x h.1 e

  -- and a tree of the same type and root label that discloses no less at each place has it as a pruning
  mutual
    pub tells_le : (a b : Node) → type_of a ≡ type_of b → label H a ≡ label H b
        → ((p : Place) (x : Fact) → tells H a p ≡ some x → tells H b p ≡ some x) → Le H a b
    tells_le (inner r) (inner s) t l h =
        tells_le_in r s (prelabel_inj (heads H r) (heads H s) (sym (opened_inj (h [] (opened (prelabel (heads H r))) refl)))) (λ i p x. h (i ∷ p) x)
    tells_le (inner r) (leaf u m) t l h = absurd (leaf_shut u m (prelabel (heads H r)) (h [] (opened (prelabel (heads H r))) refl))
    tells_le (leaf t l) (inner s) u e h = (u, e)
    tells_le (leaf t l) (leaf u m) e f h = (e, f)

    pub tells_le_in : (r s : Run) → heads H r ≡ heads H s
        → ((i : ℕ) (p : Place) (x : Fact) → tells_in H r i p ≡ some x → tells_in H s i p ≡ some x) → LeIn H r s
    tells_le_in nil nil e h = tt
    tells_le_in nil (cons m s) e h = absurd (nil_cons e)
    tells_le_in (cons n r) nil e h = absurd (nil_cons (sym e))
    tells_le_in (cons n r) (cons m s) e h = (
      tells_le n m (ap (λ (x : Head). x.kind) (cons_head e)) (ap (λ (x : Head). x.text) (cons_head e)) (λ p x. h 0 p x),
      tells_le_in r s (cons_tail e) (λ i p x. h (suc i) p x),
    )

  -- a discloses no more than b at each place
  abbrev pub NoMore : Node → Node → Type 0
  NoMore a b = (p : Place) (x : Fact) → tells H a p ≡ some x → tells H b p ≡ some x

  -- for trees with one root label, "is a pruning of" is exactly that
  pub le_exactly : (a b : Node) → type_of a ≡ type_of b → label H a ≡ label H b → Le H a b ↔ NoMore a b
  le_exactly a b t l = (λ h p x. le_tells a b p x h, tells_le a b t l)
