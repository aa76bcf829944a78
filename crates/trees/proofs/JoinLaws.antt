-- The join of two trees with one root label is the smallest tree of which both are prunings, or exhibits two prelabels with one hash.
use Rattle.std.specs.Prelude.{◌≡◌, refl, ◌⊎◌, Bool, true, false, cond, List, [], ◌∷◌, ℕ, zero, suc}
use Rattle.std.proofs.Common.{sym, ap, ◌∙◌, subst, inl, inr}
use Rattle.std.proofs.Math.Option.{some}
use Rattle.lists.specs.Lists.{same}
use Rattle.lists.specs.ListsLaws.{same_true, same_false, cons_head, cons_tail, nil_cons}
use Rattle.trees.specs.Nodes.{Node, Run, inner, leaf, nil, cons, Head, prelabel, label, heads}
use Rattle.trees.proofs.NodesLaws.{prelabel_inj}
use Rattle.trees.specs.Places.{Place, Fact, opened, tells, tells_in, Le, LeIn, Shared, SharedIn}
use Rattle.trees.specs.PlacesLaws.{opened_inj}
use Rattle.trees.proofs.OrderLaws.{le_in_refl, le_heads, le_label, le_type, le_tells}
use Rattle.trees.specs.Join.{Joint, ok, clash, JointRun, ok_run, clash_at, wrap, both, join, join_run, Alike, Collision, Joined, JoinedRun}

module _ (H : List ℕ → List ℕ) where
  -- the first children of two runs with the same heads are alike
  pub first_alike : (n m : Node) (r s : Run) → heads H (cons n r) ≡ heads H (cons m s) → Alike H n m
  first_alike n m r s e = record { types = ap (λ (x : Head). x.kind) (cons_head e); labels = ap (λ (x : Head). x.text) (cons_head e) }

  -- what a join answers: the joined tree, or a shared place with two different prelabels of one hash
  abbrev pub Good : Node → Node → Joint → Type 0
  Good a b (ok c) = Joined H a b c
  Good a b (clash p) = Shared H a b p × Collision H (tells H a p) (tells H b p)

  -- the same of two runs
  abbrev pub GoodRun : Run → Run → JointRun → Type 0
  GoodRun r s (ok_run t) = JoinedRun H r s t
  GoodRun r s (clash_at i p) = SharedIn H r s i p × Collision H (tells_in H r i p) (tells_in H s i p)

  wrap_least : (r s t : Run) → JoinedRun H r s t → (u : Node) → Le H (inner r) u → Le H (inner s) u → Le H (inner t) u
  wrap_least r s t g (inner u) h k = g.least u h k
  wrap_least r s t g (leaf v m) h k = absurd h

  wrap_exact : (r s t : Run) → JoinedRun H r s t → (p : Place) (x : Fact) → tells H (inner t) p ≡ some x
      → (tells H (inner r) p ≡ some x) ⊎ (tells H (inner s) p ≡ some x)
  wrap_exact r s t g [] x e = inl (ap (λ (hs : List Head). some (opened (prelabel hs))) (le_heads H r t g.left) ∙ e)
  wrap_exact r s t g (i ∷ p) x e = g.exact i p x e

  wrap_good : (r s : Run) (k : JointRun) → prelabel (heads H r) ≡ prelabel (heads H s) → GoodRun r s k → Good (inner r) (inner s) (wrap k)
  wrap_good r s (ok_run t) e g = record { left = g.left; right = g.right; least = wrap_least r s t g; exact = wrap_exact r s t g }
  wrap_good r s (clash_at i p) e g = ((e, g.0), g.1)

  cons_least : (n m c : Node) (r s t : Run) → Joined H n m c → JoinedRun H r s t
      → (u : Run) → LeIn H (cons n r) u → LeIn H (cons m s) u → LeIn H (cons c t) u
  cons_least n m c r s t f g nil h k = absurd h
  cons_least n m c r s t f g (cons v u) h k = (f.least v h.0 k.0, g.least u h.1 k.1)

  cons_exact : (n m c : Node) (r s t : Run) → Joined H n m c → JoinedRun H r s t
      → (i : ℕ) (p : Place) (x : Fact) → tells_in H (cons c t) i p ≡ some x → (tells_in H (cons n r) i p ≡ some x) ⊎ (tells_in H (cons m s) i p ≡ some x)
  cons_exact n m c r s t f g zero p x e = f.exact p x e
  cons_exact n m c r s t f g (suc i) p x e = g.exact i p x e

  both_good : (n m : Node) (r s : Run) (j : Joint) (k : JointRun) → Good n m j → GoodRun r s k → GoodRun (cons n r) (cons m s) (both j k)
  both_good n m r s (ok c) (ok_run t) f g =
      record { left = (f.left, g.left); right = (f.right, g.right); least = cons_least n m c r s t f g; exact = cons_exact n m c r s t f g }
  both_good n m r s (ok c) (clash_at i p) f g = g
  both_good n m r s (clash p) k f g = f

  -- two internal nodes with one label and different prelabels
  pub root_collision : (r s : Run) → same (prelabel (heads H r)) (prelabel (heads H s)) ≡ false → label H (inner r) ≡ label H (inner s)
      → Collision H (tells H (inner r) []) (tells H (inner s) [])
  root_collision r s e l =
      record {
        texts = record {
          one = prelabel (heads H r);
          two = prelabel (heads H s);
          here = refl;
          there = refl;
          differ = same_false (prelabel (heads H r)) (prelabel (heads H s)) e;
        };
        hash = l;
      }

  -- the prelabels of two internal nodes with one label are equal, or a collision
  gate_good : (r s : Run) (b : Bool) → same (prelabel (heads H r)) (prelabel (heads H s)) ≡ b → label H (inner r) ≡ label H (inner s)
      → (heads H r ≡ heads H s → GoodRun r s (join_run H r s)) → Good (inner r) (inner s) (cond b (wrap (join_run H r s)) (clash []))
  gate_good r s true e l g =
      let q : prelabel (heads H r) ≡ prelabel (heads H s) = same_true (prelabel (heads H r)) (prelabel (heads H s)) e in
      wrap_good r s (join_run H r s) q (g (prelabel_inj (heads H r) (heads H s) q))
  gate_good r s false e l g = (tt, root_collision r s e l)

  -- the join of two trees alike is the smallest above both and discloses exactly what one of them does, or it exhibits a collision
  mutual
    pub join_good : (a b : Node) → Alike H a b → Good a b (join H a b)
    join_good (inner r) (inner s) h =
        gate_good r s (same (prelabel (heads H r)) (prelabel (heads H s))) refl h.labels (λ e. join_run_good r s e)
    join_good (inner r) (leaf u m) h =
        record { left = le_in_refl H r; right = (sym h.types, sym h.labels); least = λ v f g. f; exact = λ p x e. inl e }
    join_good (leaf t l) (inner s) h =
        record { left = (h.types, h.labels); right = le_in_refl H s; least = λ v f g. g; exact = λ p x e. inr e }
    join_good (leaf t l) (leaf u m) h =
        record { left = (refl, refl); right = (sym h.types, sym h.labels); least = λ v f g. f; exact = λ p x e. inl e }

    pub join_run_good : (r s : Run) → heads H r ≡ heads H s → GoodRun r s (join_run H r s)
    join_run_good nil nil e = record { left = tt; right = tt; least = λ u f g. f; exact = λ i p x q. inl q }
    join_run_good nil (cons m s) e = absurd (nil_cons e)
    join_run_good (cons n r) nil e = absurd (nil_cons (sym e))
    join_run_good (cons n r) (cons m s) e =
        both_good n m r s (join H n m) (join_run H r s)
        (join_good n m (first_alike n m r s e))
        (join_run_good r s (cons_tail e))

  -- the same, where the answer is known: the joined tree
  pub join_ok : (a b c : Node) → Alike H a b → join H a b ≡ ok c → Joined H a b c
  join_ok a b c h e = subst (Good a b) e (join_good a b h)

  -- or the clash
  pub join_clash : (a b : Node) (p : Place) → Alike H a b → join H a b ≡ clash p → Shared H a b p × Collision H (tells H a p) (tells H b p)
  join_clash a b p h e = subst (Good a b) e (join_good a b h)

  -- prunings of one tree are alike
  pub below_alike : (a b u : Node) → Le H a u → Le H b u → Alike H a b
  below_alike a b u h k =
      record { types = le_type H a u h ∙ sym (le_type H b u k); labels = le_label H a u h ∙ sym (le_label H b u k) }

  -- two prunings of one tree disclose no two texts at one place
  pub no_collision : (a b u : Node) (p : Place) → Le H a u → Le H b u → Collision H (tells H a p) (tells H b p) → ⊥
  no_collision a b u p h k c =
      c.texts.differ
      (opened_inj (sym (le_tells H a u p (opened c.texts.one) h c.texts.here) ∙ le_tells H b u p (opened c.texts.two) k c.texts.there))

  -- below one tree nothing clashes
  pub join_below : (a b u : Node) → Le H a u → Le H b u → (c : Node) × (join H a b ≡ ok c)
  join_below a b u h k = go (join H a b) refl
    where
      go : (j : Joint) → join H a b ≡ j → (c : Node) × (join H a b ≡ ok c)
      go (ok c) e = (c, e)
      go (clash p) e = absurd (no_collision a b u p h k (join_clash a b p (below_alike a b u h k) e).1)
