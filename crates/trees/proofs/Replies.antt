-- What each reply of an end means for the copy that it then holds.
use Rattle.std.specs.Prelude.{◌≡◌, refl, ◌⊎◌, Bool, true, false, cond, List, ℕ}
use Rattle.std.proofs.Common.{sym, ◌∙◌, subst, inl, inr, true≢false}
use Rattle.std.proofs.Math.Option.{Option, none, some}
use Rattle.lists.specs.ListsLaws.{none_some, some_inj}
use Rattle.trees.specs.Nodes.{Node}
use Rattle.trees.specs.Places.{Place, Fact, tells, Le}
use Rattle.trees.proofs.OrderLaws.{le_refl}
use Rattle.trees.specs.Join.{Joint, ok, clash, join, Joined, Collision}
use Rattle.trees.proofs.JoinLaws.{Good, join_good, no_collision}
use Rattle.trees.specs.Ends.{Reply, passed, took, misfit, shown, is_misfit, is_shown, held, settle, Rooted, reply_to, reply, Told}

module _ (H : List ℕ → List ℕ) where
  -- what each reply says of the copy c and of the tree o of the arrival
  abbrev pub Means : Node → Option Node → Reply → Type 0
  Means c o passed = o ≡ none
  Means c o (took d) = (t : Node) × (o ≡ some t) × Joined H c t d
  Means c o misfit = (t : Node) × (o ≡ some t) × ((d : Node) × Joined H c t d)
  Means c o (shown p) = (t : Node) × (o ≡ some t) × Collision H (tells H c p) (tells H t p)

  room_means : (c t d : Node) → Joined H c t d → (b : Bool) → Means c (some t) (cond b (took d) misfit)
  room_means c t d j true = (t, refl, j)
  room_means c t d j false = (t, refl, (d, j))

  settle_means : (c t : Node) (roomy : Node → Bool) (j : Joint) → Good H c t j → Means c (some t) (settle roomy j)
  settle_means c t roomy (ok d) g = room_means c t d g (roomy d)
  settle_means c t roomy (clash p) g = (t, refl, g.1)

  -- an arrival that neither clashes nor lacks room is a pruning of the copy
  pub held_upper : (c : Node) (o : Option Node) (v : Reply) → Means c o v → is_shown v ≡ false → is_misfit v ≡ false
      → (t : Node) → o ≡ some t → Le H t (held c v)
  held_upper c o passed m e f t q = absurd (none_some (sym m ∙ q))
  held_upper c o (took d) m e f t q = subst (λ (z : Node). Le H z d) (some_inj (sym m.1 ∙ q)) m.2.right
  held_upper c o misfit m e f t q = absurd (true≢false f)
  held_upper c o (shown p) m e f t q = absurd (true≢false e)

  -- the copy only grows
  pub held_up : (c : Node) (o : Option Node) (v : Reply) → Means c o v → Le H c (held c v)
  held_up c o passed m = le_refl H c
  held_up c o (took d) m = m.2.left
  held_up c o misfit m = le_refl H c
  held_up c o (shown p) m = le_refl H c

  -- the copy is a pruning of whatever the copy before and the arrival are prunings of
  pub held_least : (c : Node) (o : Option Node) (v : Reply) → Means c o v → (u : Node) → Le H c u → ((t : Node) → o ≡ some t → Le H t u)
      → Le H (held c v) u
  held_least c o passed m u h k = h
  held_least c o (took d) m u h k = m.2.least u h (k m.0 m.1)
  held_least c o misfit m u h k = h
  held_least c o (shown p) m u h k = h

  -- and where there is such a tree there is no clash
  pub held_unclashed : (c : Node) (o : Option Node) (v : Reply) → Means c o v → (u : Node) → Le H c u
      → ((t : Node) → o ≡ some t → Le H t u) → is_shown v ≡ false
  held_unclashed c o passed m u h k = refl
  held_unclashed c o (took d) m u h k = refl
  held_unclashed c o misfit m u h k = refl
  held_unclashed c o (shown p) m u h k = absurd (no_collision H c m.0 u p h (k m.0 m.1) m.2)

  -- what the copy discloses, the copy before or the arrival did
  pub held_exact : (c : Node) (o : Option Node) (v : Reply) → Means c o v → (p : Place) (x : Fact) → tells H (held c v) p ≡ some x
      → (tells H c p ≡ some x) ⊎ Told H (λ t. o ≡ some t) p x
  held_exact c o passed m p x e = inl e
  held_exact c o (took d) m p x e = go (m.2.exact p x e)
    where
      go : (tells H c p ≡ some x) ⊎ (tells H m.0 p ≡ some x) → (tells H c p ≡ some x) ⊎ Told H (λ t. o ≡ some t) p x
      go (inl f) = inl f
      go (inr f) = inr (m.0, m.1, f)
  held_exact c o misfit m p x e = inl e
  held_exact c o (shown q) m p x e = inl e

module _ (H : List ℕ → List ℕ) {A : Type 0} (read : A → Option Node) (fits : A → Node → Bool) (l : List ℕ)
    (roots : (a : A) (t : Node) → read a ≡ some t → Rooted H l t) where
  reply_to_means : (c : Node) (a : A) → Rooted H l c → (o : Option Node) → read a ≡ o → Means H c o (reply_to H read fits c a o)
  reply_to_means c a r none e = refl
  reply_to_means c a r (some t) e =
      let s : Rooted H l t = roots a t e in
      settle_means H c t (fits a) (join H c t) (join_good H c t (record { types = r.root ∙ sym s.root; labels = r.text ∙ sym s.text }))

  -- every reply of an end means what it says
  pub reply_means : (c : Node) (a : A) → Rooted H l c → Means H c (read a) (reply H read fits c a)
  reply_means c a r = reply_to_means c a r (read a) refl
