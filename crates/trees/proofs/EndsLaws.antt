-- The copy of an end after its arrivals: above each of them, below every common bound, unclashed there, and telling no more than they do.
use Rattle.std.specs.Prelude.{◌≡◌, refl, ◌⊎◌, Bool, true, false, cond, ℕ}
use Rattle.std.proofs.Common.{sym, ap, ◌∙◌, inl, inr}
use Rattle.std.proofs.lemmas.Bool.{false≢true}
use mathlib.Core.List.{List, [], ◌∷◌, ◌++◌, Memᴰ}
use Rattle.std.proofs.Math.Option.{Option, none, some}
use Rattle.lists.specs.TestsLaws.{or_left, or_right, or_cases}
use Rattle.trees.specs.Nodes.{Node}
use Rattle.trees.specs.Places.{Place, Fact, tells, Le}
use Rattle.trees.proofs.OrderLaws.{le_refl, le_trans, le_type, le_label}
use Rattle.trees.specs.Join.{Joint, ok, clash, join}
use Rattle.trees.specs.Ends.{Reply, took, misfit, held, settle, reply_to, is_misfit, is_shown, Rooted, reply, step, run, ever, Got, Told}
use Rattle.trees.proofs.Replies.{Means, held_up, held_upper, held_least, held_unclashed, held_exact, reply_means}

-- an arrival of the list that reads as t: so ends with the same set of arrivals got the same trees
pub got_member : {A : Type 0} (read : A → Option Node) (t : Node) (a : A) → read a ≡ some t → (xs : List A) → Memᴰ a xs → Got read xs t
got_member read t a e [] m = elim m [ ]
got_member read t a e (x ∷ xs) (Memᴰ.head q) = inl (ap read (sym q) ∙ e)
got_member read t a e (x ∷ xs) (Memᴰ.tail m) = inr (got_member read t a e xs m)

-- and back
pub member_got : {A : Type 0} (read : A → Option Node) (t : Node) (xs : List A) → Got read xs t → (a : A) × Memᴰ a xs × (read a ≡ some t)
member_got read t [] g = absurd g
member_got read t (x ∷ xs) (inl e) = (x, Memᴰ.head refl, e)
member_got read t (x ∷ xs) (inr g) = let m = member_got read t xs g in (m.0, Memᴰ.tail m.1, m.2)

module _ (H : List ℕ → List ℕ) {A : Type 0} (read : A → Option Node) (fits : A → Node → Bool) (f : Reply → Bool) where
  -- an arrival whose reply passes the test, and those before and behind it
  pub record Replied (c : Node) (xs : List A) : Type 0 where
    pub before : List A
    pub arrival : A
    pub behind : List A
    pub split : xs ≡ before ++ (arrival ∷ behind)
    pub passes : f (reply H read fits (run H read fits c before) arrival) ≡ true

  -- where one of the replies passes the test there is one
  pub ever_at : (c : Node) (xs : List A) → ever H read fits f c xs ≡ true → Replied c xs
  ever_at c [] e = absurd (false≢true e)
  ever_at c (a ∷ xs) e =
      or_cases (f (reply H read fits c a)) (ever H read fits f (step H read fits c a) xs) e
      (λ h. record { before = []; arrival = a; behind = xs; split = refl; passes = h })
      (λ h. later (ever_at (step H read fits c a) xs h))
    where
      later : Replied (step H read fits c a) xs → Replied c (a ∷ xs)
      later w =
          record {
            before = a ∷ w.before;
            arrival = w.arrival;
            behind = w.behind;
            split = ap (λ (l : List A). a ∷ l) w.split;
            passes = w.passes;
          }

module _ (H : List ℕ → List ℕ) {A : Type 0} (read : A → Option Node) (fits : A → Node → Bool) (P : Node → Type 0)
    (kept : (c : Node) (a : A) (t d : Node) → P c → read a ≡ some t → join H c t ≡ ok d → fits a d ≡ true → P d) where
  room_keeps : (c : Node) (a : A) (t d : Node) → P c → read a ≡ some t → join H c t ≡ ok d → (b : Bool) → fits a d ≡ b
      → P (held c (cond b (took d) misfit))
  room_keeps c a t d h e f true g = kept c a t d h e f g
  room_keeps c a t d h e f false g = h

  settle_keeps : (c : Node) (a : A) (t : Node) → P c → read a ≡ some t → (j : Joint) → join H c t ≡ j → P (held c (settle (fits a) j))
  settle_keeps c a t h e (ok d) f = room_keeps c a t d h e f (fits a d) refl
  settle_keeps c a t h e (clash p) f = h

  step_keeps : (c : Node) (a : A) → P c → (o : Option Node) → read a ≡ o → P (held c (reply_to H read fits c a o))
  step_keeps c a h none e = h
  step_keeps c a h (some t) e = settle_keeps c a t h e (join H c t) refl

  -- what every join that an end takes keeps, its copy keeps
  pub run_keeps : (xs : List A) (c : Node) → P c → P (run H read fits c xs)
  run_keeps [] c h = h
  run_keeps (a ∷ xs) c h = run_keeps xs (step H read fits c a) (step_keeps c a h (read a) refl)

module _ (H : List ℕ → List ℕ) {A : Type 0} (read : A → Option Node) (fits : A → Node → Bool) (l : List ℕ)
    (roots : (a : A) (t : Node) → read a ≡ some t → Rooted H l t) where
  -- the reply to an arrival, the copy after it, and what the reply means
  abbrev said : Node → A → Reply
  said c a = reply H read fits c a

  abbrev next : Node → A → Node
  next c a = step H read fits c a

  meant : (c : Node) (a : A) → Rooted H l c → Means H c (read a) (said c a)
  meant = reply_means H read fits l roots

  -- the copy keeps its root
  rooted_next : (c : Node) (a : A) → Rooted H l c → Rooted H l (next c a)
  rooted_next c a r =
      let h : Le H c (next c a) = held_up H c (read a) (said c a) (meant c a r) in
      record { root = sym (le_type H c (next c a) h) ∙ r.root; text = sym (le_label H c (next c a) h) ∙ r.text }

  -- a copy only grows
  pub run_up : (xs : List A) (c : Node) → Rooted H l c → Le H c (run H read fits c xs)
  run_up [] c r = le_refl H c
  run_up (a ∷ xs) c r =
      le_trans H c (next c a) (run H read fits (next c a) xs) (held_up H c (read a) (said c a) (meant c a r)) (run_up xs (next c a) (rooted_next c a r))

  -- and keeps its root
  pub rooted_run : (xs : List A) (c : Node) → Rooted H l c → Rooted H l (run H read fits c xs)
  rooted_run [] c r = r
  rooted_run (a ∷ xs) c r = rooted_run xs (next c a) (rooted_next c a r)

  -- with no clash and no misfit every arrival is a pruning of the copy held
  pub run_upper : (xs : List A) (c : Node) → Rooted H l c → ever H read fits is_shown c xs ≡ false → ever H read fits is_misfit c xs ≡ false
      → (t : Node) → Got read xs t → Le H t (run H read fits c xs)
  run_upper [] c r e f t g = absurd g
  run_upper (a ∷ xs) c r e f t (inl q) =
      le_trans H t (next c a) (run H read fits (next c a) xs)
      (held_upper H c (read a) (said c a) (meant c a r) (or_left (is_shown (said c a)) (ever H read fits is_shown (next c a) xs) e)
      (or_left (is_misfit (said c a)) (ever H read fits is_misfit (next c a) xs) f) t q)
      (run_up xs (next c a) (rooted_next c a r))
  run_upper (a ∷ xs) c r e f t (inr g) =
      run_upper xs (next c a) (rooted_next c a r) (or_right (is_shown (said c a)) (ever H read fits is_shown (next c a) xs) e)
      (or_right (is_misfit (said c a)) (ever H read fits is_misfit (next c a) xs) f) t g

  -- the copy held is a pruning of every tree of which the first copy and all arrivals are prunings
  pub run_least : (xs : List A) (c : Node) → Rooted H l c → (u : Node) → Le H c u → ((t : Node) → Got read xs t → Le H t u)
      → Le H (run H read fits c xs) u
  run_least [] c r u h k = h
  run_least (a ∷ xs) c r u h k =
      run_least xs (next c a) (rooted_next c a r) u (held_least H c (read a) (said c a) (meant c a r) u h (λ t q. k t (inl q))) (λ t g. k t (inr g))

  -- below one tree nothing clashes
  pub run_unclashed : (xs : List A) (c : Node) → Rooted H l c → (u : Node) → Le H c u → ((t : Node) → Got read xs t → Le H t u)
      → ever H read fits is_shown c xs ≡ false
  run_unclashed [] c r u h k = refl
  run_unclashed (a ∷ xs) c r u h k =
      rw (held_unclashed H c (read a) (said c a) (meant c a r) u h (λ t q. k t (inl q)))
      (run_unclashed xs (next c a) (rooted_next c a r) u (held_least H c (read a) (said c a) (meant c a r) u h (λ t q. k t (inl q))) (λ t g. k t (inr g)))

  -- what the copy after an arrival tells, trees of G told, where they told the copy before and the arrival is one of them
  told_next : (G : Node → Type 0) (c : Node) (a : A) → Rooted H l c → ((p : Place) (x : Fact) → tells H c p ≡ some x → Told H G p x)
      → ((t : Node) → read a ≡ some t → G t) → (p : Place) (x : Fact) → tells H (next c a) p ≡ some x → Told H G p x
  told_next G c a r h k p x e = go (held_exact H c (read a) (said c a) (meant c a r) p x e)
    where
      go : (tells H c p ≡ some x) ⊎ Told H (λ t. read a ≡ some t) p x → Told H G p x
      go (inl q) = h p x q
      go (inr q) = (q.0, k q.0 q.1, q.2)

  -- what the copy held discloses was disclosed at that place by an arrival: G is any set of trees that told all of the first copy and has the arrivals
  pub run_exact : (G : Node → Type 0) (xs : List A) (c : Node) → Rooted H l c → ((p : Place) (x : Fact) → tells H c p ≡ some x → Told H G p x)
      → ((t : Node) → Got read xs t → G t) → (p : Place) (x : Fact) → tells H (run H read fits c xs) p ≡ some x → Told H G p x
  run_exact G [] c r h k = h
  run_exact G (a ∷ xs) c r h k = run_exact G xs (next c a) (rooted_next c a r) (told_next G c a r h (λ t q. k t (inl q))) (λ t g. k t (inr g))
