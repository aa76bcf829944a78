-- A library over bytes does what the same library does over trees.
use Rattle.std.specs.Prelude.{ℕ, ◌≤◌, Bool, true, not, ◌&&◌, ◌≡◌, ltb, eqb, length, drop}
use Rattle.std.proofs.Math.Bool.{false, cond}
use Rattle.std.proofs.lemmas.Bool.{false≢true}
use mathlib.Core.List.{List, [], ◌∷◌, ◌++◌}
use Rattle.std.proofs.Common.{inl, inr, ◌∙◌, arith, eq-eqb, ne_eqb, eqb-true, le-ltb, take_at}
use Rattle.std.proofs.Math.Option.{Option, none, some}
use Rattle.std.proofs.Math.Path.{refl, sym, ap, subst, subst₂}
use Rattle.std.proofs.Math.ListN.{length-append}
use Rattle.lists.specs.Lists.{Below, same}
use Rattle.lists.specs.TestsLaws.{and_left, and_right, and_both, or_first, or_second, or_cases}
use Rattle.lists.specs.ListsLaws.{same_refl, same_true, none_some, some_inj}
use Rattle.trees.specs.Nodes.{Node, size, label, blocks}
use Rattle.trees.specs.Rules.{max_nodes, max_bytes, label_bytes}
use Rattle.trees.specs.Places.{Place}
use Rattle.trees.proofs.OrderLaws.{le_label}
use Rattle.trees.specs.Join.{Joint, ok, clash, join, Alike}
use Rattle.trees.proofs.JoinLaws.{join_ok}
use Rattle.trees.proofs.Demand3.{bare_well_formed}
use Rattle.trees.specs.Ends.{Reply, passed, took, misfit, shown, is_misfit, is_shown, held, settle, bare, Rooted, reply_to, reply, step, run, Got}
use Rattle.trees.specs.Ends as Ends
use Rattle.trees.specs.Rows.{tip, rows, number}
use Rattle.outcomes.specs.Refusals.{accepted, no_room, roots_differ, join_too_large}
use Rattle.codec.specs.Writing.{entry_bits, all_bits, slip_of}
use Rattle.codec.specs.MeasureLaws.{dangling_long, slip_bits_long, slip_bytes_long}
use Rattle.codec.specs.SlipLaws.{below_slip_of}
use Rattle.answers.specs.declared.Answer.{Answer}
use Rattle.answers.specs.Answers.{refused, taken, clashed}
use Rattle.slips.specs.Check.{check_of}
use Rattle.outcomes.specs.Outcome.{over, Output, still}
use Rattle.slips.specs.SlipTrees.{SlipOf, check_complete, check_unique}
use Rattle.slips.specs.SlipTree.{slip_tree}
use Rattle.slips.specs.SlipTreeLaws.{slip_tree_lem}
use Rattle.send.specs.Sent.{sent}
use Rattle.slips.specs.ByteTrees.{tree_slip, accepted_slip}
use Rattle.answers.specs.Both.{sided}
use Rattle.join_tables.specs.Joined.{too_large}
use Rattle.join.specs.JoinTheorems.{Goes, first, second, differ, clashes, large, joins, join_goes}
use Rattle.demands.specs.Library.{Arrival, start, Reached, misfits, keeps, outcome, after, kept, ever, Ours}
use Rattle.demands.specs.Library as Library

-- an accepted join's bytes are held, and no others; after a refusal the same are
keeps_written : (c w out l : List ℕ) (b : ℕ) → keeps (record { answer = taken (length w) b l; left = over w out }) c ≡ w
keeps_written c w out l b = take_at w (drop (length w) out) (length w) refl

keeps_refused : (c out : List ℕ) (q : Answer) → (q.number ≡ accepted → ⊥) → keeps (still q out) c ≡ c
keeps_refused c out q h = rw (ne_eqb q.number accepted h)

module _ (H : List ℕ → List ℕ) (composed : List ℕ → Bool) (f : ℕ → Bool) where
  -- an answer behind some arrivals is one on the way
  pub ever_there : (xs : List Arrival) (c : List ℕ) (a : Arrival) (ys : List Arrival)
      → f (outcome H composed (kept H composed c xs) a).answer.number ≡ true → ever H composed f c (xs ++ (a ∷ ys)) ≡ true
  ever_there [] c a ys e = or_first (f (outcome H composed c a).answer.number) (ever H composed f (after H composed c a) ys) e
  ever_there (x ∷ xs) c a ys e =
      or_second (f (outcome H composed c x).answer.number) (ever H composed f (after H composed c x) (xs ++ (a ∷ ys)))
      (ever_there xs (after H composed c x) a ys e)

-- a reply by its kind
shown_is : (v : Reply) → is_shown v ≡ true → (p : Place) × (v ≡ shown p)
shown_is passed e = absurd (false≢true e)
shown_is (took d) e = absurd (false≢true e)
shown_is misfit e = absurd (false≢true e)
shown_is (shown p) e = (p, refl)

never_shown : (v : Reply) (p : Place) → is_shown v ≡ false → v ≡ shown p → ⊥
never_shown v p e q = false≢true (sym e ∙ ap is_shown q)

shown_inj : {p q : Place} → shown p ≡ shown q → p ≡ q
shown_inj e = cc

module _ (H : List ℕ → List ℕ) (composed : List ℕ → Bool) (l : List ℕ) where
  -- an arrival with the root label l
  abbrev pub ours : Arrival → Bool
  ours a = eqb (check_of H composed a.slip).number accepted && same (check_of H composed a.slip).label l

  -- it reads as its tree, any other as nothing
  abbrev pub read_as : Bool → Arrival → Option Node
  read_as true a = some (slip_tree a.slip)
  read_as false a = none

  abbrev pub read : Arrival → Option Node
  read a = read_as (ours a) a

  -- a joined tree that is not too large has room
  abbrev pub fits : Arrival → Node → Bool
  fits a d = cond (too_large d) false (not (ltb (length a.buffer) (length (slip_of (rows d)))))

  pub ours_is : (a : Arrival) → ours a ≡ true → Ours H composed l a.slip
  ours_is a e =
      record {
        good = eqb-true (check_of H composed a.slip).number accepted (and_left _ (same (check_of H composed a.slip).label l) e);
        root = same_true (check_of H composed a.slip).label l (and_right (eqb (check_of H composed a.slip).number accepted) _ e);
      }

  pub is_ours : (a : Arrival) → Ours H composed l a.slip → ours a ≡ true
  is_ours a o =
      and_both (eqb (check_of H composed a.slip).number accepted) (same (check_of H composed a.slip).label l) (eq-eqb _ _ o.good)
      (ap (same (check_of H composed a.slip).label) (sym o.root) ∙ same_refl (check_of H composed a.slip).label)

  -- the tree held, beside the bytes held
  pub record Stands (c : List ℕ) (n : Node) : Type 0 where
    pub slip : SlipOf H composed c n
    pub root : label H n ≡ l

  -- what an arrival reads as
  reads_none : (a : Arrival) → (Ours H composed l a.slip → ⊥) → read a ≡ none
  reads_none a h = go (ours a) refl
    where
      go : (b : Bool) → ours a ≡ b → read_as b a ≡ none
      go true e = absurd (h (ours_is a e))
      go false e = refl

  reads_some : (a : Arrival) (b : Node) → SlipOf H composed a.slip b → label H b ≡ l → read a ≡ some b
  reads_some a b x r =
      let c = check_complete H composed a.slip b x in
      let o : Ours H composed l a.slip =
      record { good = ap (λ (z : Answer). z.number) c; root = ap (λ (z : Answer). z.label) c ∙ r } in
      ap (λ (t : Bool). read_as t a) (is_ours a o) ∙ ap some (slip_tree_lem H composed a.slip b x)

  -- what is held after an arrival a whose outcome is p, where the tree held gets the reply v; and what the answer says
  pub record StepsBy (c : List ℕ) (n : Node) (a : Arrival) (v : Reply) (p : Output Answer) : Type 0 where
    pub stands : Stands (keeps p c) (held n v)
    pub misfit_said : is_misfit v ≡ true → misfits p.answer.number ≡ true
    pub clash_said : (q : Place) → v ≡ shown q → p.answer ≡ clashed (number n q) (number (slip_tree a.slip) q)

  abbrev pub Steps : List ℕ → Node → Arrival → Type 0
  Steps c n a = StepsBy c n a (reply H read fits n a) (outcome H composed c a)

  module _ (c : List ℕ) (n : Node) (a : Arrival) (st : Stands c n) where
    -- a refusal keeps what is held
    refusing : (v : Reply) (q : Answer) → (q.number ≡ accepted → ⊥) → held n v ≡ n
        → (is_misfit v ≡ true → misfits q.number ≡ true)
        → ((p : Place) → v ≡ shown p → q ≡ clashed (number n p) (number (slip_tree a.slip) p))
        → StepsBy c n a v (still q a.buffer)
    refusing v q h k m s =
        record {
          stands = subst₂ Stands (sym (keeps_refused c a.buffer q h)) (sym k) st;
          misfit_said = m;
          clash_said = s;
        }

    -- an arrival that is none of ours is passed over
    passing : (q : Answer) → (q.number ≡ accepted → ⊥) → read a ≡ none → outcome H composed c a ≡ still q a.buffer → Steps c n a
    passing q h r e =
        subst₂ (StepsBy c n a) (sym (ap (reply_to H read fits n a) r)) (sym e)
        (refusing passed q h refl (λ f. absurd (false≢true f)) (λ p f. absurd (never_shown passed p refl f)))

    -- one of ours, whose join is j
    settling : (b : Node) → SlipOf H composed a.slip b → label H b ≡ l → (j : Joint) → join H n b ≡ j
        → reply H read fits n a ≡ settle (fits a) j
    settling b x r j e = ap (reply_to H read fits n a) (reads_some a b x r) ∙ ap (settle (fits a)) e

    not_large : (d : Node) → SlipOf H composed (slip_of (rows d)) d → too_large d ≡ false
    not_large d x = rw (le-ltb max_nodes (size d) x.few, le-ltb max_bytes (length (slip_of (rows d))) x.long) refl

    -- the join has room, or 11
    by_room : (b d : Node) → SlipOf H composed a.slip b → label H n ≡ label H b → join H n b ≡ ok d
        → SlipOf H composed (slip_of (rows d)) d → (t : Bool)
        → StepsBy c n a (cond (cond (too_large d) false (not t)) (took d) misfit)
        (cond t (still (refused no_room 0) a.buffer)
        (record { answer = taken (length (slip_of (rows d))) (blocks H d) (label H d); left = over (slip_of (rows d)) a.buffer }))
    by_room b d y alike e x true =
        rw (not_large d x) (refusing misfit (refused no_room 0) (λ f. omega (arith, f)) refl (λ f. refl) (λ p f. absurd (never_shown misfit p refl f)))
    by_room b d y alike e x false =
        let w : List ℕ = slip_of (rows d) in
        let like : Alike H n b = record { types = st.slip.well.root ∙ sym y.well.root; labels = alike } in
        rw (not_large d x)
        (record {
          stands =
              subst (λ (z : List ℕ). Stands z d) (sym (keeps_written c w a.buffer (label H d) (blocks H d)))
              (record { slip = x; root = sym (le_label H n d (join_ok H n b d like e).left) ∙ st.root });
          misfit_said = λ f. absurd (false≢true f);
          clash_said = λ p f. absurd (never_shown (took d) p refl f);
        })

    -- the tree held is that of the copy
    held_tree : (m : Node) → SlipOf H composed c m → m ≡ n
    held_tree m x = check_unique H composed c m n x st.slip

    one_step : Goes H composed c a.slip a.buffer → Steps c n a
    unfolding sent
    one_step (first bad e) = absurd (bad (ap (λ (z : Answer). z.number) (check_complete H composed c n st.slip)))
    one_step (second m x bad e) = passing (sided 2 (check_of H composed a.slip)) bad (reads_none a (λ o. bad o.good)) e
    one_step (differ m b x y apart e) =
        passing (refused roots_differ 0) (λ f. omega (arith, f))
        (reads_none a (λ o. apart (ap (label H) (held_tree m x) ∙ st.root ∙ sym o.root
        ∙ ap (λ (z : Answer). z.label) (check_complete H composed a.slip b y))))
        e
    one_step (clashes m b x y alike p j top e) =
        let k = held_tree m x in
        let r : label H b ≡ l = sym alike ∙ ap (label H) k ∙ st.root in
        let j' : join H n b ≡ clash p = subst (λ (z : Node). join H z b ≡ clash p) k j in
        subst₂ (StepsBy c n a) (sym (settling b y r (clash p) j')) (sym e)
        (refusing (shown p) (clashed (number m p) (number b p)) (λ f. omega (arith, f)) refl (λ f. absurd (false≢true f))
        (λ q f i. clashed (number (k i) (shown_inj f i)) (number (sym (slip_tree_lem H composed a.slip b y) i) (shown_inj f i))))
    one_step (large m b x y alike quiet d j too e) =
        let k = held_tree m x in
        let r : label H b ≡ l = sym alike ∙ ap (label H) k ∙ st.root in
        let j' : join H n b ≡ ok d = subst (λ (z : Node). join H z b ≡ ok d) k j in
        let v : settle (fits a) (ok d) ≡ misfit =
        ap (λ (t : Bool). cond (cond t false (not (ltb (length a.buffer) (length (slip_of (rows d)))))) (took d) misfit) too in
        subst₂ (StepsBy c n a) (sym (settling b y r (ok d) j' ∙ v)) (sym e)
        (refusing misfit (refused join_too_large 0) (λ f. omega (arith, f)) refl (λ f. refl) (λ p f. absurd (never_shown misfit p refl f)))
    one_step (joins m b x y alike quiet d j w e) =
        let k = held_tree m x in
        let r : label H b ≡ l = sym alike ∙ ap (label H) k ∙ st.root in
        let j' : join H n b ≡ ok d = subst (λ (z : Node). join H z b ≡ ok d) k j in
        subst₂ (StepsBy c n a) (sym (settling b y r (ok d) j')) (sym e)
        (by_room b d y (st.root ∙ sym r) j' w (ltb (length a.buffer) (length (slip_of (rows d)))))

    pub stepped : Steps c n a
    stepped = one_step (join_goes H composed c a.slip a.buffer (subst (Below 256) (sym st.slip.is) (below_slip_of (rows n))) a.bytes)

  -- after all arrivals the bytes held are the slip of the tree held
  pub stands_run : (xs : List Arrival) (c : List ℕ) (n : Node) → Stands c n → Stands (kept H composed c xs) (run H read fits n xs)
  stands_run [] c n st = st
  stands_run (a ∷ xs) c n st = stands_run xs (after H composed c a) (step H read fits n a) (stepped c n a st).stands

  ever_by : (f : Reply → Bool) (g : ℕ → Bool)
      → ((c : List ℕ) (n : Node) (a : Arrival) → Stands c n → f (reply H read fits n a) ≡ true → g (outcome H composed c a).answer.number ≡ true)
      → (xs : List Arrival) (c : List ℕ) (n : Node) → Stands c n → Ends.ever H read fits f n xs ≡ true → ever H composed g c xs ≡ true
  ever_by f g h [] c n st e = absurd (false≢true e)
  ever_by f g h (a ∷ xs) c n st e =
      or_cases (f (reply H read fits n a)) (Ends.ever H read fits f (step H read fits n a) xs) e
      (λ d. or_first (g (outcome H composed c a).answer.number) (ever H composed g (after H composed c a) xs) (h c n a st d))
      (λ d. or_second (g (outcome H composed c a).answer.number) (ever H composed g (after H composed c a) xs)
      (ever_by f g h xs (after H composed c a) (step H read fits n a) (stepped c n a st).stands d))

  -- a library that never answered 11 or 15 never lacked room, and one that was shown a clash has answered 14
  pub misfit_run : (xs : List Arrival) (c : List ℕ) (n : Node) → Stands c n → Ends.ever H read fits is_misfit n xs ≡ true → ever H composed misfits c xs ≡ true
  misfit_run = ever_by is_misfit misfits (λ c n a st. (stepped c n a st).misfit_said)

  pub clash_run : (xs : List Arrival) (c : List ℕ) (n : Node) → Stands c n → Ends.ever H read fits is_shown n xs ≡ true → ever H composed Library.clashes c xs ≡ true
  clash_run =
      ever_by is_shown Library.clashes
      (λ c n a st e. (let w = shown_is (reply H read fits n a) e in ap (λ (z : Answer). Library.clashes z.number) ((stepped c n a st).clash_said w.0 w.1)))

  -- an arrival that reads as a tree has the root label l, and that tree
  pub read_ours : (a : Arrival) (t : Node) → read a ≡ some t → Ours H composed l a.slip × (slip_tree a.slip ≡ t)
  read_ours a t e = go (ours a) refl e
    where
      go : (b : Bool) → ours a ≡ b → read_as b a ≡ some t → Ours H composed l a.slip × (slip_tree a.slip ≡ t)
      go false d e = absurd (none_some e)
      go true d e = (ours_is a d, some_inj e)

  -- the trees that the arrivals read as are those of the arrivals with the root label l
  pub read_roots : (a : Arrival) (t : Node) → read a ≡ some t → Rooted H l t
  read_roots a t e =
      let o = read_ours a t e in
      let x = accepted_slip H composed a.slip a.bytes o.0.good in
      subst (Rooted H l) o.1
      (record {
        root = x.well.root;
        text = ap (λ (z : Answer). z.label) (sym (check_complete H composed a.slip (slip_tree a.slip) x)) ∙ o.0.root;
      })

  pub record From (xs : List Arrival) (t : Node) : Type 0 where
    pub slip : List ℕ
    pub reached : Reached xs slip
    pub our : Ours H composed l slip
    pub tree : slip_tree slip ≡ t

  pub got_from : (xs : List Arrival) (t : Node) → Got read xs t → From xs t
  got_from [] t g = absurd g
  got_from (a ∷ xs) t (inl e) =
      let o = read_ours a t e in record { slip = a.slip; reached = inl refl; our = o.0; tree = o.1 }
  got_from (a ∷ xs) t (inr g) =
      let x = got_from xs t g in record { slip = x.slip; reached = inr x.reached; our = x.our; tree = x.tree }

  pub got_reached : (xs : List Arrival) (s : List ℕ) → Reached xs s → Ours H composed l s → Got read xs (slip_tree s)
  got_reached [] s r o = absurd r
  got_reached (a ∷ xs) s (inl e) o =
      let p : Ours H composed l a.slip = subst (Ours H composed l) (sym e) o in
      inl (ap (λ (t : Bool). read_as t a) (is_ours a p) ∙ ap (λ (z : List ℕ). some (slip_tree z)) e)
  got_reached (a ∷ xs) s (inr r) o = inr (got_reached xs s r o)

  -- the bare root is held at first
  start_long : length l ≡ label_bytes → length (start l) ≤ max_bytes
  unfolding all_bits
  start_long e =
      omega (arith, slip_bytes_long (rows (bare l)), slip_bits_long (rows (bare l)), length-append (entry_bits (tip 0 l)) [], dangling_long l e)

  pub stands_bare : length l ≡ label_bytes → Below 256 l → Stands (start l) (bare l)
  stands_bare e b =
      record { slip = tree_slip H composed (bare l) (bare_well_formed H composed l e) b (omega arith) (start_long e); root = refl }
