-- Demand 3 over trees, and the last clause of document 01 on lost slips.
use Rattle.std.specs.Prelude.{◌≡◌, refl, ◌⊎◌, Bool, true, false, List, [], ◌∷◌, ℕ, length}
use Rattle.std.proofs.Common.{sym, ◌∙◌, inl, inr, true≢false, arith}
use Rattle.std.proofs.lemmas.Bool.{false≢true}
use Rattle.std.proofs.Math.Option.{Option, some}
use Rattle.lists.specs.ListsLaws.{none_some}
use Rattle.trees.specs.Nodes.{Node, label}
use Rattle.trees.specs.Rules.{label_bytes, WellFormed}
use Rattle.trees.specs.Places.{Place, Fact, opened, tells, Le}
use Rattle.trees.proofs.OrderLaws.{le_label, le_antisym, le_tells}
use Rattle.trees.specs.Join.{Alike, Differ}
use Rattle.trees.proofs.JoinLaws.{join_ok}
use Rattle.trees.proofs.RulesLaws.{dangling_rules, join_well_formed}
use Rattle.trees.specs.Ends.{Reply, passed, took, misfit, shown, is_shown, bare, Rooted, reply, Got, Told, copy, answered14, did_not_fit, Exactly, WasShown, Agree}
use Rattle.trees.proofs.Replies.{Means, reply_means}
use Rattle.trees.proofs.EndsLaws.{Replied, ever_at, run_keeps, run_up, rooted_run, run_upper, run_least, run_unclashed, run_exact}

-- "with nothing disclosed"
pub bare_tells : (H : List ℕ → List ℕ) (l : List ℕ) (p : Place) (x : Fact) → tells H (bare l) p ≡ some x → ⊥
bare_tells H l [] x e = none_some e
bare_tells H l (i ∷ p) x e = none_some e

-- "The label of a dangling root is the label it carries": with 32 bytes the bare root is well-formed
pub bare_well_formed : (H : List ℕ → List ℕ) (composed : List ℕ → Bool) (l : List ℕ) → length l ≡ label_bytes → WellFormed H composed (bare l)
bare_well_formed H composed l e =
    record { root = refl; fit = record { low = omega arith; rules = dangling_rules composed l e } }

module _ (H : List ℕ → List ℕ) {A : Type 0} (read : A → Option Node) (fits : A → Node → Bool) (l : List ℕ)
    (roots : (a : A) (t : Node) → read a ≡ some t → Rooted H l t) where
  rooted_bare : Rooted H l (bare l)
  rooted_bare = record { root = refl; text = refl }

  -- an end that answered none of 11, 14 and 15 has every arrival as a pruning of its copy
  upper : (xs : List A) → answered14 H read fits l xs ≡ false → did_not_fit H read fits l xs ≡ false
      → (t : Node) → Got read xs t → Le H t (copy H read fits l xs)
  upper xs = run_upper H read fits l roots xs (bare l) rooted_bare

  -- and discloses "exactly what some slip with that root discloses at each place"
  pub copy_exact : (xs : List A) → answered14 H read fits l xs ≡ false → did_not_fit H read fits l xs ≡ false
      → Exactly H (Got read xs) (copy H read fits l xs)
  copy_exact xs e f =
      record {
        known = run_exact H read fits l roots (Got read xs) xs (bare l) rooted_bare (λ p x q. absurd (bare_tells H l p x q)) (λ t g. g);
        kept = λ p x m. le_tells H m.0 (copy H read fits l xs) p x (upper xs e f m.0 m.1) m.2;
      }

  -- an end that answered 14 "has been shown two different texts with one hash"
  pub copy_shown : (xs : List A) → answered14 H read fits l xs ≡ true → WasShown H read fits l xs
  copy_shown xs e = go (ever_at H read fits is_shown (bare l) xs e)
    where
      told : (ys : List A) (p : Place) (x : Fact) → tells H (copy H read fits l ys) p ≡ some x → Told H (Got read ys) p x
      told ys = run_exact H read fits l roots (Got read ys) ys (bare l) rooted_bare (λ p x q. absurd (bare_tells H l p x q)) (λ t g. g)

      by_reply : (w : Replied H read fits is_shown (bare l) xs) (v : Reply) → reply H read fits (copy H read fits l w.before) w.arrival ≡ v
          → is_shown v ≡ true → Means H (copy H read fits l w.before) (read w.arrival) v → WasShown H read fits l xs
      by_reply w passed d s m = absurd (false≢true s)
      by_reply w (took c) d s m = absurd (false≢true s)
      by_reply w misfit d s m = absurd (false≢true s)
      by_reply w (shown p) d s m =
          let c : Differ (tells H (copy H read fits l w.before) p) (tells H m.0 p) = m.2.texts in
          let k : Told H (Got read w.before) p (opened c.one) = told w.before p (opened c.one) c.here in
          record {
            before = w.before;
            arrival = w.arrival;
            behind = w.behind;
            split = w.split;
            place = p;
            answered = d;
            first = k.0;
            second = m.0;
            got_first = k.1;
            got_second = m.1;
            held = c.here ∙ sym k.2;
            collision = record {
              texts = record { one = c.one; two = c.two; here = k.2; there = c.there; differ = c.differ };
              hash = m.2.hash;
            };
          }

      go : Replied H read fits is_shown (bare l) xs → WasShown H read fits l xs
      go w =
          by_reply w (reply H read fits (copy H read fits l w.before) w.arrival) refl w.passes
          (reply_means H read fits l roots (copy H read fits l w.before) w.arrival (rooted_run H read fits l roots w.before (bare l) rooted_bare))

  -- "Where slips are lost and an end has answered none of 11, 14 and 15, its copy is a pruning of the copy of an end that got all of them and
  -- answered none of these": here whatever the first end answered
  pub lost : (xs ys : List A) → ((t : Node) → Got read xs t → Got read ys t) → answered14 H read fits l ys ≡ false
      → did_not_fit H read fits l ys ≡ false → Le H (copy H read fits l xs) (copy H read fits l ys)
  lost xs ys sub e f =
      run_least H read fits l roots xs (bare l) rooted_bare (copy H read fits l ys) (run_up H read fits l roots ys (bare l) rooted_bare)
      (λ t g. upper ys e f t (sub t g))

  -- and the first end never answers 14
  pub lost_quiet : (xs ys : List A) → ((t : Node) → Got read xs t → Got read ys t) → answered14 H read fits l ys ≡ false
      → did_not_fit H read fits l ys ≡ false → answered14 H read fits l xs ≡ false
  lost_quiet xs ys sub e f =
      run_unclashed H read fits l roots xs (bare l) rooted_bare (copy H read fits l ys) (run_up H read fits l roots ys (bare l) rooted_bare)
      (λ t g. upper ys e f t (sub t g))

  -- "The same set of well-formed slips with that root reaches each at least once .. If neither answers that a slip doesn't fit, then either
  -- both hold the same .., or each has been shown two different texts with one hash."
  pub demand_3 : (xs ys : List A) → ((t : Node) → Got read xs t → Got read ys t) → ((t : Node) → Got read ys t → Got read xs t)
      → did_not_fit H read fits l xs ≡ false → did_not_fit H read fits l ys ≡ false
      → Agree H read fits l xs ys ⊎ (WasShown H read fits l xs × WasShown H read fits l ys)
  demand_3 xs ys to from f g = go (answered14 H read fits l xs) refl (answered14 H read fits l ys) refl
    where
      go : (a : Bool) → answered14 H read fits l xs ≡ a → (b : Bool) → answered14 H read fits l ys ≡ b
          → Agree H read fits l xs ys ⊎ (WasShown H read fits l xs × WasShown H read fits l ys)
      go true d true e = inr (copy_shown xs d, copy_shown ys e)
      go true d false e = absurd (true≢false (sym d ∙ lost_quiet xs ys to e g))
      go false d true e = absurd (true≢false (sym e ∙ lost_quiet ys xs from d f))
      go false d false e =
          inl (record {
            quiet = d;
            quiet_too = e;
            equal = le_antisym H (copy H read fits l xs) (copy H read fits l ys) (lost xs ys to e g) (lost ys xs from d f);
            exactly = copy_exact xs d f;
          })

  -- the copy of an end is well-formed where its root label has 32 bytes and the trees that it reads are
  pub copy_well_formed : (composed : List ℕ → Bool) → length l ≡ label_bytes
      → ((a : A) (t : Node) → read a ≡ some t → WellFormed H composed t) → (xs : List A) → WellFormed H composed (copy H read fits l xs)
  copy_well_formed composed long good xs =
      (run_keeps H read fits (λ c. WellFormed H composed c × (label H c ≡ l))
      (λ c a t d k e f g.
      let like : Alike H c t = record { types = k.0.root ∙ sym (roots a t e).root; labels = k.1 ∙ sym (roots a t e).text } in
      (join_well_formed H composed c t d k.0 (good a t e) like.labels f, sym (le_label H c d (join_ok H c t d like f).left) ∙ k.1))
      xs (bare l) (bare_well_formed H composed l long, refl)).0
