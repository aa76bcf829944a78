-- The join's tests behind the headers, one after the other.
use Prim.Native.Nat.{ℕ}
use mathlib.Core.Bool.{Bool, true, false, not, cond}
use mathlib.Core.List.{List}
use mathlib.Core.Path.{◌≡◌, refl, ap, ◌∙◌, subst}
use borrow.Author.Tests.{eq-eqb, eqb-true, not-false}
use lib.Dec.{eqb}
use Rattle.lists.specs.Lists.{same}
use Rattle.outcomes.specs.Refusals.{accepted, roots_differ}
use Rattle.outcomes.specs.Outcome.{Output, Leaves, still}
use Rattle.trees.specs.Join.{join}
use Rattle.answers.specs.declared.Answer.{Answer}
use Rattle.answers.specs.Answers.{refused}
use Rattle.answers.specs.Both.{sided, both_of}
use Rattle.answers.specs.BothLaws.{both_by, both_told}
use Rattle.slips.specs.Check.{body_of}
use Rattle.slips.specs.SlipTree.{slip_tree}
use Rattle.join_tables.specs.Joined.{joined_of}
use Rattle.join_bodies.specs.Bodies.{bodies_of}

module _ (H : List ℕ → List ℕ) (composed : List ℕ → Bool) (s u out : List ℕ) where
  -- a refusal by the outcomes of the tests leaves the output
  refused_by : (one two differ : Bool) (a b : Answer) (x : Output Answer) → ((both_by one two differ a b).number ≡ accepted → ⊥)
      → (one ≡ false → two ≡ false → differ ≡ false → a.number ≡ accepted)
      → still (both_by one two differ a b) out ≡ cond one (still (sided 1 a) out) (cond two (still (sided 2 b) out) (cond differ (still (refused roots_differ 0) out) x))
  unfolding both_by
  refused_by true two differ a b x h g = refl
  refused_by false true differ a b x h g = refl
  refused_by false false true a b x h g = refl
  refused_by false false false a b x h g = absurd (h (g refl refl refl))

  -- a slip refused, or 13
  pub join_refused : {r : Answer} → r ≡ both_of (body_of H composed s) (body_of H composed u) → (r.number ≡ accepted → ⊥)
      → Leaves (bodies_of H composed s u out) r out
  unfolding both_of both_by bodies_of
  join_refused {r = r} e h =
      let a : Answer = body_of H composed s in
      let b : Answer = body_of H composed u in
      let k =
      refused_by (not (eqb a.number accepted)) (not (eqb b.number accepted)) (not (same a.label b.label)) a b
      (joined_of H (slip_tree s) (slip_tree u) out (join H (slip_tree s) (slip_tree u))) (λ n. h (ap (λ (x : Answer). x.number) e ∙ n))
      (λ n m l. eqb-true a.number accepted (not-false (eqb a.number accepted) n)) in
      subst (λ (x : Output Answer). Leaves x r out) k (record { answered = e; written = refl })

  -- neither refused: the join of the trees decides
  pub join_merged : {r : Answer} {left : List ℕ} → (both_of (body_of H composed s) (body_of H composed u)).number ≡ accepted
      → Leaves (joined_of H (slip_tree s) (slip_tree u) out (join H (slip_tree s) (slip_tree u))) r left → Leaves (bodies_of H composed s u out) r left
  unfolding bodies_of
  join_merged {r = r} {left = left} e m =
      let a : Answer = body_of H composed s in
      let b : Answer = body_of H composed u in
      let t = both_told a b e in
      rw (eq-eqb a.number accepted t.one, eq-eqb b.number accepted t.two, t.alike) m
