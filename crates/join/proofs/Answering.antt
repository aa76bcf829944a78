-- The join's tests, one after the other.
use Prim.Native.Nat.{ℕ}
use mathlib.Core.Bool.{Bool}
use mathlib.Core.List.{List}
use mathlib.Core.Path.{◌≡◌, refl, ap, ap₂, ◌∙◌, subst}
use borrow.Author.Tests.{eq-eqb, ne_eqb}
use Rattle.outcomes.specs.Refusals.{accepted}
use Rattle.outcomes.specs.Outcome.{Output, Leaves}
use Rattle.trees.specs.Rules.{max_bytes, max_nodes}
use Rattle.answers.specs.declared.Answer.{Answer}
use Rattle.answers.specs.Answers.{refusal_answer}
use Rattle.answers.specs.Both.{sided}
use Rattle.std.specs.Prelude.{Ok, Err}
use Rattle.outcomes.specs.declared.numbers.Refusal.{Refusal}
use Rattle.outcomes.specs.RefusalsLaws.{numbered}
use Rattle.slips.specs.Check.{header_seen, header_of, check_of}
use Rattle.slips.specs.HeaderLaws.{header_taken, header_refused, check_body}
use Rattle.both_slips.specs.Headed.{Headed}
use Rattle.join_bodies.specs.Bodies.{join_by, bodies_of}
use Rattle.join.specs.Join.{join_of}

-- a header that is taken
pub headed : {s : List ℕ} {n : ℕ} → header_seen (Ok n) ≡ header_of s → Headed s n max_bytes max_nodes
headed e = let t = header_taken e in record { taken = t.1; is = t.0 }

module _ (H : List ℕ → List ℕ) (composed : List ℕ → Bool) where
  -- a header's refusal is the slip's
  refused_head : (s : List ℕ) (k : Refusal) → header_seen (Err k) ≡ header_of s
      → ((check_of H composed s).number ≡ accepted → ⊥) × (refusal_answer (record { refusal = k; place = 0 }) ≡ check_of H composed s)
  refused_head s k e =
      let is = header_refused H composed s k e in
      (λ q. numbered k (ap (λ (x : Answer). x.number) is ∙ q), is)

module _ (H : List ℕ → List ℕ) (composed : List ℕ → Bool) (s u out : List ℕ) where
  -- "first slip (side 1)"
  pub join_first : {r : Answer} → ((check_of H composed s).number ≡ accepted → ⊥) → r ≡ sided 1 (check_of H composed s)
      → Leaves (join_of H composed s u out) r out
  unfolding join_of
  join_first h e = rw (ne_eqb (check_of H composed s).number accepted h) (record { answered = e; written = refl })

  pub head_first : (k : Refusal) {r : Answer} → header_seen (Err k) ≡ header_of s → r ≡ sided 1 (refusal_answer (record { refusal = k; place = 0 }))
      → Leaves (join_of H composed s u out) r out
  head_first k e g = let x = refused_head H composed s k e in join_first x.0 (g ∙ ap (sided 1) x.1)

  module _ (p : (check_of H composed s).number ≡ accepted) where
    -- "second slip (side 2)"
    pub join_second : {r : Answer} → ((check_of H composed u).number ≡ accepted → ⊥) → r ≡ sided 2 (check_of H composed u)
        → Leaves (join_of H composed s u out) r out
    unfolding join_of
    join_second h e =
        rw (eq-eqb (check_of H composed s).number accepted p, ne_eqb (check_of H composed u).number accepted h)
        (record { answered = e; written = refl })

    pub head_second : (k : Refusal) {r : Answer} → header_seen (Err k) ≡ header_of u → r ≡ sided 2 (refusal_answer (record { refusal = k; place = 0 }))
        → Leaves (join_of H composed s u out) r out
    head_second k e g = let x = refused_head H composed u k e in join_second x.0 (g ∙ ap (sided 2) x.1)

  -- behind the headers, the bodies decide
  pub by_bodies : {r : Answer} {left : List ℕ} → (header_of s).number ≡ accepted → (header_of u).number ≡ accepted
      → Leaves (bodies_of H composed s u out) r left → Leaves (join_of H composed s u out) r left
  unfolding join_of bodies_of
  by_bodies {r = r} {left = left} p q =
      subst (λ (x : Output Answer). Leaves x r left)
      (ap₂ (λ (a b : Answer). join_by H a b s u out) (check_body H composed s p) (check_body H composed u q))
