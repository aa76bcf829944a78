-- The tests of two slips' answers, one after the other.
use Rattle.std.specs.Prelude.{Bool, true, false, not, cond, ◌≡◌, refl, eqb}
use Rattle.std.proofs.Math.Path.{sym}
use Rattle.std.proofs.Common.{arith}
use borrow.Author.Tests.{eq-eqb, ne_eqb, eqb-true, eqb-false, not-true, not-false}
use Rattle.lists.specs.Lists.{same}
use Rattle.outcomes.specs.Refusals.{accepted, roots_differ}
use Rattle.answers.specs.declared.Answer.{Answer}
use Rattle.answers.specs.Answers.{refused}
use Rattle.answers.specs.Both.{sided, both_of}

module _ (a b : Answer) where
  pub both_first : (a.number ≡ accepted → ⊥) → sided 1 a ≡ both_of a b
  unfolding both_of
  both_first h = sym (rw (ne_eqb a.number accepted h))

  module _ (p : a.number ≡ accepted) where
    pub both_second : (b.number ≡ accepted → ⊥) → sided 2 b ≡ both_of a b
    unfolding both_of
    both_second h = sym (rw (eq-eqb a.number accepted p, ne_eqb b.number accepted h))

    module _ (q : b.number ≡ accepted) where
      pub both_differ : same a.label b.label ≡ false → refused roots_differ 0 ≡ both_of a b
      unfolding both_of
      both_differ h = sym (rw (eq-eqb a.number accepted p, eq-eqb b.number accepted q, h))

      pub both_alike : same a.label b.label ≡ true → a ≡ both_of a b
      unfolding both_of
      both_alike h = sym (rw (eq-eqb a.number accepted p, eq-eqb b.number accepted q, h))

-- the answer by the outcomes of the tests
unfoldable pub both_by : Bool → Bool → Bool → Answer → Answer → Answer
both_by one two differ a b = cond one (sided 1 a) (cond two (sided 2 b) (cond differ (refused roots_differ 0) a))

told_by :
    (one two differ : Bool) (a b : Answer)
    → (one ≡ true → a.number ≡ accepted → ⊥)
    → (two ≡ true → b.number ≡ accepted → ⊥)
    → (both_by one two differ a b).number ≡ accepted
    → (one ≡ false) × (two ≡ false) × (differ ≡ false) × (both_by one two differ a b ≡ a)
unfolding both_by
told_by true two differ a b p q e = absurd (p refl e)
told_by false true differ a b p q e = absurd (q refl e)
told_by false false true a b p q e = absurd (omega (arith, e))
told_by false false false a b p q e = (refl, refl, refl, refl)

-- what is not refused: two accepted slips with one root label
pub record Told (a b : Answer) : Type 0 where
  pub one : a.number ≡ accepted
  pub two : b.number ≡ accepted
  pub alike : same a.label b.label ≡ true
  pub is : both_of a b ≡ a

pub both_told : (a b : Answer) → (both_of a b).number ≡ accepted → Told a b
unfolding both_of both_by
both_told a b e =
    let t =
    told_by (not (eqb a.number accepted)) (not (eqb b.number accepted)) (not (same a.label b.label)) a b
    (λ q. eqb-false a.number accepted (not-true (eqb a.number accepted) q)) (λ q. eqb-false b.number accepted (not-true (eqb b.number accepted) q)) e in
    record {
      one = eqb-true a.number accepted (not-false (eqb a.number accepted) t.0);
      two = eqb-true b.number accepted (not-false (eqb b.number accepted) t.1);
      alike = not-false (same a.label b.label) t.2;
      is = t.3;
    }
