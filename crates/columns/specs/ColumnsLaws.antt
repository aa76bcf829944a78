-- What is left of two runs that are compared or walked.
use Rattle.std.specs.Prelude.{◌≡◌, false, ℕ, eqb}
use Rattle.std.proofs.lemmas.Bool.{eqb-false}
use Rattle.lists.specs.TestsLaws.{or_left, or_right}
use Rattle.columns.specs.Columns.{none_left}

-- children are left
pub some_left : (k e f : ℕ) → none_left k e f ≡ false → (k ≡ 0 → ⊥) × (e ≡ 0 → ⊥) × (f ≡ 0 → ⊥)
some_left k e f h = (
  eqb-false k 0 (or_left (eqb k 0) _ h),
  eqb-false e 0 (or_left (eqb e 0) (eqb f 0) (or_right (eqb k 0) _ h)),
  eqb-false f 0 (or_right (eqb e 0) (eqb f 0) (or_right (eqb k 0) _ h)),
)
