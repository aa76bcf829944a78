-- "the contract leaves one possible answer and one possible content of the buffers"
use Rattle.std.specs.Prelude.{◌≡◌}
use Rattle.std.proofs.Common.{sym, ◌∙◌}
use Rattle.outcomes.specs.Outcome.{Outcome, Leaves}

-- whatever the outcome is
pub leaves_one : {A B : Type 0} {o : Outcome A B} {r q : A} {b c : B} → Leaves o r b → Leaves o q c → (r ≡ q) × (b ≡ c)
leaves_one e f = (e.answered ∙ sym f.answered, e.written ∙ sym f.written)
