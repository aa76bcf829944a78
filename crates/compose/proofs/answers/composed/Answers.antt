-- No composed title is over the limit.
use Rattle.std.proofs.Common.{ℕ, ◌≤◌, List, Result, Ok, Err}
use Rattle.std.specs.Prelude.{IfOk}
use Rattle.outcomes.specs.Outcome.{Leaves}
use Rattle.outcomes.specs.declared.numbers.Refused.{Refused}
use Rattle.titles.specs.Compose.{compose_of}
use Rattle.titles.specs.Scan.{answer_of}
use Rattle.titles.specs.TitleTheorems.{length_most}
use Rattle.compose.proofs.answers.composed.Goals as goal

most : (title out left : List ℕ) (r : Result ℕ Refused) → Leaves (compose_of title out) (answer_of r) left → IfOk r (λ n. n ≤ 511)
most title out left (Ok n) e = length_most _ _ _ _ e
most title out left (Err r) e = tt

pub returns : goal.returns
returns c = most _ _ _ c.compose_into.result c.compose_into.ensures
