use Rattle.std.proofs.Common.{refl}
use Rattle.stack.specs.Areas.{tags_in}
use Rattle.stack.proofs.Laid.{none_laid, waits}
use Rattle.stack.proofs.Stack.new.Goals as goal

pub invariant_of-result : goal.invariant_of-result
invariant_of-result g c = waits (none_laid _ _ _ _)

pub returns : goal.returns
unfolding tags_in
returns g c = refl
