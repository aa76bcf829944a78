use Rattle.std.proofs.Common.{rules}
use Rattle.compression.proofs.Steps.{added_is}
use Rattle.compression.proofs.rounds.added.Goals as goal

pub returns : goal.returns
returns c = added_is _ _ _ (search rules) (λ k few. let one = c.from_fn.ensures.items.at k 0 few in search rules)
