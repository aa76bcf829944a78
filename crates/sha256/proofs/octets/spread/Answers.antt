use Rattle.std.proofs.Common.{rules, ◌∙◌, [], arith}
use Rattle.sha256.proofs.Bytes.{spread_is}
use Rattle.sha256.proofs.octets.spread.Goals as goal

pub returns : goal.returns
returns c =
    c.copy_from_slice.ensures.after
    ∙ c.as_flattened.ensures.value
    ∙ spread_is c.args.h c.map-words.result (search rules) (λ k few. let one = c.map-words.ensures.items.at k 0 [] (omega arith) in search rules)
