use Rattle.std.proofs.Common.{◌≤◌, ◌∙◌, arith}
use Rattle.trees.specs.Rules.{max_nodes}
use Rattle.unpack.proofs.Opened.{opened_table, handed_as}
use Rattle.unpack.proofs.unpack_taken.Goals as goal

pub returns : goal.returns
returns c =
    let o = c.open_in-opened in
    let few : o.result.rows ≤ max_nodes = omega (arith, o.ensures.few, c.requires.counted, c.requires.few) in
    let t = opened_table o.ensures (omega (arith, o.auto.types)) (omega (arith, o.auto.counts)) (omega (arith, o.auto.lengths)) in
    handed_as _ (c.from.ensures ∙ o.ensures.answer) t c.hand_out.ensures
