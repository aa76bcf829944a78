use Rattle.std.proofs.Common.{[], arith, length-append}
use Rattle.labels.proofs.of_parts.Goals as goal

pub absorbed-requires-2 : goal.absorbed-requires-2
absorbed-requires-2 c =
    let held = c.absorbed.ensures [] c.new.ensures in
    omega arith

pub finish-requires : goal.finish-requires
finish-requires c =
    let held = c.absorbed-2.ensures _ (c.absorbed.ensures [] c.new.ensures) in
    omega (arith, simp length-append at held.long)

pub returns : goal.returns
returns c = c.finish.ensures _ (c.absorbed-2.ensures _ (c.absorbed.ensures [] c.new.ensures))
