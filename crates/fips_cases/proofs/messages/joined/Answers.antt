use Rattle.std.proofs.Common.{[], arith, length-append}
use Rattle.fips_cases.proofs.messages.joined.Goals as goal

pub absorbed-requires : goal.absorbed-requires
absorbed-requires c =
    let held = c.absorbed-d.ensures [] c.new.ensures in
    omega arith

pub absorbed-requires-2 : goal.absorbed-requires-2
absorbed-requires-2 c =
    let held = c.absorbed.ensures _ (c.absorbed-d.ensures [] c.new.ensures) in
    omega (arith, simp length-append at held.long)

pub finish-requires : goal.finish-requires
finish-requires c =
    let held = c.absorbed-2.ensures _ (c.absorbed.ensures _ (c.absorbed-d.ensures [] c.new.ensures)) in
    omega (arith, simp length-append at held.long)

pub returns : goal.returns
returns c = c.finish.ensures _ (c.absorbed-2.ensures _ (c.absorbed.ensures _ (c.absorbed-d.ensures [] c.new.ensures)))
