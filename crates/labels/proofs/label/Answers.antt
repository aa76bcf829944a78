use Rattle.std.proofs.Common.{[], arith}
use Rattle.labels.proofs.label.Goals as goal

pub finish-requires : goal.finish-requires
finish-requires c =
    let held = c.absorbed.ensures [] c.new.ensures in
    omega arith
