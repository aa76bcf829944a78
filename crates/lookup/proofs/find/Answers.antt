use Rattle.std.proofs.Common.{arith}
use Rattle.lookup.proofs.Rows.{in_first, in_second}
use Rattle.lookup.proofs.find.Goals as goal

pub part-requires : goal.part-requires
part-requires c = in_first _ _ _ (rw c.in-Some-First.field-0-is at c.in-Some-First.ensures) (λ h. omega (arith, h))

pub part-requires-in-Some-Second : goal.part-requires-in-Some-Second
part-requires-in-Some-Second c = in_second _ _ _ (rw c.in-Some-Second.field-0-is at c.in-Some-Second.ensures) (λ h. omega (arith, h))
