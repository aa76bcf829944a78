-- What holds of the refusal numbers.
use Rattle.std.specs.Prelude.{◌≡◌}
use Rattle.std.proofs.Common.{arith}
use Rattle.outcomes.specs.Refusals.{accepted, number_of}
use Rattle.outcomes.specs.declared.numbers.Refusal.{Refusal}
use Rattle.outcomes.specs.declared.numbers.Refusal.TheVariants.{TooLong, CutShort, OtherEdition, NoNodes, ChildrenMissing, TooHigh, SaltBroken, NotComposed, NotOneTree, BadPadding, NoRoom, BadList, RootsDiffer, Clashing, JoinTooLarge, BadTable, TitleLong, NotUtf8, OutsideRepertoire, LooseMark}

-- no refusal has the number of an acceptance
pub numbered : (r : Refusal) → number_of r ≡ accepted → ⊥
numbered TooLong e = omega arith
numbered CutShort e = omega arith
numbered OtherEdition e = omega arith
numbered NoNodes e = omega arith
numbered ChildrenMissing e = omega arith
numbered TooHigh e = omega arith
numbered SaltBroken e = omega arith
numbered NotComposed e = omega arith
numbered NotOneTree e = omega arith
numbered BadPadding e = omega arith
numbered NoRoom e = omega arith
numbered BadList e = omega arith
numbered RootsDiffer e = omega arith
numbered Clashing e = omega arith
numbered JoinTooLarge e = omega arith
numbered BadTable e = omega arith
numbered TitleLong e = omega arith
numbered NotUtf8 e = omega arith
numbered OutsideRepertoire e = omega arith
numbered LooseMark e = omega arith
