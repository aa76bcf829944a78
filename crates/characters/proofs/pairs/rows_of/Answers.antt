-- `rows_of` meets its contract: at each mark its rows compute to what is sought in all of them.
use Rattle.std.proofs.Common.{arith}
use Rattle.std.proofs.lemmas.Bool.Decides.{nat_tests}
use Rattle.nfc.specs.Repertoire.{member, marks, is_mark}
use Rattle.characters.proofs.Rows.{pairs_joined, markless}
use Rattle.characters.proofs.pairs.rows_of.Goals as goal

pub returns-in-768 : goal.returns-in-768
returns-in-768 c = rw c.in-768.is (λ l. pairs_joined l 768)

pub returns-in-769 : goal.returns-in-769
returns-in-769 c = rw c.in-769.is (λ l. pairs_joined l 769)

pub returns-in-770 : goal.returns-in-770
returns-in-770 c = rw c.in-770.is (λ l. pairs_joined l 770)

pub returns-in-771 : goal.returns-in-771
returns-in-771 c = rw c.in-771.is (λ l. pairs_joined l 771)

pub returns-in-776 : goal.returns-in-776
returns-in-776 c = rw c.in-776.is (λ l. pairs_joined l 776)

pub returns-in-778 : goal.returns-in-778
returns-in-778 c = rw c.in-778.is (λ l. pairs_joined l 778)

pub returns-in-807 : goal.returns-in-807
returns-in-807 c = rw c.in-807.is (λ l. pairs_joined l 807)

pub returns-in_default : goal.returns-in_default
unfolding is_mark member marks
returns-in_default c = λ l. markless l c.args.mark (grind (arith, nat_tests))
