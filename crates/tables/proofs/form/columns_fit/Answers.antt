use Rattle.std.proofs.Common.{rules}
use Rattle.tables.specs.Tables.{columns_fit}
use Rattle.tables.proofs.form.columns_fit.Goals as goal

pub returns-then-t-rows-2 : goal.returns-then-t-rows-2
unfolding columns_fit
returns-then-t-rows-2 c = search rules

pub returns-else-t-rows-2 : goal.returns-else-t-rows-2
unfolding columns_fit
returns-else-t-rows-2 c = search rules
