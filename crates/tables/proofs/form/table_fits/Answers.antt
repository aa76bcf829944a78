use Rattle.std.proofs.Common.{rules, arith, sym, ◌∙◌}
use Rattle.tables.specs.Tables.{table_fits}
use Rattle.tables.specs.TablesLaws.{columns_told}
use Rattle.tables.proofs.form.table_fits.Goals as goal

pub returns-then-not-columns_fit : goal.returns-then-not-columns_fit
unfolding table_fits
returns-then-not-columns_fit c = search rules

pub first_bad-requires : goal.first_bad-requires
first_bad-requires c = let f = columns_told _ _ _ (sym c.columns_fit.ensures ∙ c.if-not-columns_fit.false) in (f.counts_long, f.lengths_long)

pub sum-requires : goal.sum-requires
sum-requires c = let f = columns_told _ _ _ (sym c.columns_fit.ensures ∙ c.if-not-columns_fit.false) in omega (arith, f.few, f.lengths_long)

pub returns-then-is_none : goal.returns-then-is_none
unfolding table_fits
returns-then-is_none c = search rules

pub returns-else-is_none : goal.returns-else-is_none
unfolding table_fits
returns-else-is_none c = search rules
