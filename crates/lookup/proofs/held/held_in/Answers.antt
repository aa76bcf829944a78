use Rattle.std.proofs.Common.{sym, ◌∙◌}
use Rattle.tables.specs.Tables.{seen}
use Rattle.tables.specs.TablesLaws.{table_told}
use Rattle.lookup.proofs.Rows.{unfit_held, zero_held}
use Rattle.lookup.proofs.held.held_in.Goals as goal
use Rattle.lookup.proofs.held.held_in.Goals.{else-kind-ne0-via-then-kind-ne0+else-table_fits, else-kind-ne0-via-else-kind-ne0}

pub first_of-requires : goal.first_of-requires
first_of-requires c =
    let f = (table_told (seen c.args.t) (sym c.table_fits.ensures ∙ c.if-table_fits.true)).columns in
    (f.lengths_long, f.few)

pub returns : goal.returns
returns c =
    elim c.else-kind-ne0.branch [
      | else-kind-ne0-via-then-kind-ne0+else-table_fits w ↦ unfit_held c.args.kind (seen c.args.t) w.table_fits.ensures w.if-table_fits.false
      | else-kind-ne0-via-else-kind-ne0 w ↦ zero_held c.args.kind (seen c.args.t) w.if-kind-ne0.false
    ]
