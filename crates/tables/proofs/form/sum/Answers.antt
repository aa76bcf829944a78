use Rattle.std.proofs.Common.{rules, ◌≡◌, ◌∙◌, sym}
use Rattle.std.specs.Prelude.{sum_by}
use Rattle.tables.proofs.Rows.{sum_is}
use Rattle.tables.proofs.form.sum.Goals as goal

pub returns : goal.returns
returns c =
    let e : c.sum.result ≡ sum_by (λ n. n) c.args.lengths.now = search rules in
    e ∙ sym (sum_is c.args.lengths.now)
