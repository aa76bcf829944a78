use Rattle.std.proofs.Common.{◌≡◌, refl, ap, ◌∙◌, arith, length}
use Rattle.sha256.specs.Sha256 as Sha256
use Rattle.sha256.specs.Blocks.{label_long}
use Rattle.trees.specs.Nodes.{Node}
use Rattle.trees.specs.Rows.{rows}
use Rattle.tables.specs.Records.{TreeTable}
use Rattle.codec.specs.Writing.{slip_of}
use Rattle.join_tables.proofs.Delivering.{fitted_long, fitted_sent}
use Rattle.join_tables.proofs.gathered.deliver.Goals as goal
use Rattle.join_tables.proofs.gathered.deliver.Goals.{After-size-bytes}

-- the bytes are the slip's
sized : (c : After-size-bytes) (n : Node)
    → TreeTable n c.args.t.types.now c.args.t.counts.now c.args.t.lengths.now c.args.t.values.now
    → c.size-bytes.result ≡ length (slip_of (rows n))
sized c n t = c.size-bytes.ensures _ t.form.area ∙ ap (λ es. length (slip_of es)) t.rows_are

pub returns-then-bytes-gt-MAX_BYTES : goal.returns-then-bytes-gt-MAX_BYTES
returns-then-bytes-gt-MAX_BYTES c n t e =
    fitted_long Sha256.label n _ (omega (arith, sized (goal.at.returns-then-bytes-gt-MAX_BYTES c).After-size-bytes n t, c.if-bytes-gt-MAX_BYTES.true)) refl

pub returns : goal.returns
returns c n t e =
    fitted_sent Sha256.label n _ (omega (arith, sized (goal.at.returns c).After-size-bytes n t, c.if-bytes-gt-MAX_BYTES.false)) (c.send_tree.ensures Sha256.label label_long n t e)
