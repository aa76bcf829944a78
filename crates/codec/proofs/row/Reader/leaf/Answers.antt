use Rattle.std.proofs.Common.{ℕ, ◌+◌, ap, ◌∙◌}
use Rattle.trees.specs.Rules.{label_bytes}
use Rattle.tables.specs.Limits.{type_bits}
use Rattle.tables.specs.Tables.{row_fits}
use Rattle.codec.specs.Reading.{read_value, read_leaf}
use Rattle.codec.specs.TableLaws.{fits_dangling}
use Rattle.codec.proofs.ReadSteps.{gives_on, leaf_short, leaf_is, dangling_is}
use Rattle.codec.proofs.row.Reader.leaf.Goals as goal

pub returns-in_err-kind : goal.returns-in_err-kind
returns-in_err-kind c = rw c.from_residual.ensures (leaf_short _ _ c.args.self.within c.in_err-kind.ensures.is)

pub valued-requires : goal.valued-requires
valued-requires c = ap (λ (k : ℕ). row_fits k 0 label_bytes) c.if-kind-eq0.true ∙ fits_dangling

pub returns-then-kind-eq0 : goal.returns-then-kind-eq0
returns-then-kind-eq0 c =
    let e = c.in_ok-kind.ensures in
    gives_on _ _ _ _ _ _ (read_value c.in_ok-kind.kind label_bytes) _ e.same e.on
    (leaf_is _ _ _ e.is.0 e.is.1.value ∙ dangling_is _ (c.args.self.at + type_bits) _ c.if-kind-eq0.true) c.valued.ensures

pub returns-else-kind-eq0 : goal.returns-else-kind-eq0
returns-else-kind-eq0 c =
    let e = c.in_ok-kind.ensures in
    gives_on _ _ _ _ _ _ (read_leaf c.in_ok-kind.kind) _ e.same e.on (leaf_is _ _ _ e.is.0 e.is.1.value) c.pair.ensures
