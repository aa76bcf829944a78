use Rattle.std.proofs.Common.{ℕ, ◌*◌, ◌%◌, refl, ◌∙◌, arith}
use Rattle.sha256.proofs.Finishing.{finished}
use Rattle.sha256.proofs.digest.Digest.finish.Goals as goal

pub returns : goal.returns
returns c =
    let a = c.args in
    let rest : ℕ = a.self.len % 64 in
    let n = c.blocks-n in
    let closed = c.closed-area in
    λ t d.
    c.spread.ensures
    ∙ finished d closed.result rest n.result (a.self.len * 8) (omega (arith, d.few, d.cut, d.long)) n.ensures refl
    closed.ensures
    c.chain.ensures
