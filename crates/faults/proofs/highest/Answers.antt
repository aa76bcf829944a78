use Rattle.std.proofs.Common.{◌≡◌, max, fold, rules, arith}
use Rattle.faults.proofs.Columns.{folded}
use Rattle.faults.proofs.highest.Goals as goal

pub returns : goal.returns
returns c =
    let e : c.fold.result ≡ fold (λ a x. max a x) 0 c.args.heights.now = search rules in
    omega (arith, folded c.args.heights.now 0)
