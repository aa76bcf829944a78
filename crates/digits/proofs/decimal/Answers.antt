use Rattle.std.proofs.Common.{arith}
use Rattle.digits.proofs.Spelling.{reads_more, reads_all, number_reads}
use Rattle.digits.proofs.decimal.Goals as goal

pub returns-in_err-n : goal.returns-in_err-n
returns-in_err-n c =
    let l = c.loop-b in
    let e = reads_more l.n c.args.digits.now l.b-index (omega arith) in
    let z = number_reads c.args.digits.now l.invariant.some in
    grind (arith, e, z)

pub loop-b-preserved : goal.loop-b-preserved
loop-b-preserved c =
    let l = c.loop-b in
    let e = reads_more l.n c.args.digits.now l.b-index (omega arith) in
    record { some = omega arith; so_far = grind (arith, e) }

pub returns : goal.returns
returns c =
    let l = c.loop-b in
    let e = reads_all l.n c.args.digits.now l.b-index (omega arith) in
    let z = number_reads c.args.digits.now l.invariant.some in
    cc
