-- `compose_into` meets its contract: each return is one of the outcome's tests.
use Rattle.std.proofs.Common.{sym, ◌∙◌, ap, ◌++◌, drop, arith}
use Rattle.std.proofs.Math.Seq.{length-take-le}
use Rattle.std.proofs.lemmas.Result.{err_from_is_err_and}
use Rattle.titles.proofs.Answers.{met_long, met_refused, met_short, met_taken, in_buffer, part_long}
use Rattle.titles.proofs.compose_into.Goals as goal

pub returns-then-title-gt-MAX_BYTES : goal.returns-then-title-gt-MAX_BYTES
returns-then-title-gt-MAX_BYTES c = rw c.at.ensures (met_long _ _ c.if-title-gt-MAX_BYTES.true)

pub returns-in_err-n : goal.returns-in_err-n
returns-in_err-n c =
    let p = err_from_is_err_and c.from_residual.result c.from_residual.ensures.1 in
    rw (p.1, p.2) (met_refused _ _ _ c.if-title-gt-MAX_BYTES.false _ c.in_err-n.ensures)

pub returns-then-out-n : goal.returns-then-out-n
returns-then-out-n c = rw c.at-then-out-n.ensures (met_short _ _ _ c.if-title-gt-MAX_BYTES.false _ c.in_ok-n.ensures c.if-out-n.true)

-- the composed title lies within the buffer
pub slice_bounds-text-end : goal.slice_bounds-text-end
slice_bounds-text-end c = in_buffer _ c.args.out.now _ c.if-title-gt-MAX_BYTES.false _ c.in_ok-n.ensures

pub slice_bounds-copy_from_slice-end-3 : goal.slice_bounds-copy_from_slice-end-3
slice_bounds-copy_from_slice-end-3 c = sym (part_long _ c.args.out.now _ c.if-title-gt-MAX_BYTES.false _ c.in_ok-n.ensures)

pub copy_from_slice-requires : goal.copy_from_slice-requires
copy_from_slice-requires c =
    length-take-le c.in_ok-n.n c.args.out.now (omega arith) ∙ sym (part_long _ c.args.out.now _ c.if-title-gt-MAX_BYTES.false _ c.in_ok-n.ensures)

pub returns : goal.returns
returns c =
    met_taken _ _ _ c.if-title-gt-MAX_BYTES.false _ c.in_ok-n.ensures _ (omega arith)
    (ap (λ l. l ++ drop c.in_ok-n.n c.args.out.now) c.copy_from_slice.ensures.after)
