use Rattle.std.proofs.Common.{◌≡◌, ◌∙◌, get_or, arith}
use Rattle.tables.specs.Measure.{row_bits}
use Rattle.codec.specs.MeasureLaws.{rows_bits_off, rows_bits_none, table_bits_start}
use Rattle.codec.proofs.measure.measure.Goals as goal

pub loop-i-init : goal.loop-i-init
loop-i-init c = (table_bits_start _ _ _, omega arith)

pub loop-i-preserved : goal.loop-i-preserved
loop-i-preserved c =
    let l = c.loop-i in
    let t = c.args.t in
    let row : c.row_bits-total.result ≡ row_bits (get_or t.types.now l.i 0) (get_or t.counts.now l.i 0) (get_or t.lengths.now l.i 0) =
    c.row_bits-total.ensures.0 ∙ (λ j. row_bits (c.cell.ensures.0 j) (c.cell-in-loop-i.ensures.0 j) (c.cell-in-loop-i-2.ensures.0 j)) in (
      omega (arith, l.invariant.0, row, rows_bits_off t.types.now t.counts.now t.lengths.now l.i c.requires.counts_long c.requires.lengths_long c.loop-i-test.true),
      omega (arith, c.row_bits-total.ensures.1, l.invariant.1),
    )

pub returns : goal.returns
returns c =
    let l = c.loop-i in
    let t = c.args.t in
    record {
      bits = omega (arith, l.invariant.0, rows_bits_none t.types.now t.counts.now t.lengths.now l.i c.loop-i-test.false);
      small = omega (arith, l.invariant.1, l.auto.i-end, c.requires.few);
    }
