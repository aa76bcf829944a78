-- What is counted and the bits of the rows that remain are the table's.
use Rattle.std.proofs.Common.{◌≡◌, ◌+◌, ◌*◌, ◌≤◌, drop}
use Rattle.tables.specs.Measure.{rows_bits, table_bits}
use Rattle.codec.proofs.measure.measure.Given as goal

abbrev pub invariant-loop-i : goal.invariant-loop-i
invariant-loop-i l =
    (l.total + rows_bits (drop l.i l.t.types.now) (drop l.i l.t.counts.now) (drop l.i l.t.lengths.now) ≡ table_bits l.t.types.now l.t.counts.now l.t.lengths.now)
    × (l.total ≤ 16 + 524308 * l.i)
