use Rattle.std.proofs.Common.{◌≡◌, drop}
use Rattle.tables.specs.Tables.{first_bad}
use Rattle.tables.proofs.form.first_bad.Given as goal

abbrev pub invariant-loop-i : goal.invariant-loop-i
invariant-loop-i l = first_bad 0 l.t.types.now l.t.counts.now l.t.lengths.now ≡ first_bad l.i (drop l.i l.t.types.now) (drop l.i l.t.counts.now) (drop l.i l.t.lengths.now)
