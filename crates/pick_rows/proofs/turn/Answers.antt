use Rattle.std.proofs.Common.{arith}
use Rattle.tables.specs.Tables.{entry_of}
use Rattle.pick_rows.proofs.Putting.{turn_kept, turn_cut, dangling_fits}
use Rattle.pick_rows.proofs.turn.Goals as goal

pub returns-in-Kept : goal.returns-in-Kept
returns-in-Kept c =
    let a = c.args in
    rw c.in-Kept.is (turn_kept a.l a.p.rows a.p.used a.label.now _ _ _ _ _ _ _ _ _ _ (entry_of a.t a.c a.value.now) c.put.ensures)

pub put-requires-in-CutOff : goal.put-requires-in-CutOff
put-requires-in-CutOff c =
    let p = c.requires in
    record {
      types_room = p.2.types_room;
      counts_room = p.2.counts_room;
      lengths_room = p.2.lengths_room;
      values_room = omega (arith, p.3);
      long = p.1;
      fits = dangling_fits;
    }

pub returns-in-CutOff : goal.returns-in-CutOff
returns-in-CutOff c =
    let a = c.args in
    rw c.in-CutOff.is (turn_cut a.l a.p.rows a.p.used a.label.now _ _ _ _ _ _ _ _ _ _ a.t a.c a.value.now (c.requires.0 c.in-CutOff.is) c.put-in-CutOff.ensures)
