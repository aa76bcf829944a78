use Rattle.std.proofs.Common.{subst, arith, rules}
use Rattle.trees.specs.Rows.{Entry, tip}
use Rattle.faults.specs.Steps.{entry_tip}
use Rattle.stack.specs.Areas.{GrowAsks}
use Rattle.stack.specs.PieceLaws.{length_more}
use Rattle.stack.proofs.Stack.grow.Goals as goal

pub push-requires : goal.push-requires
push-requires g c =
    let a = c.args in
    let leaf : GrowAsks g.row.NODES g.row.WORK a.self.now.held (tip a.kind a.value.now) a.i a.labels.now =
    subst (λ (e : Entry). GrowAsks g.row.NODES g.row.WORK a.self.now.held e a.i a.labels.now) (entry_tip a.kind a.count a.value.now c.if-count-eq0.true) c.requires in (
      search rules,
      record {
        kind_fits = leaf.fits.sound.0;
        height_fits = omega arith;
        text_fits = leaf.fits.sound.1;
        room = leaf.fits.room;
        work_room = omega (arith, length_more a.self.now.held.tags (record { kind = a.kind; height = 1; text = a.value.now }), leaf.fits.work_room);
      },
    )
