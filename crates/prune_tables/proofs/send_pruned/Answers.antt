use Rattle.std.proofs.Common.{length, take, map, map-id, ap, ◌∙◌}
use Rattle.sha256.specs.Sha256 as Sha256
use Rattle.sha256.specs.Blocks.{label_long}
use Rattle.tables.specs.PruningList.{pruned}
use Rattle.prune_rows.specs.declared.marks.Mark.{Mark}
use Rattle.prune_rows.specs.PrunedLaws.{Marked}
use Rattle.prune_tables.specs.CutLaws.{pruned_table, root_kept}
use Rattle.prune_tables.proofs.Pruning.{able, pickable, prunes}
use Rattle.prune_tables.proofs.send_pruned.Given.{Over}
use Rattle.prune_tables.proofs.send_pruned.Goals as goal
use Rattle.prune_tables.proofs.send_pruned.Goals.{After-mark_rows}

-- the marks stand in the area, as they are read
marked : (g : Over) (c : After-mark_rows g) → Marked c.args.list.now c.args.t.counts.now (map (λ (m : Mark). m) c.mark_rows.new.marks)
marked g c = ap (take (length c.args.t.counts.now)) (map-id c.mark_rows.new.marks) ∙ c.mark_rows.ensures ∙ map-id _

pub pick-p-requires-clause-pick_asks : goal.pick-p-requires-clause-pick_asks
pick-p-requires-clause-pick_asks g c = pickable (able c.requires.clean) (marked g (goal.at.pick-p-requires-clause-pick_asks g c).After-mark_rows)

pub send_tree-requires : goal.send_tree-requires
send_tree-requires g c =
    let p = c.requires.clean.asks in
    record {
      tree = pruned Sha256.label c.args.list.now p.n;
      table = pruned_table (prunes (able c.requires.clean) (marked g (goal.at.send_tree-requires g c).After-mark_rows) c.pick-p.ensures) p.holds;
    }

pub returns : goal.returns
returns g c n h e =
    let list = c.args.list.now in
    c.send_tree.ensures Sha256.label label_long (pruned Sha256.label list n)
    (pruned_table (prunes (able c.requires.clean) (marked g (goal.at.returns g c).After-mark_rows) c.pick-p.ensures) h)
    (root_kept Sha256.label n _ list e)
