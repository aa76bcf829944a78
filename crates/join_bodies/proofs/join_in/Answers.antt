use Rattle.std.proofs.Common.{◌≡◌, sym, ap, take, ◌∙◌, arith}
use lib.Seq.{take_all}
use Rattle.sha256.specs.Sha256 as Sha256
use Rattle.join_rows.specs.Plans.{TwoTables}
use Rattle.answers.specs.declared.Answer.{Answer}
use Rattle.slips.specs.SlipTree.{slip_tree}
use Rattle.join_bodies.proofs.Answering.{join_refused, join_merged}
use Rattle.join_bodies.proofs.join_in.Goals as goal

pub returns-in-Ok : goal.returns-in-Ok
returns-in-Ok g c =
    let h = c.hold_both-held in
    let k = c.in-Ok.held in
    let e = c.in-Ok.ensures in
    let t = e.2 in
    let r = c.table.result in
    let all : take g.row.BYTES h.new.values ≡ h.new.values = take_all g.row.BYTES h.new.values (omega (arith, h.auto.values)) in
    let two : TwoTables Sha256.label (slip_tree c.args.first.bytes.now) (slip_tree c.args.second.bytes.now) k.first r.types.now r.counts.now r.lengths.now r.values.now h.new.labels =
    rw (c.table.ensures.types, c.table.ensures.counts, c.table.ensures.lengths, c.table.ensures.values ∙ all) t.two in
    join_merged _ _ _ _ _ (ap (λ (a : Answer). a.number) (sym e.0) ∙ e.1) (c.merge.ensures _ _ two t.alike t.labelled)

pub returns-in-Err : goal.returns-in-Err
returns-in-Err g c = let e = c.in-Err.ensures in join_refused _ _ _ _ _ e.0 e.1
