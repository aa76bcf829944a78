use Rattle.std.proofs.Common.{length, ◌∙◌, ap, arith, length-drop, ◌-◌}
use Rattle.send.specs.Blocks.{row_blocks}
use Rattle.send.proofs.Going.{Here, going_start, row_here, cut_off, going_next, going_done}
use Rattle.send.proofs.blocks.blocks.Goals as goal
use Rattle.send.proofs.blocks.blocks.Goals.{After-cell-bytes}

pub loop-i-init : goal.loop-i-init
loop-i-init c = rw c.new-waiting.ensures (going_start c.requires)

-- what both cells of row i tell
here : (c : After-cell-bytes) → Here c.args.counts.now c.args.lengths.now c.loop-i.waiting.items c.loop-i.i c.cell-children.result c.cell-bytes.result
here c = row_here c.loop-i.invariant c.requires c.loop-i-test.true c.cell-children.ensures.0 c.cell-bytes.ensures.0

pub row_blocks-own-requires : goal.row_blocks-own-requires
row_blocks-own-requires c =
    let w = c.loop-i.waiting.items in
    let h = here (goal.at.row_blocks-own-requires c).After-cell-bytes in
    let kids = cut_off _ w _ c.cell-children.result c.as_slice.ensures.value c.len.ensures.value in
    omega (arith, ap length kids, length-drop (length w - c.cell-children.result) w, h.awaited, h.few)

pub piece_size-requires : goal.piece_size-requires
piece_size-requires c = (here (goal.at.piece_size-requires c).After-cell-bytes).short

pub loop-i-preserved : goal.loop-i-preserved
loop-i-preserved c =
    let h = here (goal.at.loop-i-preserved c).After-cell-bytes in
    let own = c.row_blocks-own.ensures in
    let kids = cut_off _ c.loop-i.waiting.items _ c.cell-children.result c.as_slice.ensures.value c.len.ensures.value in
    rw (c.push.ensures.items, c.truncate.ensures.items, c.len.ensures.value)
    (going_next c.loop-i.invariant h (own.0 ∙ ap (row_blocks c.cell-children.result) kids) own.1 c.piece_size.ensures)

pub returns : goal.returns
returns c = going_done c.loop-i.invariant c.loop-i-test.false
