use Rattle.std.proofs.Common.{rules, ◌≡◌, sym, ◌∙◌, arith, lit≤, take_all}
use Rattle.compression.specs.Compression.{schedule}
use Rattle.words.specs.Sha256.{constants}
use Rattle.compression.proofs.Steps.{schedule_more, eight}
use Rattle.compression.proofs.schedule.schedule.Goals as goal

pub loop-turn-init : goal.loop-turn-init
unfolding schedule
loop-turn-init c = record { from = lit≤ tt; room = search rules; first = c.loaded-w.ensures }

pub loop-turn-preserved : goal.loop-turn-preserved
loop-turn-preserved c =
    eight (schedule_more _) c.loop-turn.turn (omega arith) c.loop-turn.invariant
    c.lay.ensures
    c.lay-in-loop-turn.ensures
    c.lay-in-loop-turn-2.ensures
    c.lay-in-loop-turn-3.ensures
    c.lay-in-loop-turn-4.ensures
    c.lay-in-loop-turn-5.ensures
    c.lay-in-loop-turn-6.ensures
    c.lay-in-loop-turn-7.ensures

pub returns : goal.returns
unfolding constants
returns c =
    let l = c.loop-turn in
    let all : l.turn ≡ 8 = omega arith in
    sym (take_all 64 l.w (omega arith)) ∙ (rw all at l.invariant.first)
