use Rattle.std.proofs.Common.{◌≡◌, ◌/◌, ◌<◌, length, refl, arith, rules}
use Rattle.std.specs.Simd.{first_chunks}
use Rattle.compression.proofs.Block.{words_more}
use Rattle.words.specs.Words.{words}
use Rattle.compression.proofs.schedule.loaded.Goals as goal

pub loop-t-init : goal.loop-t-init
unfolding words
loop-t-init c = (refl, refl)

pub loop-t-preserved : goal.loop-t-preserved
loop-t-preserved c =
    let l = c.loop-t in
    let room : l.t < length l.w = omega arith in
    let cut : c.as_chunks.result.0.now ≡ first_chunks 4 (length c.args.block.now / 4) c.args.block.now = cc in
    (search rules, words_more _ l.w l.t (length c.args.block.now / 4) room (omega arith) l.invariant.1 (rw cut at c.word.ensures))
