use Rattle.std.proofs.Common.{◌≡◌, ◌/◌, ◌≤◌, length, take, refl, arith}
use Rattle.std.proofs.Math.Seq.{length-take-le}
use Rattle.std.specs.Simd.{first_chunks}
use Rattle.compression.specs.Compression.{chain}
use Rattle.compression.proofs.Block.{length_chunks}
use Rattle.compression.proofs.Steps.{chain_more}
use Rattle.compression.proofs.chain.Goals as goal
use Rattle.compression.proofs.chain.Goals.{After-as_chunks}

-- the first n of the text's blocks are n
count : (c : After-as_chunks) → length (take c.args.n c.as_chunks.result.0.now) ≡ c.args.n
count c =
    let text = c.args.text.now in
    let cut : c.as_chunks.result.0.now ≡ first_chunks 64 (length text / 64) text = cc in
    let there : c.args.n ≤ length (first_chunks 64 (length text / 64) text) = omega (arith, length_chunks 64 (length text / 64) text) in
    rw cut (length-take-le c.args.n _ there)

pub loop-block-init : goal.loop-block-init
unfolding chain
loop-block-init c = refl

pub loop-block-preserved : goal.loop-block-preserved
loop-block-preserved c =
    let text = c.args.text.now in
    let cut : c.as_chunks.result.0.now ≡ first_chunks 64 (length text / 64) text = cc in
    let below = count (goal.at.loop-block-preserved c).After-as_chunks in
    chain_more _ _ (length text / 64) c.args.n _ (omega arith) (omega arith) c.loop-block.invariant (rw cut at c.compress.ensures)

pub returns : goal.returns
returns c =
    let all : c.loop-block.block-index ≡ c.args.n = omega (arith, count (goal.at.returns c).After-as_chunks) in
    rw (← all) c.loop-block.invariant
