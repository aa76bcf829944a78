use Rattle.std.proofs.Common.{◌≡◌, ℕ, ◌+◌, ◌-◌, ◌*◌, ◌/◌, ◌%◌, List, length, take, drop, ap, ◌∙◌, arith, drop-drop}
use Rattle.std.proofs.Math.Seq.{paste}
use Rattle.words.specs.Sha256.{sha256}
use Rattle.lists.specs.PartsLaws.{tail_part}
use Rattle.sha256.proofs.Holding.{held_short, held_long}
use Rattle.sha256.proofs.digest.Digest.absorb.Goals as goal

pub returns-then-part-room : goal.returns-then-part-room
returns-then-part-room c = λ t d.
    held_short sha256 d c.args.part.now (c.args.self.len % 64) (omega (arith, d.few, d.cut, d.long)) (omega (arith, c.if-part-room.true)) c.filled-tail.ensures

pub returns : goal.returns
returns c = λ t d.
    let part : List ℕ = c.args.part.now in
    let rest : ℕ = c.args.self.len % 64 in
    let room : ℕ = 64 - rest in
    let after : List ℕ = c.split_at.result.1.now in
    let w : ℕ = length after / 64 in
    let cut : length after + room ≡ length part = omega (arith, c.split_at.ensures.back_len) in
    let left : take (length after - 64 * w) (drop (64 * w) after) ≡ drop (room + 64 * w) part =
    tail_part after (64 * w) ∙ ap (drop (64 * w)) c.split_at.ensures.back ∙ drop-drop (64 * w) room part in
    held_long sha256 d part rest room w (omega (arith, d.few, d.cut, d.long)) (omega arith) (omega arith) (omega arith) (omega arith)
    (cc)
    c.chain-state.ensures
    (cc)
    (c.filled-tail-2.ensures ∙ ap (λ (l : List ℕ). paste c.filled-block.result 0 l (length l)) left)
