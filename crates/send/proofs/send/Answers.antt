use Rattle.std.proofs.Common.{ℕ, ◌≡◌, ◌++◌, length, drop, ap, ◌∙◌, arith, refl}
use Rattle.tables.specs.Tables.{entries}
use Rattle.codec.specs.Writing.{slip_of}
use Rattle.answers.specs.Answers.{taken}
use Rattle.send.specs.SentLaws.{sent_roomless, sent_whole}
use Rattle.send.proofs.send.Goals as goal
use Rattle.send.proofs.send.Goals.{After-size-length}

-- the bytes are the slip's
sized : (c : After-size-length) →
    let t = c.args.t in
    c.size-length.result ≡ length (slip_of (entries t.types.now t.counts.now t.lengths.now t.values.now))
sized c = c.size-length.ensures _ c.requires.area

pub returns-then-out-length : goal.returns-then-out-length
returns-then-out-length c =
    sent_roomless _ _ _ _ (omega (arith, sized (goal.at.returns-then-out-length c).After-size-length, c.if-out-length.true)) refl

pub returns : goal.returns
returns c =
    let a = c.args in
    let t = a.t in
    let e = sized (goal.at.returns c).After-size-length in
    let w = c.write.ensures in
    sent_whole _ _ _ _ (omega (arith, e, c.if-out-length.false))
    (ap (λ (n : ℕ). taken n a.blocks a.label) e)
    (w.bytes ∙ ap (λ (n : ℕ). slip_of (entries t.types.now t.counts.now t.lengths.now t.values.now) ++ drop n a.out.now) w.size)
