-- `first` meets its contract: a code that is read and no character would stand for an ill-formed sequence.
use Rattle.std.proofs.Common.{◌≡◌, sym, ◌∙◌}
use Rattle.nfc.specs.Utf8.{front, character}
use Rattle.nfc.specs.FrontsLaws.{front_1}
use Rattle.utf8.proofs.Scalars.{front_bytes, front_short, front_read}
use Rattle.utf8.proofs.first.Goals as goal
use Rattle.utf8.proofs.first.Goals.{After-code, After-code-2}

pub returns-then-a-lt128 : goal.returns-then-a-lt128
returns-then-a-lt128 c = let x = c.byte-a in
    front_read _ x.result _ (sym (front_1 c.args.s.now 0 x.result x.ensures.0 c.if-a-lt128.true)) c.from_u32.ensures.value

read_short : (c : After-code) → character c.byte-a.result c.byte-b.result 0 0 ≡ front c.args.s.now
read_short c = front_short _ _ _ c.byte-a.ensures.0 c.byte-b.ensures.0 c.if-a-lt224.true

pub returns-in_err-short : goal.returns-in_err-short
returns-in_err-short c =
    rw c.from_residual.ensures (sym (read_short (goal.at.returns-in_err-short c).After-code) ∙ c.in_err-short.ensures)

pub returns-then-a-lt224 : goal.returns-then-a-lt224
returns-then-a-lt224 c =
    front_read _ c.in_ok-short.short _ (c.in_ok-short.ensures ∙ read_short (goal.at.returns-then-a-lt224 c).After-code) c.from_u32-then-a-lt224.ensures.value

read : (c : After-code-2) → character c.byte-a.result c.byte-b.result c.byte.result c.byte-2.result ≡ front c.args.s.now
read c = front_bytes _ _ _ _ _ c.byte-a.ensures.0 c.byte-b.ensures.0 c.byte.ensures.0 c.byte-2.ensures.0

pub returns-in_err-code : goal.returns-in_err-code
returns-in_err-code c =
    rw c.from_residual-in_err-code.ensures (sym (read (goal.at.returns-in_err-code c).After-code-2) ∙ c.in_err-code.ensures)

pub returns : goal.returns
returns c =
    front_read _ c.in_ok-code.code _ (c.in_ok-code.ensures ∙ read (goal.at.returns c).After-code-2) c.from_u32-2.ensures.value
