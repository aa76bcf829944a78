use Rattle.std.proofs.Common.{sym, ap, ◌∙◌, ℕ}
use Rattle.outcomes.specs.Refusals.{accepted}
use Rattle.slips.specs.HeaderLaws.{header_long, header_short, header_edition, header_none, header_counted}
use Rattle.slips.proofs.header.header_of.Goals as goal

pub returns-then-s-gt-MAX_BYTES : goal.returns-then-s-gt-MAX_BYTES
returns-then-s-gt-MAX_BYTES c = header_long _ c.if-s-gt-MAX_BYTES.true

pub returns-then-s : goal.returns-then-s
returns-then-s c = header_short _ c.if-s-gt-MAX_BYTES.false c.if-s.true

pub returns-then-bits-ne-EDITION : goal.returns-then-bits-ne-EDITION
returns-then-bits-ne-EDITION c =
    header_edition _ c.if-s-gt-MAX_BYTES.false c.if-s.false (λ e. c.if-bits-ne-EDITION.true (c.bits.ensures.value ∙ e))

pub returns-then-count-eq0 : goal.returns-then-count-eq0
returns-then-count-eq0 c =
    header_none _ c.if-s-gt-MAX_BYTES.false c.if-s.false (sym c.bits.ensures.value ∙ c.if-bits-ne-EDITION.false)
    (sym c.bits-count.ensures.value ∙ c.if-count-eq0.true)

pub returns : goal.returns
returns c =
    ap (λ (n : ℕ). record { number = accepted; count = n }) c.bits-count.ensures.value
    ∙ header_counted _ c.if-s-gt-MAX_BYTES.false c.if-s.false (sym c.bits.ensures.value ∙ c.if-bits-ne-EDITION.false)
    (λ e. c.if-count-eq0.false (c.bits-count.ensures.value ∙ e))
