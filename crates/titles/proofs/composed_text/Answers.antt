use Rattle.std.proofs.Common.{◌≡◌, refl, sym, ◌∙◌, arith}
use Rattle.nfc.specs.Utf8.{width}
use Rattle.utf8.proofs.Scalars.{same_width}
use Rattle.titles.specs.Compose.{composed_text}
use Rattle.titles.specs.ClustersLaws.{plain_at, not_plain_at, all_plain_end, next_fits}
use Rattle.titles.proofs.composed_text.Goals as goal

pub loop-at-init : goal.loop-at-init
unfolding composed_text
loop-at-init c = (omega arith, refl)

pub returns-in_default : goal.returns-in_default
returns-in_default c =
    let l = c.loop-at in
    sym (l.invariant.1 ∙ not_plain_at c.args.value.now l.at _ c.loop-at-test.true refl c.in_default.ensures.2)

pub loop-at-preserved : goal.loop-at-preserved
loop-at-preserved c =
    let l = c.loop-at in
    let v = c.args.value.now in
    let a = c.in-Ok in
    let wide : c.len_utf8-at.result ≡ width a.c = c.len_utf8-at.ensures.value ∙ sym (same_width a.c) in
    rw wide (
      next_fits v l.at a.c c.loop-at-test.true a.ensures.0 a.ensures.1,
      l.invariant.1 ∙ plain_at v l.at a.c c.loop-at-test.true a.ensures.0 a.ensures.1,
    )

pub returns : goal.returns
returns c =
    sym (c.loop-at.invariant.1 ∙ all_plain_end c.args.value.now c.loop-at.at c.loop-at-test.false)
