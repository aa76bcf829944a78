use Rattle.std.proofs.Common.{◌≡◌, ℕ, ◌-◌, ◌+◌, sym, ap, ◌∙◌, arith}
use Rattle.columns.specs.Columns.{back}
use Rattle.columns.proofs.Surveying.{back_stop, back_done, back_step}
use Rattle.columns.proofs.survey.first_row.Goals as goal

pub returns-then-at-eq0 : goal.returns-then-at-eq0
returns-then-at-eq0 c =
    let l = c.loop-k in
    let s = c.args.starts.now in
    let k = c.args.count - l._k in
    (sym (l.invariant.1 ∙ ap (back s k) c.if-at-eq0.true ∙ back_stop s k), omega arith)

pub loop-k-preserved : goal.loop-k-preserved
loop-k-preserved c =
    let l = c.loop-k in
    let s = c.args.starts.now in
    let more : c.args.count - l._k ≡ c.args.count - (l._k + 1) + 1 = omega arith in (
      omega (arith, c.requires.1 (l.at - 1) (omega arith)),
      l.invariant.1 ∙ back_step s _ _ l.at more c.if-at-eq0.false,
    )

pub returns : goal.returns
returns c =
    let l = c.loop-k in
    let s = c.args.starts.now in
    let none : c.args.count - l._k ≡ 0 = omega arith in
    (sym (l.invariant.1 ∙ ap (λ (k : ℕ). back s k l.at) none ∙ back_done s l.at), omega arith)
