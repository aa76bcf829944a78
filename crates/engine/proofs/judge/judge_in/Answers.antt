use Rattle.std.proofs.Common.{◌≡◌, ◌∙◌, ◌≤◌, ◌+◌, ℕ, List, Option, Ok, Err, length, sym, ap, ap₂, subst, arith, rules}
use Rattle.outcomes.specs.declared.numbers.Refused.{Refused}
use Rattle.sha256.specs.Sha256 as Sha256
use Rattle.tables.specs.Tables.{seen}
use Rattle.stack.specs.Areas.{Held, root_of}
use Rattle.engine.specs.declared.judge.Judged.{Judged}
use Rattle.engine.specs.Judging.{JudgeGives}
use Rattle.engine.proofs.Going.{Going, going_start}
use Rattle.engine.proofs.Turns.{value_fits, stopped, ready, going_next, done}
use Rattle.engine.proofs.judge.judge_in.Goals as goal

pub loop-i-init : goal.loop-i-init
loop-i-init g c =
    let a = c.args in
    subst (λ (s : Held). Going (seen a.t) 0 0 s a.labels.now) (sym c.new-bounded.ensures) (going_start (seen a.t) a.labels.now)

pub slice_bounds-value-end : goal.slice_bounds-value-end
slice_bounds-value-end g c =
    let l = c.loop-i in
    let fits : l.at + c.cell.result ≤ length c.args.t.values.now =
    value_fits (seen c.args.t) l.i l.at c.requires.asks l.invariant c.loop-i-test.true c.cell-kind.ensures.0 c.cell-count.ensures.0 c.cell.ensures.0 in
    omega (arith, fits)

pub returns-in-Err : goal.returns-in-Err
returns-in-Err g c =
    let t = seen c.args.t in
    let l = c.loop-i in
    subst (λ (r : Refused). JudgeGives t (Err r) l.labels) (sym c.at.ensures)
    (stopped t l.i l.at c.requires.asks l.invariant c.loop-i-test.true c.cell-kind.ensures.0 c.cell-count.ensures.0 c.cell.ensures.0
    c.in-Err.refusal (c.in-Err.ensures Sha256.label l.bounded.tags (rw (← c.stack.ensures) c.waiting.ensures)))

pub grow-requires : goal.grow-requires
grow-requires g c =
    let l = c.loop-i in
    let asks =
    ready (seen c.args.t) l.i l.at c.requires.asks l.invariant c.loop-i-test.true c.cell-kind.ensures.0 c.cell-count.ensures.0 c.cell.ensures.0
    (c.in_default.ensures Sha256.label l.bounded.tags (rw (← c.stack.ensures) c.waiting.ensures)) l.auto.labels (omega arith) in (search rules, asks.fits)

pub loop-i-preserved : goal.loop-i-preserved
loop-i-preserved g c =
    let l = c.loop-i in
    going_next (seen c.args.t) l.i l.at c.requires.asks l.invariant c.loop-i-test.true c.cell-kind.ensures.0 c.cell-count.ensures.0 c.cell.ensures.0
    (c.in_default.ensures Sha256.label l.bounded.tags (rw (← c.stack.ensures) c.waiting.ensures)) l.auto.labels c.grow.ensures.stack c.grow.ensures.labels

pub returns : goal.returns
returns g c =
    let t = seen c.args.t in
    let l = c.loop-i in
    let told : record { blocks = c.blocks-2.result; root = c.root.result } ≡ record { blocks = l.bounded.blocks; root = root_of l.bounded.tags } =
    ap₂ (λ (b : ℕ) (r : Option (List ℕ)). record { blocks = b; root = r }) c.blocks-2.ensures c.root.ensures
    ∙ ap (λ (s : Held). record { blocks = s.blocks; root = root_of s.tags }) c.stack-stack.ensures in
    subst (λ (j : Judged). JudgeGives t (Ok j) l.labels) (sym told)
    (done t l.i l.at c.requires.asks l.invariant c.loop-i-test.false)
