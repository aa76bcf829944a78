use Prim.Native.Nat.{ℕ, ◌+◌, ◌-◌, ◌*◌, ◌≤◌}
use mathlib.Core.Bool.{Bool}
use mathlib.Core.Path.{◌≡◌, refl, sym, ap, ap₂, ◌∙◌, subst}
use native.Mathlib.Omega.{arith}
use lib.Dec.{ltb}
use lib.ListN.{length, length-set}
use Rattle.tables.specs.PruningList.{named}
use Rattle.prune_rows.specs.Marks.{mark_by, owed_by}
use Rattle.prune_rows.specs.Steps.{Before}
use Rattle.tables.proofs.ListRule.{clean_rule}
use Rattle.prune_rows.proofs.Naming.{before_all}
use Rattle.prune_rows.proofs.Marking.{Walked, walked_none, walked_more, owed_low}
use Rattle.prune_rows.proofs.marks.mark_rows.Goals as goal

pub loop-i-init : goal.loop-i-init
loop-i-init g c = (
  refl,
  omega arith,
  before_all c.args.counts.now c.args.list.now c.requires.2,
  walked_none g.M.Marking.made (named c.args.list.now) c.args.counts.now c.args.marks.now,
)

pub loop-i-preserved : goal.loop-i-preserved
loop-i-preserved g c =
    let a = c.args in
    let l = c.loop-i in
    let j : ℕ = l.i - 1 in
    let here : j + 1 ≡ l.i = omega (arith, c.loop-i-test.true) in
    let b = c.before-first.ensures (clean_rule a.counts.now a.list.now c.requires.2).0
    (subst (λ (x : ℕ). Before a.list.now x l.k) (sym here) l.invariant.2) in
    let low : owed_by (ltb c.before-first.result l.k) c.cell.result l.owed ≤ 65535 * (length a.counts.now - l.i) + 65535 =
    owed_low (ltb c.before-first.result l.k) c.cell.result l.owed (65535 * (length a.counts.now - l.i)) c.cell.ensures.1 l.invariant.1 in
    let owed : c.fate_of-f.result.owed ≤ 65535 * (length a.counts.now - j) = omega (arith, c.fate_of-f.ensures.1, low, here) in (
      length-set l.marks j c.of.result ∙ l.invariant.0,
      owed,
      b.0,
      walked_more g.M.Marking.made (named a.list.now) a.counts.now l.marks j c.of.result l.owed c.fate_of-f.result.owed
          (omega arith) (omega arith)
          (subst (λ (x : ℕ). Walked g.M.Marking.made (named a.list.now) a.counts.now l.marks x l.owed) (sym here) l.invariant.3)
          (c.of.ensures ∙ ap g.M.Marking.made (c.fate_of-f.ensures.0 ∙ ap (λ (t : Bool). mark_by t l.owed) b.1))
          (c.fate_of-f.ensures.1 ∙ ap₂ (λ (t : Bool) (n : ℕ). owed_by t n l.owed) b.1 c.cell.ensures.0),
    )
