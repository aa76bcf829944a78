use Rattle.std.proofs.Common.{◌≡◌, ◌-◌, ◌+◌, sym, ◌∙◌, arith}
use Rattle.columns.specs.ColumnsLaws.{some_left}
use Rattle.columns.proofs.Comparing.{agree_none, agree_over, agree_step}
use Rattle.columns.proofs.heads.same_heads.Goals as goal
use Rattle.columns.proofs.heads.same_heads.Goals.{Else-none_left}

-- children are left, before a row of each tree
left : (c : Else-none_left) →
    let l = c.loop-k in
    (c.args.count - l.k ≡ c.args.count - (l.k + 1) + 1) × (l.e ≡ 0 → ⊥) × (l.f ≡ 0 → ⊥)
left c =
    let z = some_left (c.args.count - c.loop-k.k) c.loop-k.e c.loop-k.f (sym c.none_left.ensures ∙ c.if-none_left.false) in
    (omega arith, z.1, z.2)

pub returns-then-none_left : goal.returns-then-none_left
returns-then-none_left c = let l = c.loop-k in sym (l.invariant.2 ∙ agree_over _ _ _ l.e l.f (sym c.none_left.ensures ∙ c.if-none_left.true))

pub returns-then-not-same_head : goal.returns-then-not-same_head
returns-then-not-same_head c =
    let l = c.loop-k in
    let z = left (goal.at.returns-then-not-same_head c).Else-none_left in
    sym (l.invariant.2 ∙ agree_step _ _ _ _ l.e l.f z.0 z.1 z.2 ∙ rw (sym c.same_head.ensures ∙ c.if-not-same_head.true))

pub loop-k-preserved : goal.loop-k-preserved
loop-k-preserved c =
    let l = c.loop-k in
    let low = c.args.c.walkable.starts_low in
    let z = left (goal.at.loop-k-preserved c).Else-none_left in (
      omega (arith, z.1, low (l.e - 1) (omega (arith, z.1))),
      omega (arith, z.2, low (l.f - 1) (omega (arith, z.2))),
      l.invariant.2 ∙ agree_step _ _ _ _ l.e l.f z.0 z.1 z.2 ∙ rw (sym c.same_head.ensures ∙ c.if-not-same_head.false),
    )

pub returns : goal.returns
returns c = let l = c.loop-k in sym (l.invariant.2 ∙ agree_none _ _ _ l.e l.f (omega arith))
