use Prim.Native.Nat.{ℕ}
use mathlib.Core.Path.{◌≡◌, sym, ap, ◌∙◌}
use mathlib.Core.Bool.{Bool, cond}
use mathlib.Core.List.{List}
use native.Mathlib.Omega.{arith}
use lib.ListN.{length}
use Rattle.outcomes.specs.Refusals.{salt_broken}
use Rattle.trees.specs.Rows.{Tag, node, highest_of, kids, step_of}
use Rattle.titles.specs.Compose.{composed_text}
use Rattle.faults.specs.Waiting.{StackColumns, kind_of, height_of, size_of, greatest, step_fault}
use Rattle.faults.specs.WaitingLaws.{kids_column, columns_long, greatest_is}
use Rattle.faults.specs.Steps.{too_high_lem, by_salt}
use Rattle.faults.proofs.node_fault.Goals as goal
use Rattle.faults.proofs.node_fault.Goals.{After-highest, After-salt_rule}

-- the highest of the last `count`
high : (c : After-highest) → (st : List Tag) → StackColumns st c.args.waiting.kinds.now c.args.waiting.heights.now c.args.waiting.sizes.now
    → c.highest.result ≡ highest_of (kids c.args.count st)
high c st cols =
    let n = columns_long cols in
    c.highest.ensures.0
    ∙ ap greatest (kids_column st c.args.count height_of (length c.args.waiting.kinds.now) n cols.heights_are)
    ∙ greatest_is (kids c.args.count st)

pub returns-then-highest-ge-MAX_HEIGHT : goal.returns-then-highest-ge-MAX_HEIGHT
returns-then-highest-ge-MAX_HEIGHT c = λ H st cols.
    too_high_lem H composed_text st c.args.count (omega (arith, columns_long cols, c.if-depth-count.false))
    (omega (arith, high (goal.at.returns-then-highest-ge-MAX_HEIGHT c).After-highest st cols))

-- both answers of the salt rule
salt :
    (c : After-salt_rule) (st : List Tag) (cols : StackColumns st c.args.waiting.kinds.now c.args.waiting.heights.now c.args.waiting.sizes.now)
    → c.highest.result ≡ highest_of (kids c.args.count st)
    → (H : List ℕ → List ℕ)
    → cond c.salt_rule.result 0 salt_broken ≡ step_fault (step_of H composed_text st (node c.args.count))
salt c st cols is H =
    let d : ℕ = length c.args.waiting.kinds.now in
    let n = columns_long cols in
    by_salt H composed_text st c.args.count (omega arith) c.salt_rule.result (omega arith)
    (c.salt_rule.ensures (kids c.args.count st)
    (kids_column st c.args.count kind_of d n cols.kinds_are)
    (kids_column st c.args.count size_of d n cols.sizes_are))

pub returns-then-not-salt_rule : goal.returns-then-not-salt_rule
returns-then-not-salt_rule c = λ H st cols.
    let at = goal.at.returns-then-not-salt_rule c in
    ap (λ (b : Bool). cond b 0 salt_broken) (sym c.if-not-salt_rule.true) ∙ salt at.After-salt_rule st cols (high at.After-highest st cols) H

pub returns : goal.returns
returns c = λ H st cols.
    let at = goal.at.returns c in
    ap (λ (b : Bool). cond b 0 salt_broken) (sym c.if-not-salt_rule.false) ∙ salt at.After-salt_rule st cols (high at.After-highest st cols) H
