use mathlib.Core.Path.{sym, ap, ◌∙◌}
use Rattle.trees.specs.Rows.{Entry, step_of}
use Rattle.titles.specs.Compose.{composed_text}
use Rattle.faults.specs.Waiting.{step_fault}
use Rattle.faults.specs.Steps.{entry_tip}
use Rattle.faults.proofs.fault.Goals as goal

pub returns-then-count-eq0 : goal.returns-then-count-eq0
returns-then-count-eq0 c =
    let a = c.args in
    λ H st cols.
    c.leaf_fault.ensures H st
    ∙ ap (λ (e : Entry). step_fault (step_of H composed_text st e)) (sym (entry_tip a.kind a.count a.value.now c.if-count-eq0.true))
