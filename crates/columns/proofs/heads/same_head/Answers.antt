use Rattle.std.proofs.Common.{ap₂, ◌∙◌, eq-eqb}
use Rattle.lists.specs.Lists.{same}
use Rattle.lists.specs.ListsLaws.{same_is}
use Rattle.columns.proofs.heads.same_head.Goals as goal

pub returns-then-c-x : goal.returns-then-c-x
returns-then-c-x c = c.eq.ensures ∙ same_is c.label.result.now c.label-then-c-x.result.now ∙ ap₂ same c.label.ensures c.label-then-c-x.ensures ∙ simp (eq-eqb _ _ c.if-c-x.true)
