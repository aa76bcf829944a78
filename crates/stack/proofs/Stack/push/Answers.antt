use Rattle.std.proofs.Common.{◌<◌, ◌+◌, ◌∙◌, [], ◌∷◌, ◌++◌, length, set, ap, arith}
use Rattle.stack.specs.Areas.{Stacked, Laid}
use Rattle.stack.proofs.Laid.{laid_push, waits, held_is, tags_of_held}
use Rattle.stack.proofs.Stack.push.Given.{Over}
use Rattle.stack.proofs.Stack.push.Goals as goal
use Rattle.stack.proofs.Stack.push.Goals.{After-put-self-inside}

-- the areas hold one node more
pushed : (g : Over) (c : After-put-self-inside g) →
    let a = c.args in
    let s = c.self.inside in
    Laid (a.self.now.held.tags ++ (record { kind = a.kind; height = a.height; text = a.text.now } ∷ [])) (s.depth + 1) c.put-self-inside.result
    (set s.kinds s.depth a.kind) (set s.heights s.depth a.height) (set s.sizes s.depth (length a.text.now)) c.put-self-inside.new.work
pushed g c =
    let a = c.args in
    let s = c.self.inside in
    let l = tags_of_held c.self.view_is c.self.invariant in
    let room : s.depth < g.row.NODES = omega (arith, l.deep, c.requires.room) in
    let kinds : s.depth < length s.kinds = omega arith in
    let heights : s.depth < length s.heights = omega arith in
    let sizes : s.depth < length s.sizes = omega arith in
    laid_push (record { kind = a.kind; height = a.height; text = a.text.now }) l kinds heights sizes c.put-self-inside.ensures.0 c.put-self-inside.ensures.1

pub invariant_of-self : goal.invariant_of-self
invariant_of-self g c = waits (pushed g (goal.at.invariant_of-self g c).After-put-self-inside)

pub returns : goal.returns
returns g c =
    let a = c.args in
    held_is (pushed g (goal.at.returns g c).After-put-self-inside) c.self.inside.blocks
    ∙ ap (λ (x : Stacked). record { tags = a.self.now.held.tags ++ (record { kind = a.kind; height = a.height; text = a.text.now } ∷ []); blocks = x.held.blocks }) c.self.view_is
