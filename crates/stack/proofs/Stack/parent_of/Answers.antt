use Rattle.std.proofs.Common.{◌≡◌, ◌≤◌, ◌+◌, ◌*◌, ◌∙◌, ℕ, length, ap, arith}
use Rattle.sha256.specs.Sha256 as Sha256
use Rattle.trees.specs.Nodes.{head_bytes}
use Rattle.trees.specs.Rows.{kids}
use Rattle.stack.specs.Areas.{pieces}
use Rattle.stack.proofs.Laid.{tags_of_held, kids_highest, kids_bytes, kids_fit, kids_prelabel, top_in}
use Rattle.stack.proofs.Stack.parent_of.Given.{Over}
use Rattle.stack.proofs.Stack.parent_of.Goals as goal
use Rattle.stack.proofs.Stack.parent_of.Goals.{After-sum}

there : (g : Over) (c : After-sum g) → c.args.count ≤ c.self.inside.depth
there g c = omega (arith, c.requires.0, (tags_of_held c.self.view_is c.self.invariant).deep)

-- the bytes that they take at the area's end
long_is : (g : Over) (c : After-sum g) → c.sum.result + head_bytes * c.args.count ≡ length (pieces (kids c.args.count c.args.self.now.held.tags))
long_is g c =
    ap (λ (n : ℕ). n + head_bytes * c.args.count) c.sum.ensures
    ∙ kids_bytes (tags_of_held c.self.view_is c.self.invariant) c.args.count (there g c) c.waiting-waiting.ensures.sizes_are

fits : (g : Over) (c : After-sum g) → c.sum.result + head_bytes * c.args.count ≤ c.self.inside.top
fits g c = omega (arith, long_is g c, kids_fit (tags_of_held c.self.view_is c.self.invariant) c.args.count (there g c))

pub overflow_add-long : goal.overflow_add-long
overflow_add-long g c = omega (arith, fits g c, top_in c.self.invariant.laid, c.requires.2)

pub overflow_sub-self-inside : goal.overflow_sub-self-inside
overflow_sub-self-inside g c = fits g (goal.at.overflow_sub-self-inside g c).After-sum

pub returns : goal.returns
returns g c =
    let s = (goal.at.returns g c).After-sum in
    let l = tags_of_held c.self.view_is c.self.invariant in
    record {
      height = ap (λ (n : ℕ). n + 1) (c.highest-height.ensures.0 ∙ kids_highest l c.args.count (there g s) c.waiting-waiting.ensures.heights_are);
      long = long_is g s;
      label = c.label.ensures ∙ ap Sha256.label (kids_prelabel l c.args.count (there g s) _ (long_is g s));
    }
