use Rattle.std.proofs.Common.{◌≡◌, ◌≤◌, ◌+◌, ◌-◌, ◌*◌, ◌∙◌, ℕ, List, [], ◌∷◌, ◌++◌, length, map, sym, ap, ap₂, subst, arith, rules, length-take}
use Rattle.std.proofs.lemmas.Slice.{put_mid-paste}
use Rattle.sha256.specs.Sha256 as Sha256
use Rattle.sha256.specs.Blocks.{label_long}
use Rattle.trees.specs.Nodes.{blocks_of}
use Rattle.trees.specs.Rules.{label_bytes}
use Rattle.trees.specs.Rows.{Tag, head_of, highest_of, kids, below, parent}
use Rattle.stack.specs.Areas.{Held, Stacked, Laid, PushAsks, pieces}
use Rattle.stack.specs.PieceLaws.{length_more}
use Rattle.stack.proofs.Laid.{tags_of_held, held_is, waits, kids_fit, laid_below, top_in}
use Rattle.stack.proofs.Stack.hash.Given.{Over}
use Rattle.stack.proofs.Stack.hash.Goals as goal
use Rattle.stack.proofs.Stack.hash.Goals.{After-parent_of-parent}

there : (g : Over) (c : After-parent_of-parent g) → c.args.count ≤ c.self.inside.depth
there g c = omega (arith, c.requires.fits.sound.0, (tags_of_held c.self.view_is c.self.invariant).deep)

fits : (g : Over) (c : After-parent_of-parent g) → c.parent_of-parent.result.long ≤ c.self.inside.top
fits g c = omega (arith, c.parent_of-parent.ensures.long, kids_fit (tags_of_held c.self.view_is c.self.invariant) c.args.count (there g c))

-- those below the last `count` lie in the areas
left : (g : Over) (c : After-parent_of-parent g) →
    let s = c.self.inside in
    Laid (below c.args.count c.args.self.now.held.tags) (s.depth - c.args.count) (s.top - c.parent_of-parent.result.long) s.kinds s.heights s.sizes s.work
left g c = laid_below (tags_of_held c.self.view_is c.self.invariant) c.args.count (there g c) _ c.parent_of-parent.ensures.long

-- and there is room for their parent
room : (g : Over) (c : After-parent_of-parent g) (b : ℕ) →
    let p = c.parent_of-parent.result in
    PushAsks g.row.NODES g.row.WORK (record { tags = below c.args.count c.args.self.now.held.tags; blocks = b }) 0 p.height p.label
room g c b =
    let st = c.args.self.now.held.tags in
    let gs : List Tag = kids c.args.count st in
    let p = c.parent_of-parent.ensures in
    let l = tags_of_held c.self.view_is c.self.invariant in
    let long : length c.parent_of-parent.result.label ≡ label_bytes = ap length p.label ∙ label_long (pieces gs) in
    record {
      kind_fits = omega arith;
      height_fits = omega (arith, p.height, c.requires.fits.sound.1);
      text_fits = omega arith;
      room = omega (arith, c.requires.fits.room, length-take (length st - c.args.count) st);
      work_room =
          omega (
            arith,
            c.requires.fits.work_room,
            length_more (below c.args.count st) (parent Sha256.label (highest_of gs) (map head_of gs)),
            label_long (pieces gs),
          );
    }

pub overflow_sub-self-2 : goal.overflow_sub-self-2
overflow_sub-self-2 g c = fits g (goal.at.overflow_sub-self-2 g c).After-parent_of-parent

pub blocks-requires : goal.blocks-requires
blocks-requires g c =
    omega (arith, fits g (goal.at.blocks-requires g c).After-parent_of-parent, top_in c.self.invariant.laid, c.requires.small)

pub invariant_of-self : goal.invariant_of-self
invariant_of-self g c = waits (left g (goal.at.invariant_of-self g c).After-parent_of-parent)

pub push-requires : goal.push-requires
push-requires g c =
    let at = (goal.at.push-requires g c).After-parent_of-parent in
    let p = c.parent_of-parent.result in (
      search rules,
      subst (λ (s : Held). PushAsks g.row.NODES g.row.WORK s 0 p.height p.label) (sym (held_is (left g at) (c.self.inside.blocks + c.blocks-2.result)))
          (room g at (c.self.inside.blocks + c.blocks-2.result)),
    )

pub returns-clause-stack : goal.returns-clause-stack
returns-clause-stack g c =
    let at = (goal.at.returns-clause-stack g c).After-parent_of-parent in
    let p = c.parent_of-parent in
    let st = c.args.self.now.held.tags in
    let gs : List Tag = kids c.args.count st in
    let tag : Tag = record { kind = 0; height = p.result.height; text = p.result.label } in
    c.push.ensures
    ∙ ap (λ (s : Held). record { tags = s.tags ++ (tag ∷ []); blocks = s.blocks }) (held_is (left g at) (c.self.inside.blocks + c.blocks-2.result))
    ∙ ap₂ (λ (x : Tag) (b : ℕ). record { tags = below c.args.count st ++ (x ∷ []); blocks = b })
    (ap₂ (λ (h : ℕ) (x : List ℕ). record { kind = 0; height = h; text = x }) p.ensures.height p.ensures.label)
    (ap₂ (λ (m n : ℕ). m + n) (ap (λ (x : Stacked). x.held.blocks) c.self.view_is) (c.blocks-2.ensures ∙ ap blocks_of p.ensures.long))

pub returns-clause-labels : goal.returns-clause-labels
returns-clause-labels g c =
    let at : ℕ = label_bytes * c.args.i in
    let text : List ℕ = Sha256.label (pieces (kids c.args.count c.args.self.now.held.tags)) in
    put_mid-paste at (at + label_bytes - at) c.args.labels.now c.copy_from_slice.new.self text label_bytes
    (c.copy_from_slice.ensures.after ∙ c.parent_of-parent.ensures.label) (omega arith) (sym (label_long (pieces (kids c.args.count c.args.self.now.held.tags))))
