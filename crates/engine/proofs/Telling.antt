-- What is told of a stack at the end.
use Rattle.std.specs.Prelude.{ℕ, Bool, true, false, cond, List, [], ◌∷◌, ◌≡◌, refl, Ok, Some, None, is_some, unwrap_or, eqb}
use Rattle.trees.specs.Rules.{no_label}
use Rattle.trees.specs.Rows.{Tag, left}
use Rattle.stack.specs.Areas.{root_of}
use Rattle.engine.specs.Engine.{Judged, judged_seen, told}

pub told_left : (st : List Tag) (b : ℕ) → judged_seen (Ok (record { blocks = b; root = root_of st })) ≡ told (left st b)
unfolding told
told_left [] b = refl
told_left (g ∷ []) b = go (eqb g.kind 0)
  where
    go : (x : Bool) → ◌≡◌ {A = Judged}
        (record { number = 0; place = 0; one = is_some (cond x (Some g.text) None); blocks = b; label = unwrap_or (cond x (Some g.text) None) no_label })
        (record { number = 0; place = 0; one = x; blocks = b; label = cond x g.text no_label })
    go true = refl
    go false = refl
told_left (g ∷ (h ∷ gs)) b = refl
