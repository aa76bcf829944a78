-- A refusal of an entry is never 0, so the engine's number tells it from acceptance.
use Rattle.std.specs.Prelude.{ℕ, ◌+◌, Bool, true, false, cond, List, [], ◌∷◌, map, ◌≡◌, refl, ltb, length}
use Rattle.std.proofs.Common.{arith, ne_eqb}
use Rattle.trees.specs.Rules.{max_height, salted, text_fits}
use Rattle.trees.specs.Rows.{Entry, node, tip, Tag, Step, fault, next, Verdict, faulty, left, kids, head_of, highest_of, step_of, onward, judged, verdict}
use Rattle.outcomes.specs.Refusals.{accepted}
use Rattle.codec.specs.Reading.{Reading}
use Rattle.engine.specs.Engine.{told}
use Rattle.slips.specs.Check.{settled}
use Rattle.slips.specs.Opening.{settled_by}

-- a step that refuses does so by a number
abbrev Numbered : Step → Type 0
Numbered (fault k) = k ≡ accepted → ⊥
Numbered (next st c) = Unit {0}

numbered_cond : (b : Bool) (s t : Step) → Numbered s → Numbered t → Numbered (cond b s t)
numbered_cond true s t p q = p
numbered_cond false s t p q = q

abbrev pub Refuses : Verdict → Type 0
Refuses (faulty k i) = k ≡ accepted → ⊥
Refuses (left st b) = Unit {0}

module _ (H : List ℕ → List ℕ) (composed : List ℕ → Bool) where
  step_numbered : (st : List Tag) (e : Entry) → Numbered (step_of H composed st e)
  step_numbered st (node k) =
      numbered_cond (ltb (length st) k) _ _ (λ e. omega arith)
      (numbered_cond (ltb max_height (highest_of (kids k st) + 1)) _ _ (λ e. omega arith)
      (numbered_cond (salted (map head_of (kids k st))) _ _ tt (λ e. omega arith)))
  step_numbered st (tip t v) = numbered_cond (text_fits composed t v) _ _ tt (λ e. omega arith)

  onward_refuses : (s : Step) (i : ℕ) (go : List Tag → ℕ → Verdict) → Numbered s → ((z : List Tag) (c : ℕ) → Refuses (go z c)) → Refuses (onward s i go)
  onward_refuses (fault k) i go p q = p
  onward_refuses (next st c) i go p q = q st c

  judged_refuses : (es : List Entry) (i : ℕ) (st : List Tag) (b : ℕ) → Refuses (judged H composed es i st b)
  judged_refuses [] i st b = tt
  judged_refuses (e ∷ es) i st b =
      onward_refuses (step_of H composed st e) i (λ z c. judged H composed es (i + 1) z (b + c)) (step_numbered st e)
      (λ z c. judged_refuses es (i + 1) z (b + c))

pub verdict_refuses : (H : List ℕ → List ℕ) (composed : List ℕ → Bool) (es : List Entry) → Refuses (verdict H composed es)
verdict_refuses H composed es = judged_refuses H composed es 0 [] 0

settled_as : (n : ℕ) (r : Reading) (v : Verdict) → Refuses v → settled_by n (length r.rows) r.whole r.rest (told v) ≡ settled n r v
unfolding settled_by settled told
settled_as n r (faulty k i) p = rw (ne_eqb k accepted p)
settled_as n r (left st b) p = refl

-- what the engine tells of the verdict settles as the verdict does
pub settled_told : (H : List ℕ → List ℕ) (composed : List ℕ → Bool) (n : ℕ) (r : Reading) (es : List Entry)
    → settled_by n (length r.rows) r.whole r.rest (told (verdict H composed es)) ≡ settled n r (verdict H composed es)
settled_told H composed n r es = settled_as n r (verdict H composed es) (verdict_refuses H composed es)
