-- How far the stack grows by an entry of the form that meets no refusal.
use Prim.Native.Nat.{ℕ, zero, suc, ◌+◌, ◌-◌, ◌/◌, ◌≤◌}
use mathlib.Core.Path.{◌≡◌, refl, sym, ap, ◌∙◌}
use mathlib.Core.Bool.{Bool, true, false, not, cond, ◌&&◌, ◌||◌, false≢true}
use mathlib.Core.List.{List, [], ◌∷◌, map}
use native.Mathlib.Omega.{arith}
use lib.Dec.{eqb, leb}
use lib.ListN.{length, length-append, length-take, length-drop}
use borrow.Author.Tests.{eqb-true, eqb-false, eq-eqb, ne_eqb, leb-true, le-ltb, not-true}
use Rattle.lists.specs.TestsLaws.{and_left, and_right, and_both, or_cases}
use Rattle.lists.specs.Lists.{all}
use Rattle.lists.specs.ListsLaws.{all_append, all_take, all_drop}
use Rattle.trees.specs.Nodes.{head_bytes, piece}
use Rattle.outcomes.specs.Refusals.{not_composed}
use Rattle.trees.specs.Rules.{label_bytes, salt_type, salt_bytes, max_value, max_type, max_children, max_height, salt_first, salt_long, salt_there, salted, leaf_fits, text_fits}
use Rattle.trees.specs.Rows.{Entry, node, tip, formed, Tag, head_of, highest_of, kids, below, parent, fault, next, step_of}
use Rattle.sha256.specs.Sha256 as Sha256
use Rattle.sha256.specs.Blocks.{label_long}
use Rattle.faults.specs.Waiting.{step_fault}
use Rattle.stack.specs.Areas.{pieces, cost, after, Sound}
use Rattle.stack.specs.PieceLaws.{length_split, length_more}
use Rattle.faults.specs.Steps.{Kept, kept}

-- a node of type 0 has a whole label: it is internal or dangling
abbrev pub whole : Tag → Bool
whole g = not (eqb g.kind 0) || eqb (length g.text) label_bytes

-- the value bytes of an entry
abbrev pub bytes_of : Entry → ℕ
bytes_of (node k) = 0
bytes_of (tip t v) = length v

-- a whole node of type 0
pub whole_long : (g : Tag) → whole g ≡ true → g.kind ≡ 0 → length g.text ≡ label_bytes
whole_long g w z =
    or_cases (not (eqb g.kind 0)) (eqb (length g.text) label_bytes) w
    (λ n. absurd (false≢true (sym (not-true (eqb g.kind 0) n) ∙ eq-eqb g.kind 0 z)))
    (λ e. eqb-true (length g.text) label_bytes e)

-- children that keep the salt rule have at least a label's bytes: the first is a salt, or of type 0
first_long : (g : Tag) (gs : List Tag) → whole g ≡ true → salted (map head_of (g ∷ gs)) ≡ true → length g.text ≡ label_bytes
first_long g gs w s = go (eqb g.kind salt_type) refl long there
  where
    rules : (salt_first (map head_of (g ∷ gs)) && salt_long (map head_of (g ∷ gs))) ≡ true
    rules = and_left (salt_first (map head_of (g ∷ gs)) && salt_long (map head_of (g ∷ gs))) (salt_there (map head_of (g ∷ gs))) s

    long : (not (eqb g.kind salt_type) || eqb (length g.text) salt_bytes) ≡ true
    long =
        and_left (not (eqb g.kind salt_type) || eqb (length g.text) salt_bytes) (salt_long (map head_of gs))
        (and_right (salt_first (map head_of (g ∷ gs))) (salt_long (map head_of (g ∷ gs))) rules)

    there : (leb g.kind salt_type && all (λ x. leb x.kind salt_type) (map head_of gs) || eqb g.kind salt_type) ≡ true
    there = and_right (salt_first (map head_of (g ∷ gs)) && salt_long (map head_of (g ∷ gs))) (salt_there (map head_of (g ∷ gs))) s

    not_one : (k : ℕ) → k ≤ 1 → (k ≡ 1 → ⊥) → k ≡ 0
    not_one k h n = omega arith

    go : (b : Bool) → eqb g.kind salt_type ≡ b
        → (not b || eqb (length g.text) salt_bytes) ≡ true
        → (leb g.kind salt_type && all (λ x. leb x.kind salt_type) (map head_of gs) || b) ≡ true
        → length g.text ≡ label_bytes
    go true e l t = eqb-true (length g.text) salt_bytes l
    go false e l t =
        let low : leb g.kind salt_type && all (λ x. leb x.kind salt_type) (map head_of gs) ≡ true =
        or_cases (leb g.kind salt_type && all (λ x. leb x.kind salt_type) (map head_of gs)) false t (λ a. a) (λ f. absurd (false≢true f)) in
        let most : g.kind ≤ salt_type = leb-true g.kind salt_type (and_left (leb g.kind salt_type) (all (λ x. leb x.kind salt_type) (map head_of gs)) low) in
        whole_long g w (not_one g.kind most (eqb-false g.kind salt_type e))

kids_long : (gs : List Tag) → 1 ≤ length gs → all whole gs ≡ true → salted (map head_of gs) ≡ true → head_bytes + label_bytes ≤ length (pieces gs)
kids_long [] h w s = absurd (omega arith)
kids_long (g ∷ gs) h w s =
    omega (arith, first_long g gs (and_left (whole g) (all whole gs) w) s, length-append (piece (head_of g)) (pieces gs))

-- a leaf of the form
leaf_whole : (t : ℕ) (v : List ℕ) → leaf_fits t v ≡ true → (not (eqb t 0) || eqb (length v) label_bytes) ≡ true
leaf_whole zero v f = f
leaf_whole (suc t) v f = ap (λ (b : Bool). not b || eqb (length v) label_bytes) (ne_eqb (suc t) 0 (λ q. omega arith))

leaf_small : (t : ℕ) (v : List ℕ) → leaf_fits t v ≡ true → (t ≤ max_type) × (length v ≤ max_value)
leaf_small zero v f = let n : length v ≡ label_bytes = eqb-true (length v) label_bytes f in omega arith
leaf_small (suc t) v f =
    let n : suc t ≤ max_type = leb-true (suc t) max_type (and_left (leb (suc t) max_type) (leb (length v) max_value) f) in
    let m : length v ≤ max_value = leb-true (length v) max_value (and_right (leb (suc t) max_type) (leb (length v) max_value) f) in
    omega arith

-- the stack after any entry
module _ (st : List Tag) where
  pub after_deep : (e : Entry) → length (after Sha256.label st e) ≤ length st + 1
  after_deep (node k) =
      let gs : List Tag = kids k st in
      omega (arith, length-append (below k st) (parent Sha256.label (highest_of gs) (map head_of gs) ∷ []), length-take (length st - k) st)
  after_deep (tip t v) = omega (arith, length-append st (record { kind = t; height = 1; text = v } ∷ []))

  pub after_cost : (e : Entry) → cost st e ≤ (length (pieces st) + 72) / 64
  after_cost (node k) = omega (arith, length_split k st)
  after_cost (tip t v) = omega arith

-- and after one of the form that meets no refusal
module _ (composed : List ℕ → Bool) (st : List Tag) (w : all whole st ≡ true) where
  pub after_whole : (e : Entry) → formed e ≡ true → all whole (after Sha256.label st e) ≡ true
  after_whole (node k) f =
      let gs : List Tag = kids k st in
      let g : Tag = parent Sha256.label (highest_of gs) (map head_of gs) in
      all_append whole (below k st) (g ∷ []) (all_take whole (length st - k) st w)
      (and_both (whole g) true (eq-eqb (length g.text) label_bytes (label_long (pieces gs))) refl)
  after_whole (tip t v) f =
      let g : Tag = record { kind = t; height = 1; text = v } in
      all_append whole st (g ∷ []) w (and_both (whole g) true (leaf_whole t v f) refl)

  pub after_long :
      (e : Entry) → formed e ≡ true → step_fault (step_of Sha256.label composed st e) ≡ 0
      → length (pieces (after Sha256.label st e)) ≤ length (pieces st) + head_bytes + bytes_of e
  after_long (node k) f z =
      let gs : List Tag = kids k st in
      let n : Kept st k = kept Sha256.label composed st k z in
      let some : 1 ≤ k = leb-true 1 k (and_left (leb 1 k) (leb k max_children) f) in
      let m : 1 ≤ length gs = omega (arith, length-drop (length st - k) st) in
      omega (
        arith,
        length_more (below k st) (parent Sha256.label (highest_of gs) (map head_of gs)),
        label_long (pieces gs),
        kids_long gs m (all_drop whole (length st - k) st w) n.salt,
        length_split k st,
      )
  after_long (tip t v) f z = omega (arith, length_more st (record { kind = t; height = 1; text = v }))

  pub entry_sound : (e : Entry) → formed e ≡ true → step_fault (step_of Sha256.label composed st e) ≡ 0 → Sound st e
  entry_sound (node k) f z = let n : Kept st k = kept Sha256.label composed st k z in (n.there, n.low)
  entry_sound (tip t v) f z = let n : (t ≤ max_type) × (length v ≤ max_value) = leaf_small t v f in omega arith

module _ (H : List ℕ → List ℕ) (composed : List ℕ → Bool) (st : List Tag) where
  -- a step that meets no refusal makes the stack after the entry, at the entry's cost
  pub goes_on : (e : Entry) → step_fault (step_of H composed st e) ≡ 0 → step_of H composed st e ≡ next (after H st e) (cost st e)
  goes_on (node k) e =
      let n : Kept st k = kept H composed st k e in
      let low : highest_of (kids k st) + 1 ≤ max_height = omega arith in
      rw (le-ltb (length st) k n.there, le-ltb max_height (highest_of (kids k st) + 1) low, n.salt)
  goes_on (tip t v) e = go (text_fits composed t v) e
    where
      go : (b : Bool) → step_fault (cond b (next (after H st (tip t v)) 0) (fault not_composed)) ≡ 0
          → cond b (next (after H st (tip t v)) 0) (fault not_composed) ≡ next (after H st (tip t v)) 0
      go true f = refl
      go false f = absurd (omega arith)
