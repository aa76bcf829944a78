-- The salt rule as it is computed, over the types and label lengths of the children.
use Prim.Native.Nat.{ℕ, ◌≤◌, ◌<◌}
use mathlib.Core.Path.{◌≡◌, refl, ap, ap₂, ◌∙◌}
use mathlib.Core.Bool.{Bool, true, false, not, ◌&&◌, ◌||◌, false≢true}
use mathlib.Core.List.{List, [], ◌∷◌, map}
use native.Mathlib.Nat.{le_of_eq}
use native.Mathlib.Omega.{arith}
use borrow.Author.Tests.{eqb-true, eq-eqb, ne_eqb, le-leb, lt-leb}
use lib.Dec.{eqb, leb}
use lib.ListN.{length, drop, get_or}
use Rattle.std.specs.List.{list_all}
use Rattle.lists.specs.Lists.{all}
use Rattle.trees.specs.Nodes.{Head}
use Rattle.trees.specs.Rules.{salt_type, salt_bytes, is_salt, salt_long, salted}
use Rattle.trees.specs.Rows.{Tag, head_of}
use Rattle.faults.specs.Waiting.{kind_of, size_of}

-- the types of the children behind the first: none is a salt, and without a salt before them none is above it
abbrev pub later : Bool → List ℕ → Bool
later salt ks = list_all (λ k. not (eqb k salt_type) && (salt || leb k salt_type)) ks

-- the rule: a first salt is of its length, those behind it keep theirs, and the first is a salt or of type 0
unfoldable pub keeps : List ℕ → List ℕ → Bool
keeps kinds sizes =
    (not (eqb (get_or kinds 0 0) salt_type) || eqb (get_or sizes 0 0) salt_bytes)
    && later (eqb (get_or kinds 0 0) salt_type) (drop 1 kinds)
    && leb (get_or kinds 0 0) salt_type

-- none of these children is a salt
abbrev none : List Head → Bool
none hs = all (λ x. not (is_salt x)) hs

-- none is of a type above it
abbrev low : List Head → Bool
low hs = all (λ x. leb x.kind salt_type) hs

one_more : (a b c d : Bool) → a && b && (c && d) ≡ a && c && (b && d)
one_more true true c d = refl
one_more true false true d = refl
one_more true false false d = refl
one_more false b c d = refl

later_salt : (gs : List Tag) → later true (map kind_of gs) ≡ none (map head_of gs)
later_salt [] = refl
later_salt (g ∷ gs) = go (not (eqb g.kind salt_type)) (later_salt gs)
  where
    go : (a : Bool) {x y : Bool} → x ≡ y → a && true && x ≡ a && y
    go true e = e
    go false e = refl

later_bare : (gs : List Tag) → later false (map kind_of gs) ≡ none (map head_of gs) && low (map head_of gs)
later_bare [] = refl
later_bare (g ∷ gs) =
    ap (λ (b : Bool). not (eqb g.kind salt_type) && leb g.kind salt_type && b) (later_bare gs)
    ∙ one_more (not (eqb g.kind salt_type)) (leb g.kind salt_type) (none (map head_of gs)) (low (map head_of gs))

-- where none is a salt, none has the wrong length
none_long : (hs : List Head) → none hs && salt_long hs ≡ none hs
none_long [] = refl
none_long (h ∷ hs) = go (is_salt h) (none hs) (salt_long hs) (none_long hs)
  where
    go : (a x y : Bool) → x && y ≡ x → not a && x && ((not a || eqb (length h.text) salt_bytes) && y) ≡ not a && x
    go true x y e = refl
    go false true y e = e
    go false false y e = refl

-- the two cases, over the tests' answers: no salt behind, their lengths, none above a salt
behind_salt : (b none long low : Bool) → none && long ≡ none → b && none && true ≡ none && (b && long) && (low || true)
behind_salt true true true true e = refl
behind_salt true true true false e = refl
behind_salt true true false low e = absurd (false≢true e)
behind_salt true false long low e = refl
behind_salt false true long low e = refl
behind_salt false false long low e = refl

bare : (none long low l : Bool) → none && long ≡ none → none && low && l ≡ none && long && (l && low || false)
bare true true true true e = refl
bare true true true false e = refl
bare true true false true e = refl
bare true true false false e = refl
bare true false low l e = absurd (false≢true e)
bare false long low l e = refl

-- what is computed is the rule
salted_is : (g : Tag) (gs : List Tag) → keeps (map kind_of (g ∷ gs)) (map size_of (g ∷ gs)) ≡ salted (map head_of (g ∷ gs))
unfolding keeps
salted_is g gs =
    go (eqb g.kind salt_type) (eqb (length g.text) salt_bytes) (leb g.kind salt_type)
    (λ e. le-leb g.kind salt_type (le_of_eq (eqb-true g.kind salt_type e)))
  where
    go : (a b l : Bool) → (a ≡ true → l ≡ true)
        → (not a || b) && later a (map kind_of gs) && l
        ≡ none (map head_of gs) && ((not a || b) && salt_long (map head_of gs)) && (l && low (map head_of gs) || a)
    go true b true s =
        ap (λ (x : Bool). b && x && true) (later_salt gs)
        ∙ behind_salt b (none (map head_of gs)) (salt_long (map head_of gs)) (low (map head_of gs)) (none_long (map head_of gs))
    go true b false s = absurd (false≢true (s refl))
    go false b l s =
        ap (λ (x : Bool). x && l) (later_bare gs)
        ∙ bare (none (map head_of gs)) (salt_long (map head_of gs)) (low (map head_of gs)) l (none_long (map head_of gs))

-- over any columns that hold the children's
pub keeps_salted :
    {kinds sizes : List ℕ} (gs : List Tag)
    → 0 < length kinds
    → kinds ≡ map kind_of gs
    → sizes ≡ map size_of gs
    → keeps kinds sizes ≡ salted (map head_of gs)
keeps_salted [] h p q = absurd (omega (arith, ap length p))
keeps_salted (g ∷ gs) h p q = ap₂ keeps p q ∙ salted_is g gs

-- the first child
module _ (kinds sizes : List ℕ) {first size : ℕ} (f : first ≡ get_or kinds 0 0) (s : size ≡ get_or sizes 0 0) where
  pub short_salt : first ≡ salt_type → eqb size salt_bytes ≡ false → keeps kinds sizes ≡ false
  unfolding keeps
  short_salt e n = rw (← f, ← s, eq-eqb first salt_type e, n)

  pub whole_salt : first ≡ salt_type → eqb size salt_bytes ≡ true → keeps kinds sizes ≡ later (eqb first salt_type) (drop 1 kinds) && leb first salt_type
  unfolding keeps
  whole_salt e n = rw (← f, ← s, eq-eqb first salt_type e, n)

pub no_salt : (kinds sizes : List ℕ) {first : ℕ} → first ≡ get_or kinds 0 0 → (first ≡ salt_type → ⊥)
    → keeps kinds sizes ≡ later (eqb first salt_type) (drop 1 kinds) && leb first salt_type
unfolding keeps
no_salt kinds sizes {first} f n = rw (← f, ne_eqb first salt_type n)

-- by the first child's type
pub kept : (b : Bool) (first : ℕ) → first ≤ salt_type → (b && leb first salt_type) ≡ b
kept true first h = le-leb first salt_type h
kept false first h = refl

pub not_kept : (b : Bool) (first : ℕ) → salt_type < first → (b && leb first salt_type) ≡ false
not_kept true first h = lt-leb first salt_type h
not_kept false first h = refl
