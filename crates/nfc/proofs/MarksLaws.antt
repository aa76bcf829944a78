-- What marks and plain characters are and are not.
use Rattle.std.specs.Prelude.{◌≡◌, refl, Bool, true, false, not, ◌&&◌, List, [], ◌∷◌, ℕ, ◌<◌, eqb}
use Rattle.std.proofs.Common.{arith, eqb-true}
use Rattle.std.proofs.lemmas.Bool.{not-true}
use Rattle.lists.specs.TestsLaws.{and_left, and_right, either, clash, refuted}
use Rattle.nfc.specs.Utf8.{within}
use Rattle.nfc.specs.Repertoire.{member, marks, is_mark, plain}
use Rattle.nfc.specs.Decompositions.{Class, class, decompositions, classes}
use Rattle.nfc.specs.Nfc.{class_in, class_of}
use Rattle.nfc.specs.BoundsLaws.{at_least, at_most, inside}
use Rattle.nfc.proofs.PairsLaws.{each, no_whole}

-- a test passes at each character of a list
unfoldable every : (ℕ → Bool) → List ℕ → Bool
every f [] = true
every f (x ∷ xs) = f x && every f xs

at_member : (f : ℕ → Bool) (xs : List ℕ) → every f xs ≡ true → (c : ℕ) → member xs c ≡ true → f c ≡ true
unfolding every member
at_member f [] e c h = absurd (clash h refl)
at_member f (x ∷ xs) e c h =
    either (eqb x c)
    (λ hit. rw (eqb-true x c hit) at (and_left (f x) (every f xs) e))
    (λ miss. at_member f xs (and_right (f x) (every f xs) e) c (rw miss at h))

-- a mark is at U+0300 to U+033F, not plain, and has no decomposition
mark_rule : ℕ → Bool
mark_rule m = within 0x300 0x33F m && (not (plain m) && no_whole m)

marks_ruled : every mark_rule marks ≡ true
unfolding every each decompositions within plain marks mark_rule
marks_ruled = refl

module _ (m : ℕ) (is : is_mark m ≡ true) where
  ruled : mark_rule m ≡ true
  unfolding is_mark
  ruled = at_member mark_rule marks marks_ruled m is

  pub mark_within : within 0x300 0x33F m ≡ true
  unfolding mark_rule
  mark_within = and_left (within 0x300 0x33F m) _ ruled

  rest : (not (plain m) && no_whole m) ≡ true
  unfolding mark_rule
  rest = and_right (within 0x300 0x33F m) _ ruled

  pub mark_not_plain : plain m ≡ false
  mark_not_plain = not-true (plain m) (and_left (not (plain m)) _ rest)

  pub mark_no_whole : no_whole m ≡ true
  mark_no_whole = and_right (not (plain m)) _ rest

pub plain_no_mark : (c : ℕ) → plain c ≡ true → is_mark c ≡ false
plain_no_mark c e = refuted (is_mark c) (λ is. clash e (mark_not_plain c is))

pub plain_small : (c : ℕ) → plain c ≡ true → c < 0x100
unfolding plain
plain_small c e =
    either (within 0x20 0x7E c) (λ p. omega (arith, at_most 0x20 0x7E c p)) λ p. omega (arith, at_most 0xA0 0xFF c (rw p at e))

-- a plain character has class 0: the data lists none
unfoldable each_class : (ℕ → Bool) → List Class → Bool
each_class f [] = true
each_class f (class m k ∷ ks) = f m && each_class f ks

classes_ruled : each_class (λ m. not (plain m)) classes ≡ true
unfolding each_class classes within plain
classes_ruled = refl

unlisted : (c : ℕ) → plain c ≡ true → (ks : List Class) → each_class (λ m. not (plain m)) ks ≡ true → class_in ks c ≡ 0
unfolding each_class class_in
unlisted c p [] e = refl
unlisted c p (class m k ∷ ks) e =
    either (eqb m c)
    (λ hit. absurd (clash p (rw (eqb-true m c hit) at (not-true (plain m) (and_left (not (plain m)) _ e)))))
    (λ miss. rw miss (unlisted c p ks (and_right (not (plain m)) _ e)))

pub plain_class : (c : ℕ) → plain c ≡ true → class_of c ≡ 0
unfolding class_of
plain_class c p = unlisted c p classes classes_ruled

pub ascii_plain : (c : ℕ) → within 0x41 0x7A c ≡ true → plain c ≡ true
unfolding plain
ascii_plain c e = rw (inside 0x20 0x7E c (omega (arith, at_least 0x41 0x7A c e)) (omega (arith, at_most 0x41 0x7A c e)))

pub latin_plain : (c : ℕ) → within 0xC0 0xFF c ≡ true → plain c ≡ true
unfolding plain
latin_plain c e =
    let p = inside 0xA0 0xFF c (omega (arith, at_least 0xC0 0xFF c e)) (at_most 0xC0 0xFF c e) in
    either (within 0x20 0x7E c) (λ q. rw q) λ q. rw (q, p)
