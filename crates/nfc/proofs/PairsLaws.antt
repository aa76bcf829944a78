-- A rule of a table of pairs, proved at every row by one test that antt computes.
use Rattle.std.specs.Prelude.{◌≡◌, refl, Bool, true, false, cond, not, ◌&&◌, List, [], ◌∷◌, ℕ, eqb, length}
use Rattle.std.proofs.Common.{arith, eqb-true, ne_eqb}
use Rattle.std.proofs.lemmas.Bool.{not-true}
use Rattle.lists.specs.TestsLaws.{and_left, and_right, either, clash}
use Rattle.nfc.specs.Utf8.{within}
use Rattle.nfc.specs.Repertoire.{member, marks, is_mark, plain}
use Rattle.nfc.specs.Pairs.{Pair, pair, found, pairs}
use Rattle.nfc.specs.Decompositions.{decompositions}
use Rattle.nfc.specs.Nfc.{parts, composite}
use Rattle.nfc.specs.Joining.{joined}
use Rattle.nfc.specs.BoundsLaws.{at_least}

-- a test passes at each row: letter, mark, whole
unfoldable pub each : (ℕ → ℕ → ℕ → Bool) → List Pair → Bool
each f [] = true
each f (pair l m w ∷ ps) = f l m w && each f ps

-- what is found is a row
pub at_found :
    (f : ℕ → ℕ → ℕ → Bool) (ps : List Pair)
    → each f ps ≡ true
    → (l m : ℕ)
    → eqb (found ps l m) 0 ≡ false
    → f l m (found ps l m) ≡ true
unfolding each found
at_found f [] e l m some = absurd (clash refl some)
at_found f (pair letter mark whole ∷ ps) e l m some =
    either (eqb mark m && eqb letter l)
    (λ hit.
    let em = eqb-true mark m (and_left (eqb mark m) (eqb letter l) hit) in
    let el = eqb-true letter l (and_right (eqb mark m) (eqb letter l) hit) in
    rw (hit, ← em, ← el) (and_left (f letter mark whole) (each f ps) e))
    (λ miss. rw miss (at_found f ps (and_right (f letter mark whole) (each f ps) e) l m (rw miss at some)))

-- what decomposes is a row
pub at_parts :
    (f : ℕ → ℕ → ℕ → Bool) (ps : List Pair)
    → each f ps ≡ true
    → (c : ℕ)
    → (A : Type 0)
    → (parts ps c ≡ c ∷ [] → A)
    → ((l m : ℕ) → parts ps c ≡ l ∷ m ∷ [] → f l m c ≡ true → A)
    → A
unfolding each parts
at_parts f [] e c A whole split = whole refl
at_parts f (pair l m w ∷ ps) e c A whole split =
    either (eqb w c)
    (λ hit. split l m (rw hit) (rw (eqb-true w c hit) at (and_left (f l m w) (each f ps) e)))
    (λ miss.
    at_parts f ps (and_right (f l m w) (each f ps) e) c A (λ p. whole (rw miss p)) (λ l' m' p q. split l' m' (rw miss p) q))

-- "lies in U+00C0 to U+00FF"
abbrev pub latin : ℕ → Bool
latin w = within 0xC0 0xFF w

-- no pair has the letter x; no decomposition has the whole x
abbrev pub no_letter : ℕ → Bool
no_letter x = each (λ l m w. not (eqb l x)) pairs

abbrev pub no_whole : ℕ → Bool
no_whole x = each (λ l m w. not (eqb w x)) decompositions

-- document 01's rule of the table: a letter and a mark of the repertoire, and Unicode's composition of the two, in U+00C0 to U+00FF; the row
-- is the first of its letter and mark; the letter has no decomposition, and the whole is no pair's letter
unfoldable pub pair_rule : ℕ → ℕ → ℕ → Bool
pair_rule l m w =
    within 0x41 0x7A l && (is_mark m && (latin w && (eqb (composite l m) w && (eqb (joined l m) w && (no_whole l && no_letter w)))))

-- the rule of Unicode's decompositions: no mark comes first and no plain character second, no two are alike, and one in U+00C0 to U+00FF is
-- a pair; any other is no plain character's, and no pair's letter is made by it
unfoldable pub data_rule : ℕ → ℕ → ℕ → Bool
data_rule l m w =
    not (is_mark l)
    && (not (plain m) && (eqb (composite l m) w && cond (latin w) (eqb (joined l m) w) (not (plain w) && no_letter w)))

-- "There are 53 such pairs": each is a decomposition in U+00C0 to U+00FF, and each of these is a pair
pub pairs_ruled : each pair_rule pairs ≡ true
unfolding each found pairs decompositions within member marks is_mark composite joined pair_rule
pairs_ruled = refl

pub data_ruled : each data_rule decompositions ≡ true
unfolding each found pairs decompositions within member marks is_mark plain composite joined data_rule
data_ruled = refl

pub pairs_count : length pairs ≡ 53
unfolding pairs
pairs_count = refl

-- what the rule says of a letter and a mark that join
pub record Joint (l m w : ℕ) : Type 0 where
  pub letter : within 0x41 0x7A l ≡ true
  pub mark : is_mark m ≡ true
  pub whole : latin w ≡ true
  pub made : composite l m ≡ w
  pub same : joined l m ≡ w
  pub apart : no_whole l ≡ true
  pub last : no_letter w ≡ true

ruled : (l m w : ℕ) → pair_rule l m w ≡ true → Joint l m w
unfolding pair_rule
ruled l m w e =
    let e1 = and_right (within 0x41 0x7A l) _ e in
    let e2 = and_right (is_mark m) _ e1 in
    let e3 = and_right (latin w) _ e2 in
    let e4 = and_right (eqb (composite l m) w) _ e3 in
    let e5 = and_right (eqb (joined l m) w) _ e4 in
    record {
      letter = and_left (within 0x41 0x7A l) _ e;
      mark = and_left (is_mark m) _ e1;
      whole = and_left (latin w) _ e2;
      made = eqb-true (composite l m) w (and_left (eqb (composite l m) w) _ e3);
      same = eqb-true (joined l m) w (and_left (eqb (joined l m) w) _ e4);
      apart = and_left (no_whole l) _ e5;
      last = and_right (no_whole l) _ e5;
    }

pub joint : (l m : ℕ) → eqb (joined l m) 0 ≡ false → Joint l m (joined l m)
unfolding joined
joint l m some = ruled l m (found pairs l m) (at_found pair_rule pairs pairs_ruled l m some)

-- what the rule says of two characters that compose
pub record Made (l m w : ℕ) : Type 0 where
  pub first : is_mark l ≡ false
  pub second : plain m ≡ false
  pub made : composite l m ≡ w
  pub within_joined : latin w ≡ true → joined l m ≡ w
  pub outside_plain : latin w ≡ false → plain w ≡ false
  pub outside_last : latin w ≡ false → no_letter w ≡ true

data_told : (l m w : ℕ) → data_rule l m w ≡ true → Made l m w
unfolding data_rule
data_told l m w e =
    let e1 = and_right (not (is_mark l)) _ e in
    let e2 = and_right (not (plain m)) _ e1 in
    let e3 = and_right (eqb (composite l m) w) _ e2 in
    record {
      first = not-true (is_mark l) (and_left (not (is_mark l)) _ e);
      second = not-true (plain m) (and_left (not (plain m)) _ e1);
      made = eqb-true (composite l m) w (and_left (eqb (composite l m) w) _ e2);
      within_joined = λ i. eqb-true (joined l m) w (rw i at e3);
      outside_plain = λ o. not-true (plain w) (and_left (not (plain w)) _ (rw o at e3));
      outside_last = λ o. and_right (not (plain w)) _ (rw o at e3);
    }

pub composed_told : (l m : ℕ) → eqb (composite l m) 0 ≡ false → Made l m (composite l m)
unfolding composite
composed_told l m some = data_told l m (found decompositions l m) (at_found data_rule decompositions data_ruled l m some)

-- "A mark directly after a letter joins it when Unicode's canonical composition of the two lies in U+00C0 to U+00FF", and only then
pub joins_exactly : (l m : ℕ) → joined l m ≡ cond (latin (composite l m)) (composite l m) 0
joins_exactly l m =
    either (latin (composite l m))
    (λ i. rw i ((composed_told l m (latin_some (composite l m) i)).within_joined i))
    (λ o.
    rw o
    (eqb-true (joined l m) 0
    (either (eqb (joined l m) 0) (λ z. z)
    (λ n. let j = joint l m n in absurd (clash (rw (← j.made) at j.whole) o)))))
  where
    latin_some : (w : ℕ) → latin w ≡ true → eqb w 0 ≡ false
    latin_some w i = ne_eqb w 0 (λ z. omega (arith, at_least 0xC0 0xFF w i))

-- a character stays whole, or is taken apart by a row
pub decomposes :
    (c : ℕ) (A : Type 0)
    → (parts decompositions c ≡ c ∷ [] → A)
    → ((l m : ℕ) → parts decompositions c ≡ l ∷ m ∷ [] → Made l m c → A)
    → A
decomposes c A stays splits =
    at_parts data_rule decompositions data_ruled c A stays (λ l m p e. splits l m p (data_told l m c e))

-- a character that is no row's whole stays whole
pub stays : (c : ℕ) (ps : List Pair) → each (λ l m w. not (eqb w c)) ps ≡ true → parts ps c ≡ c ∷ []
unfolding each parts
stays c [] e = refl
stays c (pair l m w ∷ ps) e =
    rw (not-true (eqb w c) (and_left (not (eqb w c)) _ e)) (stays c ps (and_right (not (eqb w c)) _ e))

-- a character that is no row's letter joins nothing
pub joinless : (c m : ℕ) (ps : List Pair) → each (λ l m w. not (eqb l c)) ps ≡ true → found ps c m ≡ 0
unfolding each found
joinless c m [] e = refl
joinless c m (pair letter mark whole ∷ ps) e =
    let off = not-true (eqb letter c) (and_left (not (eqb letter c)) _ e) in
    either (eqb mark m)
    (λ p. rw (p, off) (joinless c m ps (and_right (not (eqb letter c)) _ e)))
    (λ p. rw p (joinless c m ps (and_right (not (eqb letter c)) _ e)))
