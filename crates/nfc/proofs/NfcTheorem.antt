-- The composer against NFC: it accepts exactly the texts of the repertoire whose NFC is composed text, and then gives their NFC.
use Rattle.std.specs.Prelude.{◌≡◌, refl, true, ◌&&◌, List, ℕ}
use Rattle.std.proofs.Common.{sym, ◌∙◌, subst}
use Rattle.lists.specs.TestsLaws.{and_right, and_both, same_test}
use Rattle.nfc.specs.Repertoire.{is_mark, plain, all_plain, in_repertoire, all_in}
use Rattle.nfc.specs.Nfc.{decomposed, ordered, composed_from, nfc}
use Rattle.nfc.specs.Joining.{accepts, composed}
use Rattle.nfc.proofs.MarksLaws.{mark_not_plain}
use Rattle.nfc.proofs.Composition.{Composes, done, stay, join, letter_plain, joins_mark, accepts_composes, composes_accepts, composes_composed, composes_plain, plain_composes}
use Rattle.nfc.proofs.DecompositionLaws.{decomposed_composes, composes_decomposed}
use Rattle.nfc.proofs.OrderLaws.{ordered_same, composes_apart, apart_ordered}
use Rattle.nfc.proofs.CompositionLaws.{from_composes, composes_from}

-- the NFC of a text that composes is what it composes to
composes_nfc : {cs os : List ℕ} → Composes cs os → nfc cs ≡ os
unfolding nfc
composes_nfc {cs} h =
    let d = decomposed_composes h in
    rw (apart_ordered (decomposed cs) (composes_apart d)) (from_composes d)

-- a text whose NFC is plain composes to that
nfc_composes : (cs : List ℕ) → all_plain (nfc cs) ≡ true → Composes cs (nfc cs)
unfolding nfc
nfc_composes cs e =
    let h = composes_from (ordered (decomposed cs)) e in
    let same = ordered_same (decomposed cs) (composes_apart h) in
    composes_decomposed cs (subst (λ (ds : List ℕ). Composes ds (composed_from (ordered (decomposed cs)))) same h)

plain_in : (c : ℕ) → plain c ≡ true → in_repertoire c ≡ true
unfolding in_repertoire
plain_in c p = rw p

pub mark_in : (m : ℕ) → is_mark m ≡ true → in_repertoire m ≡ true
unfolding in_repertoire
mark_in m k = rw (mark_not_plain m k, k)

-- a text that composes is one of the repertoire
composes_in : {cs os : List ℕ} → Composes cs os → all_in cs ≡ true
unfolding all_in
composes_in done = refl
composes_in (stay {c} p h) = and_both _ _ (plain_in c p) (composes_in h)
composes_in (join {l} {m} {w} e n h) =
    and_both _ _ (plain_in l (letter_plain l m w e n)) (and_both _ _ (mark_in m (joins_mark l m w e n)) (composes_in h))

-- lengths aside, a text is accepted exactly when all its characters are in the repertoire, where `nfc` is Unicode's, and its NFC is composed
-- text. (U+212B has a plain NFC by Unicode's data, and is outside the repertoire.)
pub accepts_nfc : (cs : List ℕ) → accepts cs ≡ (all_in cs && all_plain (nfc cs))
accepts_nfc cs =
    same_test (accepts cs) (all_in cs && all_plain (nfc cs))
    (λ e. let h = accepts_composes cs e in and_both _ _ (composes_in h) (rw (composes_nfc h) (composes_plain h)))
    (λ e. composes_accepts (nfc_composes cs (and_right (all_in cs) _ e)))

pub accepts_in : (cs : List ℕ) → accepts cs ≡ true → all_in cs ≡ true
accepts_in cs e = composes_in (accepts_composes cs e)

-- and then the composer gives its NFC
pub nfc_composed : (cs : List ℕ) → accepts cs ≡ true → nfc cs ≡ composed cs
nfc_composed cs e = composes_nfc (accepts_composes cs e)

-- two texts of the repertoire of equal NFC get the same acceptance
pub equal_accepts : (xs ys : List ℕ) → all_in xs ≡ true → all_in ys ≡ true → nfc xs ≡ nfc ys → accepts xs ≡ accepts ys
equal_accepts xs ys x y e = rw (accepts_nfc xs, accepts_nfc ys, x, y, e)

-- and, where accepted, the same characters
pub equal_composed :
    (xs ys : List ℕ) → all_in ys ≡ true → nfc xs ≡ nfc ys → accepts xs ≡ true → (accepts ys ≡ true) × (composed xs ≡ composed ys)
equal_composed xs ys y e a =
    let b = sym (equal_accepts xs ys (accepts_in xs a) y e) ∙ a in
    (b, sym (nfc_composed xs a) ∙ e ∙ nfc_composed ys b)

-- what the composer gives is plain
pub composed_plain : (cs : List ℕ) → accepts cs ≡ true → all_plain (composed cs) ≡ true
composed_plain cs e = composes_plain (accepts_composes cs e)

-- a plain text is accepted as it is
pub plain_accepts : (cs : List ℕ) → all_plain cs ≡ true → accepts cs ≡ true
plain_accepts cs e = composes_accepts (plain_composes cs e)

-- and is its own NFC
pub plain_nfc : (cs : List ℕ) → all_plain cs ≡ true → nfc cs ≡ cs
plain_nfc cs e = composes_nfc (plain_composes cs e)

pub plain_composed : (cs : List ℕ) → all_plain cs ≡ true → composed cs ≡ cs
plain_composed cs e = composes_composed (plain_composes cs e)
