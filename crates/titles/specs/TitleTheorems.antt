-- The promises of document 01 on titles, in bytes.
use Rattle.std.specs.Prelude.{◌≡◌, refl, true, List, [], ◌∷◌, ◌++◌, ℕ, ◌≤◌, ltb, eqb, length, take, drop}
use Rattle.std.proofs.Common.{sym, ◌∙◌, ap, arith, length-append, take_at, le-ltb, lt-ltb, ltb-false, eqb-true}
use Rattle.std.proofs.Math.Seq.{take-append_seam}
use Rattle.std.proofs.lemmas.Bool.{eqb-false}
use Rattle.lists.specs.TestsLaws.{and_left, and_right, and_both, either}
use Rattle.outcomes.specs.Refusals.{accepted}
use Rattle.titles.specs.declared.composed.Composed.{Composed}
use Rattle.nfc.specs.Utf8.{scalar, scalars, width, encode, encodes, decode}
use Rattle.nfc.specs.Repertoire.{is_mark, plain, all_plain, all_in}
use Rattle.nfc.specs.Nfc.{nfc}
use Rattle.nfc.specs.Joining.{joined, accepts, composed}
use Rattle.outcomes.specs.Outcome.{Output, Leaves}
use Rattle.titles.specs.Compose.{text, accepted_with, compose_of, composed_text, max_title}
use Rattle.nfc.specs.BoundsLaws.{at_least, at_most, width_2}
use Rattle.nfc.proofs.DecodingLaws.{decode_encodes, encodes_decode, length_encode}
use Rattle.nfc.proofs.PairsLaws.{joint}
use Rattle.nfc.proofs.MarksLaws.{mark_within, plain_small}
use Rattle.titles.specs.ComposeLaws.{long, refused, short, taken, judged_accepts, refused_length}
use Rattle.nfc.proofs.Composition.{Composes, done, stay, join, letter_plain, joins_mark, accepts_composes}
use Rattle.nfc.proofs.NfcTheorem.{accepts_nfc, nfc_composed, equal_composed, composed_plain, plain_accepts, plain_composed}

-- an outcome with number 0 is an acceptance of all characters, with room
pub record AcceptedTitle (title out : List ℕ) : Type 0 where
  pub under : length title ≤ max_title
  pub all : accepts (decode title) ≡ true
  pub room : length (text title) ≤ length out
  pub whole : compose_of title out ≡ accepted_with (text title) out

pub was_taken : (title out : List ℕ) → (compose_of title out).answer.number ≡ accepted → AcceptedTitle title out
was_taken title out z =
    either (ltb max_title (length title))
    (λ p. absurd (omega (arith, ap (λ (o : Output Composed). o.answer.number) (long title out p))))
    (λ p.
    let all =
    either (accepts (decode title)) (λ q. q)
    (λ q. judged_accepts title (sym (ap (λ (o : Output Composed). o.answer.number) (refused title _ out p q refl)) ∙ z))
    in
    let room =
    either (ltb (length out) (length (text title)))
    (λ q. absurd (omega (arith, ap (λ (o : Output Composed). o.answer.number) (short title out p all q))))
    (λ q. ltb-false (length out) (length (text title)) q)
    in
    record {
      under = ltb-false max_title (length title) p;
      all = all;
      room = room;
      whole = taken title (text title) out p all refl room;
    })

-- "A refusal .. writes nothing", and its length is 0
pub refused_nothing :
    (title out : List ℕ)
    → ((compose_of title out).answer.number ≡ accepted → ⊥)
    → ((compose_of title out).left ≡ out) × ((compose_of title out).answer.length ≡ 0)
refused_nothing title out some =
    either (ltb max_title (length title))
    (λ p. rw (long title out p) (refl, refl))
    (λ p.
    either (accepts (decode title))
    (λ a.
    either (ltb (length out) (length (text title)))
    (λ q. rw (short title out p a q) (refl, refl))
    (λ q.
    let t = taken title (text title) out p a refl (ltb-false (length out) (length (text title)) q) in
    absurd (some (rw t refl))))
    (λ a. rw (refused title _ out p a refl) (refl, refused_length title a)))

-- a title's characters are scalar values where all are taken
pub plain_scalar : (c : ℕ) → plain c ≡ true → scalar c ≡ true
unfolding scalar
plain_scalar c p = rw (lt-ltb c 0xD800 (omega (arith, plain_small c p)))

pub mark_scalar : (m : ℕ) → is_mark m ≡ true → scalar m ≡ true
unfolding scalar
mark_scalar m k = rw (lt-ltb m 0xD800 (omega (arith, at_most 0x300 0x33F m (mark_within m k))))

composes_scalars : {cs os : List ℕ} → Composes cs os → scalars cs ≡ true
unfolding scalars
composes_scalars done = refl
composes_scalars (stay {c} p h) = and_both _ _ (plain_scalar c p) (composes_scalars h)
composes_scalars (join {l} {m} {w} e n h) =
    and_both _ _ (plain_scalar l (letter_plain l m w e n)) (and_both _ _ (mark_scalar m (joins_mark l m w e n)) (composes_scalars h))

plain_scalars : (cs : List ℕ) → all_plain cs ≡ true → scalars cs ≡ true
unfolding all_plain scalars
plain_scalars [] e = refl
plain_scalars (c ∷ cs) e =
    and_both _ _ (plain_scalar c (and_left (plain c) _ e)) (plain_scalars cs (and_right (plain c) _ e))

-- composing makes no text longer
sizes : {cs os : List ℕ} → Composes cs os → length (encodes os) ≤ length (encodes cs)
unfolding encodes
sizes done = omega arith
sizes (stay {c} {cs} {os} p h) = rw (length-append (encode c) (encodes os), length-append (encode c) (encodes cs)) (omega (arith, sizes h))
sizes (join {l} {m} {w} {cs} {os} e n h) =
    let j = (joint l m (rw e n)).whole in
    let size : width w ≡ 2 = rw (← e) (width_2 (joined l m) (omega (arith, at_least 0xC0 0xFF (joined l m) j)) (omega (arith, at_most 0xC0 0xFF (joined l m) j))) in
    let k = mark_within m (joins_mark l m w e n) in
    let mark : width m ≡ 2 = width_2 m (omega (arith, at_least 0x300 0x33F m k)) (omega (arith, at_most 0x300 0x33F m k)) in
    rw (
      length-append (encode w) (encodes os),
      length-append (encode l) (encode m ++ encodes cs),
      length-append (encode m) (encodes cs),
      length_encode w,
      length_encode m,
    )
    (omega (arith, sizes h))

pub text_shorter : (title : List ℕ) → accepts (decode title) ≡ true → length (text title) ≤ length title
unfolding text
text_shorter title a =
    let h = accepts_composes (decode title) a in
    omega (arith, sizes h, ap length (encodes_decode title (composes_scalars h)))

-- accepted, lengths aside, exactly when all of the title's characters are in the repertoire, where `nfc` is Unicode's, and its NFC is composed
-- text; and then the output is the encoding of its NFC
pub title_nfc :
    (title out : List ℕ)
    → length title ≤ max_title
    → all_in (decode title) ≡ true
    → all_plain (nfc (decode title)) ≡ true
    → length (encodes (nfc (decode title))) ≤ length out
    → compose_of title out ≡ accepted_with (encodes (nfc (decode title))) out
unfolding text
title_nfc title out under known e room =
    let a = accepts_nfc (decode title) ∙ and_both _ _ known e in
    taken title _ out (le-ltb max_title (length title) under) a (ap encodes (sym (nfc_composed (decode title) a))) room

pub accepted_nfc :
    (title out : List ℕ)
    → (compose_of title out).answer.number ≡ accepted
    → (all_in (decode title) ≡ true) × (all_plain (nfc (decode title)) ≡ true) × (compose_of title out ≡ accepted_with (encodes (nfc (decode title))) out)
unfolding text
accepted_nfc title out z =
    let t = was_taken title out z in
    let e = sym (accepts_nfc (decode title)) ∙ t.all in
    (and_left (all_in (decode title)) _ e, and_right (all_in (decode title)) _ e, t.whole ∙ rw (nfc_composed (decode title) t.all))

-- two titles of equal NFC, none over the limit, get the same acceptance and, where accepted, the same bytes; the second's characters are in the
-- repertoire, as those of one that is accepted are
pub equal_nfc :
    (x y out : List ℕ)
    → length x ≤ max_title
    → length y ≤ max_title
    → all_in (decode y) ≡ true
    → nfc (decode x) ≡ nfc (decode y)
    → (compose_of x out).answer.number ≡ accepted
    → compose_of y out ≡ compose_of x out
unfolding text
equal_nfc x y out ux uy known e z =
    let t = was_taken x out z in
    let same = equal_composed (decode x) (decode y) known e t.all in
    taken y (text x) out (le-ltb max_title (length y) uy) same.0 (ap encodes (sym same.1)) t.room ∙ sym t.whole

-- the composed bytes decode to the composed characters
decode_text : (title : List ℕ) → accepts (decode title) ≡ true → decode (text title) ≡ composed (decode title)
unfolding text
decode_text title a = decode_encodes (composed (decode title)) (plain_scalars _ (composed_plain (decode title) a))

-- composed text, within the limit, composes to itself
pub composed_itself :
    (value out : List ℕ)
    → composed_text value ≡ true
    → length value ≤ max_title
    → length value ≤ length out
    → compose_of value out ≡ accepted_with value out
unfolding composed_text text
composed_itself value out e under room =
    let same : encodes (composed (decode value)) ≡ value =
    rw (plain_composed (decode value) e) (encodes_decode value (plain_scalars (decode value) e))
    in
    taken value value out (le-ltb max_title (length value) under) (plain_accepts (decode value) e) same room

-- an accepted output is composed text
pub text_composed : (title : List ℕ) → accepts (decode title) ≡ true → composed_text (text title) ≡ true
unfolding composed_text
text_composed title a = rw (decode_text title a) (composed_plain (decode title) a)

-- and so composes to itself
pub output_itself :
    (title out again : List ℕ)
    → (compose_of title out).answer.number ≡ accepted
    → length (text title) ≤ length again
    → compose_of (text title) again ≡ accepted_with (text title) again
output_itself title out again z room =
    let t = was_taken title out z in
    composed_itself (text title) again (text_composed title t.all) (omega (arith, text_shorter title t.all, t.under)) room

-- a title that composes to itself is composed text, within the limit
pub itself_composed :
    (value out : List ℕ)
    → compose_of value out ≡ accepted_with value out
    → (composed_text value ≡ true) × (length value ≤ max_title)
itself_composed value out e =
    let t = was_taken value out (ap (λ (o : Output Composed). o.answer.number) e) in
    let both = sym t.whole ∙ e in
    let size : length (text value) ≡ length value = ap (λ (o : Output Composed). o.answer.length) both in
    let bytes : text value ++ drop (length (text value)) out ≡ value ++ drop (length value) out =
    ap (λ (o : Output Composed). o.left) both
    in
    let same : text value ≡ value =
    sym (take_at (text value) _ (length value) size)
    ∙ ap (take (length value)) bytes
    ∙ take-append_seam value _
    in
    (rw same at (text_composed value t.all), t.under)

-- no output is over the limit
pub length_most : (title out left : List ℕ) (r : Composed) → Leaves (compose_of title out) r left → r.length ≤ max_title
length_most title out left r h =
    rw h.answered
    (either (eqb (compose_of title out).answer.number accepted)
    (λ z.
    let t = was_taken title out (eqb-true _ accepted z) in
    rw t.whole (omega (arith, t.under, text_shorter title t.all)))
    (λ z. omega (arith, (refused_nothing title out (eqb-false _ accepted z)).1)))
