-- What the outcome is, test by test, in the order of document 01.
use Rattle.std.specs.Prelude.{◌≡◌, refl, true, false, List, [], ◌∷◌, ◌++◌, ℕ, ◌+◌, ◌≤◌, ltb, eqb, length}
use Rattle.std.proofs.Common.{sym, ◌∙◌, ap, add-zero, zero-add, arith, length-append, le-ltb}
use Rattle.lists.specs.TestsLaws.{either, clash}
use Rattle.outcomes.specs.Refusals.{accepted, no_room, title_long}
use Rattle.nfc.specs.Utf8.{ill, width, encode, encodes, decode}
use Rattle.nfc.specs.Repertoire.{is_mark}
use Rattle.nfc.proofs.DecodingLaws.{length_encode}
use Rattle.titles.specs.declared.composed.Composed.{Composed}
use Rattle.nfc.specs.Joining.{joined, Cluster, bad, one, two, clusters, outs, none_bad, accepts, composed}
use Rattle.outcomes.specs.Outcome.{still}
use Rattle.titles.specs.Compose.{text, fault, answer_from, acceptance, refusal, accepted_with, compose_of, max_title}

-- over the limit
pub long : (title out : List ℕ) → ltb max_title (length title) ≡ true → compose_of title out ≡ still (refusal title_long 0) out
unfolding compose_of
long title out over = rw over

-- a bad character
pub refused :
    (title : List ℕ) (r : Composed) (out : List ℕ)
    → ltb max_title (length title) ≡ false
    → accepts (decode title) ≡ false
    → answer_from 0 0 (clusters (decode title)) ≡ r
    → compose_of title out ≡ still r out
unfolding compose_of
refused title r out fits not-all e = rw (fits, not-all, e)

-- no room
pub short :
    (title out : List ℕ)
    → ltb max_title (length title) ≡ false
    → accepts (decode title) ≡ true
    → ltb (length out) (length (text title)) ≡ true
    → compose_of title out ≡ still (refusal no_room 0) out
unfolding compose_of
short title out fits all less = rw (fits, all, less)

-- room
pub taken :
    (title t out : List ℕ)
    → ltb max_title (length title) ≡ false
    → accepts (decode title) ≡ true
    → text title ≡ t
    → length t ≤ length out
    → compose_of title out ≡ accepted_with t out
unfolding compose_of
taken title t out fits all e room = rw (fits, all, e, le-ltb (length out) (length t) room)

lengths : (n c : ℕ) (rest : List ℕ) → (n + width c) + length rest ≡ n + length (encode c ++ rest)
lengths n c rest = rw (length-append (encode c) rest, length_encode c) (omega arith)

-- a fault is no acceptance
pub fault_some : (c : ℕ) → fault c ≡ 0 → ⊥
unfolding fault
fault_some c =
    either (eqb c ill) (λ p. rw p (λ e. omega arith)) λ p.
    rw p (either (is_mark c) (λ q. rw q (λ e. omega arith)) λ q. rw q (λ e. omega arith))

-- clusters of which none is bad are accepted, with the length of what they compose to
judged_taken :
    (p n : ℕ) (ps : List Cluster)
    → none_bad ps ≡ true
    → answer_from p n ps ≡ acceptance (n + length (encodes (outs ps)))
unfolding answer_from none_bad outs encodes
judged_taken p n [] e = ap acceptance (sym (add-zero n))
judged_taken p n (bad c ∷ ps) e = absurd (clash e refl)
judged_taken p n (one c ∷ ps) e =
    judged_taken (p + width c) (n + width c) ps e ∙ ap acceptance (lengths n c (encodes (outs ps)))
judged_taken p n (two l m ∷ ps) e =
    judged_taken (p + (width l + width m)) (n + width (joined l m)) ps e
    ∙ ap acceptance (lengths n (joined l m) (encodes (outs ps)))

judged_refused : (p n : ℕ) (ps : List Cluster) → none_bad ps ≡ false → (answer_from p n ps).number ≡ accepted → ⊥
unfolding answer_from none_bad
judged_refused p n [] e z = clash refl e
judged_refused p n (bad c ∷ ps) e z = fault_some c z
judged_refused p n (one c ∷ ps) e z = judged_refused (p + width c) (n + width c) ps e z
judged_refused p n (two l m ∷ ps) e z = judged_refused (p + (width l + width m)) (n + width (joined l m)) ps e z

judged_length : (p n : ℕ) (ps : List Cluster) → none_bad ps ≡ false → (answer_from p n ps).length ≡ 0
unfolding answer_from none_bad
judged_length p n [] e = absurd (clash refl e)
judged_length p n (bad c ∷ ps) e = refl
judged_length p n (one c ∷ ps) e = judged_length (p + width c) (n + width c) ps e
judged_length p n (two l m ∷ ps) e = judged_length (p + (width l + width m)) (n + width (joined l m)) ps e

-- a bad character's refusal has length 0
pub refused_length : (title : List ℕ) → accepts (decode title) ≡ false → (answer_from 0 0 (clusters (decode title))).length ≡ 0
unfolding accepts
refused_length title e = judged_length 0 0 (clusters (decode title)) e

-- all characters are taken exactly where the answer, room aside, is no refusal
pub judged_accepts : (title : List ℕ) → (answer_from 0 0 (clusters (decode title))).number ≡ accepted → accepts (decode title) ≡ true
unfolding accepts
judged_accepts title z =
    either (none_bad (clusters (decode title))) (λ e. e) (λ e. absurd (judged_refused 0 0 (clusters (decode title)) e z))

pub accepts_judged : (title : List ℕ) → accepts (decode title) ≡ true → answer_from 0 0 (clusters (decode title)) ≡ acceptance (length (text title))
unfolding accepts text composed
accepts_judged title e = judged_taken 0 0 (clusters (decode title)) e ∙ ap acceptance (zero-add (length (text title)))
