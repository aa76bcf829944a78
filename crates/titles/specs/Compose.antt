-- Document 01, "Titles", refusals 11 and 17 to 20, "Order": what the composer answers and leaves in the buffer, for every title.
use Rattle.std.specs.Prelude.{ℕ, ◌+◌, Bool, cond, not, List, [], ◌∷◌, ltb, eqb, length}
use Rattle.outcomes.specs.Chain.{chain}
use Rattle.outcomes.specs.Outcome.{Output, still, over}
use Rattle.outcomes.specs.Refusals.{accepted, no_room, title_long, not_utf8, outside_repertoire, loose_mark}
use Rattle.nfc.specs.Utf8.{ill, width, encodes, decode}
use Rattle.nfc.specs.Repertoire.{is_mark, all_plain}
use Rattle.nfc.specs.Joining.{joined, Cluster, bad, one, two, clusters, accepts, composed}
use Rattle.titles.specs.declared.composed.Composed.{Composed}

-- "The 511-byte limit is read on the title as given."
abbrev pub max_title : ℕ
max_title = 511

-- the composed bytes of a title
unfoldable pub text : List ℕ → List ℕ
text title = encodes (composed (decode title))

-- "18 before 19 before 20": what is wrong with a character that is bad
unfoldable pub fault : ℕ → ℕ
fault c = cond (eqb c ill) not_utf8 (cond (is_mark c) loose_mark outside_repertoire)

-- "A refusal returns its number and place, with length .. zero"
abbrev pub refusal : ℕ → ℕ → Composed
refusal n p = record { number = n; place = p; length = 0 }

abbrev pub acceptance : ℕ → Composed
acceptance n = record { number = accepted; place = 0; length = n }

-- the answer at clusters that start at byte p, with n bytes composed before: "the first bad character", placed at its first byte
unfoldable pub answer_from : ℕ → ℕ → List Cluster → Composed
answer_from p n [] = acceptance n
answer_from p n (bad c ∷ ps) = refusal (fault c) p
answer_from p n (one c ∷ ps) = answer_from (p + width c) (n + width c) ps
answer_from p n (two l m ∷ ps) = answer_from (p + (width l + width m)) (n + width (joined l m)) ps

-- an accepted title's composed bytes are written
abbrev pub accepted_with : List ℕ → List ℕ → Output Composed
accepted_with t out = record { answer = acceptance (length t); left = over t out }

-- "Composer: 17, then the first bad character, 18 before 19 before 20 there, then 11."
abbrev pub compose_tests : List ℕ → List ℕ → List (Bool × Output Composed)
compose_tests title out =
    (ltb max_title (length title), still (refusal title_long 0) out)
    ∷ (not (accepts (decode title)), still (answer_from 0 0 (clusters (decode title))) out)
    ∷ (ltb (length out) (length (text title)), still (refusal no_room 0) out)
    ∷ []

unfoldable pub compose_of : List ℕ → List ℕ → Output Composed
compose_of title out = chain (compose_tests title out) (accepted_with (text title) out)

-- "A text value in a slip must already be composed: well-formed, in the repertoire, no mark."
unfoldable pub composed_text : List ℕ → Bool
composed_text value = all_plain (decode value)
