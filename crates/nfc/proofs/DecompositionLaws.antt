-- Decomposing a text changes neither whether it composes nor what it composes to.
use Rattle.std.specs.Prelude.{◌≡◌, true, false, List, [], ◌∷◌, ◌++◌, ℕ, eqb, length}
use Rattle.std.proofs.Common.{sym, ◌∙◌, ap, arith, ne_eqb}
use Rattle.nfc.specs.Cons.{head, tail}
use Rattle.lists.specs.TestsLaws.{either, clash}
use Rattle.nfc.specs.Utf8.{within}
use Rattle.nfc.specs.Repertoire.{is_mark, plain}
use Rattle.nfc.specs.Decompositions.{decompositions}
use Rattle.nfc.specs.Nfc.{parts, decomposed, composite}
use Rattle.nfc.specs.Joining.{joined}
use Rattle.nfc.proofs.PairsLaws.{latin, Made, joint, decomposes, stays}
use Rattle.nfc.proofs.MarksLaws.{mark_no_whole}
use Rattle.nfc.proofs.Composition.{Composes, done, stay, join, letter_plain, whole_plain, joins_mark, starts}

-- a plain character that is taken apart is a letter and a mark that join to it
plain_joins : (l m c : ℕ) → plain c ≡ true → Made l m c → joined l m ≡ c
plain_joins l m c p d =
    either (latin c) (λ i. d.within_joined i) (λ o. absurd (clash p (d.outside_plain o)))

plain_some : (c : ℕ) → plain c ≡ true → eqb c 0 ≡ false
unfolding plain within
plain_some c p = ne_eqb c 0 (λ z. clash p (rw z))

pub decomposed_composes : {cs os : List ℕ} → Composes cs os → Composes (decomposed cs) os
unfolding decomposed
decomposed_composes done = done
decomposed_composes (stay {c} {cs} {os} p h) =
    let ih = decomposed_composes h in
    decomposes c (Composes (parts decompositions c ++ decomposed cs) (c ∷ os))
    (λ e. rw e (stay p ih))
    (λ l m e d. rw e (join (plain_joins l m c p d) (plain_some c p) ih))
decomposed_composes (join {l} {m} {w} {cs} {os} e n h) =
    let j = joint l m (rw e n) in
    rw (stays l decompositions j.apart, stays m decompositions (mark_no_whole m j.mark))
    (join e n (decomposed_composes h))

-- a text that composes starts with a plain character
plain_first : {m : ℕ} {cs os : List ℕ} → plain m ≡ false → Composes (m ∷ cs) os → ⊥
plain_first {m} k h =
    starts ⊥ h
    (λ rest e p g. clash p k)
    (λ m' w ds rest e q j n g. clash (letter_plain m m' w j n) k)

-- a mark at the head of what a text decomposes to is the text's own
mark_head :
    (c : ℕ) (cs : List ℕ) (m : ℕ) (ds : List ℕ) (A : Type 0)
    → decomposed (c ∷ cs) ≡ m ∷ ds
    → is_mark m ≡ true
    → (c ≡ m → decomposed cs ≡ ds → A)
    → A
unfolding decomposed
mark_head c cs m ds A e k f =
    decomposes c A
    (λ p. let q = rw p at e in f (head q) (tail q))
    (λ l m' p d. let q = rw p at e in absurd (clash (rw (head q) k) d.first))

-- one character back: it stays, or is the whole of a letter and a mark, or joins a mark of the text
back :
    (c : ℕ) (cs os : List ℕ)
    → Composes (parts decompositions c ++ decomposed cs) os
    → ((rest : List ℕ) → Composes (decomposed cs) rest → Composes cs rest)
    → ((m w : ℕ) (ds rest : List ℕ)
    → decomposed cs ≡ m ∷ ds
    → joined c m ≡ w
    → eqb w 0 ≡ false
    → Composes ds rest
    → Composes (c ∷ cs) (w ∷ rest))
    → Composes (c ∷ cs) os
back c cs os h again over =
    decomposes c (Composes (c ∷ cs) os)
    (λ p.
    starts (Composes (c ∷ cs) os) (rw p at h)
    (λ rest e q g. rw e (stay q (again rest g)))
    (λ m w ds rest e q j n g. rw q (over m w ds rest e j n g)))
    (λ l m p d.
    starts (Composes (c ∷ cs) os) (rw p at h)
    (λ rest e q g. absurd (plain_first d.second g))
    (λ m' w ds rest e q j n g.
    let jt = joint l m' (rw j n) in
    let whole : c ≡ w = sym d.made ∙ ap (composite l) (head e) ∙ jt.made ∙ j in
    let p' : plain c ≡ true = rw whole (whole_plain l m' w j n) in
    rw (q, ← whole) (stay p' (again rest (rw (tail e) g)))))

pub composes_decomposed : (cs : List ℕ) {os : List ℕ} → Composes (decomposed cs) os → Composes cs os
unfolding decomposed
composes_decomposed [] h = h
composes_decomposed (c ∷ []) {os} h =
    back c [] os h (λ rest g. g) (λ m w ds rest e j n g. absurd (omega (arith, ap length e)))
composes_decomposed (c ∷ (c' ∷ cs)) {os} h =
    back c (c' ∷ cs) os h
    (λ rest g. composes_decomposed (c' ∷ cs) g)
    (λ m w ds rest e j n g.
    mark_head c' cs m ds (Composes (c ∷ (c' ∷ cs)) (w ∷ rest)) e (joins_mark c m w j n)
    (λ ec ed. rw ec (join {os = rest} j n (composes_decomposed cs (rw ed g)))))
