-- Which texts compose, and to what, as a relation that looks at no following character: a mark that joins nothing is not plain, so there is
-- one reading only. The composer accepts exactly these texts.
use Rattle.std.specs.Prelude.{◌≡◌, refl, true, false, List, [], ◌∷◌, ℕ, eqb}
use Rattle.lists.specs.TestsLaws.{and_left, and_right, and_both, either, clash}
use Rattle.nfc.specs.Repertoire.{is_mark, plain, all_plain}
use Rattle.nfc.specs.Joining.{joined, one, two, clusters, outs, none_bad, accepts, composed}
use Rattle.nfc.proofs.PairsLaws.{joint}
use Rattle.nfc.proofs.MarksLaws.{plain_no_mark, ascii_plain, latin_plain}

pub data Composes : List ℕ → List ℕ → Type 0 where
  done : Composes [] []
  stay : {c : ℕ} {cs os : List ℕ} → plain c ≡ true → Composes cs os → Composes (c ∷ cs) (c ∷ os)
  join : {l m w : ℕ} {cs os : List ℕ} → joined l m ≡ w → eqb w 0 ≡ false → Composes cs os → Composes (l ∷ (m ∷ cs)) (w ∷ os)

-- a letter that joins is plain, and so is what it makes
pub letter_plain : (l m w : ℕ) → joined l m ≡ w → eqb w 0 ≡ false → plain l ≡ true
letter_plain l m w e n = ascii_plain l (joint l m (rw e n)).letter

pub whole_plain : (l m w : ℕ) → joined l m ≡ w → eqb w 0 ≡ false → plain w ≡ true
whole_plain l m w e n = rw (← e) (latin_plain (joined l m) (joint l m (rw e n)).whole)

pub joins_mark : (l m w : ℕ) → joined l m ≡ w → eqb w 0 ≡ false → is_mark m ≡ true
joins_mark l m w e n = (joint l m (rw e n)).mark

-- a plain character joins no letter
pub plain_no_join : (l c : ℕ) → plain c ≡ true → eqb (joined l c) 0 ≡ true
plain_no_join l c p =
    either (eqb (joined l c) 0) (λ e. e) (λ e. absurd (clash (joins_mark l c (joined l c) refl e) (plain_no_mark c p)))

pub accepts_composes : (cs : List ℕ) → accepts cs ≡ true → Composes cs (composed cs)
unfolding accepts composed clusters none_bad outs
accepts_composes [] e = done
accepts_composes (c ∷ []) e = either (plain c) (λ p. rw p (stay p done)) (λ p. absurd (clash (rw p at e) refl))
accepts_composes (c ∷ (m ∷ cs)) e =
    either (plain c)
    (λ p.
    either (eqb (joined c m) 0)
    (λ q. rw (p, q) (stay p (accepts_composes (m ∷ cs) (rw (p, q) at e))))
    (λ q. rw (p, q) (join refl q (accepts_composes cs (rw (p, q) at e)))))
    (λ p. absurd (clash (rw p at e) refl))

clusters_stay : {cs os : List ℕ} (c : ℕ) → plain c ≡ true → Composes cs os → clusters (c ∷ cs) ≡ one c ∷ clusters cs
unfolding clusters
clusters_stay c p done = rw p
clusters_stay c p (stay {c = c'} q h) = rw (p, plain_no_join c c' q)
clusters_stay c p (join {l} {m} {w} e n h) = rw (p, plain_no_join c l (letter_plain l m w e n))

pub clusters_join : (l m w : ℕ) (cs : List ℕ) → joined l m ≡ w → eqb w 0 ≡ false → clusters (l ∷ (m ∷ cs)) ≡ two l m ∷ clusters cs
unfolding clusters
clusters_join l m w cs e n = rw (letter_plain l m w e n, e, n)

pub composes_accepts : {cs os : List ℕ} → Composes cs os → accepts cs ≡ true
unfolding accepts none_bad clusters
composes_accepts done = refl
composes_accepts (stay {c} p h) = rw (clusters_stay c p h) (composes_accepts h)
composes_accepts (join {l} {m} {w} {cs} e n h) = rw (clusters_join l m w cs e n) (composes_accepts h)

pub composes_composed : {cs os : List ℕ} → Composes cs os → composed cs ≡ os
unfolding composed outs clusters
composes_composed done = refl
composes_composed (stay {c} p h) = rw (clusters_stay c p h, composes_composed h)
composes_composed (join {l} {m} {w} {cs} e n h) = rw (clusters_join l m w cs e n, e, composes_composed h)

-- what a text composes to is plain
pub composes_plain : {cs os : List ℕ} → Composes cs os → all_plain os ≡ true
unfolding all_plain
composes_plain done = refl
composes_plain (stay p h) = and_both _ _ p (composes_plain h)
composes_plain (join {l} {m} {w} e n h) = and_both _ _ (whole_plain l m w e n) (composes_plain h)

-- a plain text composes to itself
pub plain_composes : (cs : List ℕ) → all_plain cs ≡ true → Composes cs cs
unfolding all_plain
plain_composes [] e = done
plain_composes (c ∷ cs) e = stay (and_left (plain c) (all_plain cs) e) (plain_composes cs (and_right (plain c) (all_plain cs) e))

-- the two ways in which a text that composes starts
pub starts :
    {c : ℕ} {cs os : List ℕ} (A : Type 0)
    → Composes (c ∷ cs) os
    → ((rest : List ℕ) → os ≡ c ∷ rest → plain c ≡ true → Composes cs rest → A)
    → ((m w : ℕ) (ds rest : List ℕ) → cs ≡ m ∷ ds → os ≡ w ∷ rest → joined c m ≡ w → eqb w 0 ≡ false → Composes ds rest → A)
    → A
starts A (stay {os = rest} p h) f g = f rest refl p h
starts A (join {m = m} {w = w} {cs = ds} {os = rest} e n h) f g = g m w ds rest refl refl e n h
