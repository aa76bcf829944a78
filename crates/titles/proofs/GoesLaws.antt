-- The outcome goes as `Goes` says; and a title has one first bad character, with one fault.
use Rattle.std.specs.Prelude.{◌≡◌, refl, true, false, List, [], ◌∷◌, ◌++◌, ℕ, suc, ◌+◌, ◌-◌, ltb, eqb, length, take, drop}
use Rattle.std.proofs.Common.{sym, ◌∙◌, ap, append_assoc, add-zero, zero-add, arith, length-append, take-append-drop, eqb-true, ltb-true, ltb-false}
use Rattle.std.proofs.Math.Seq.{take-append_seam, drop-append_seam, take-append-add}
use Rattle.lists.specs.TestsLaws.{and_left, and_right, and_both, either, clash, refuted}
use Rattle.nfc.specs.Cons.{head}
use Rattle.nfc.specs.Utf8.{ill, within, scalar, scalars, width, encode, encodes, front, decode}
use Rattle.nfc.specs.Repertoire.{member, marks, is_mark, plain, in_repertoire, all_in}
use Rattle.nfc.specs.Joining.{joined, one, clusters, none_bad, accepts}
use Rattle.nfc.proofs.SequencesLaws.{front_starts}
use Rattle.nfc.specs.EncodingsLaws.{front_encode}
use Rattle.nfc.proofs.DecodingLaws.{length_encode, decode_next, decode_end, decode_append, decode_encodes, ill_formed_none, behind}
use Rattle.nfc.proofs.Composition.{letter_plain, joins_mark, clusters_join}
use Rattle.nfc.proofs.NfcTheorem.{accepts_in, mark_in}
use Rattle.titles.specs.Compose.{text, fault, refusal, answer_from, compose_of, max_title}
use Rattle.titles.specs.Goes.{Wrong, broken, foreign, loose, FirstBad, Goes, long, wrong, short, taken}
use Rattle.titles.specs.ComposeLaws as Outcomes
use Rattle.titles.specs.ClustersLaws.{clusters_bad}
use Rattle.titles.specs.TitleTheorems.{plain_scalar, mark_scalar}

-- the character behind some, of which c comes last
next : List ℕ → ℕ → ℕ
next [] c = c
next (x ∷ pre) c = x

-- the characters of pre are taken, and c behind them is bad
data Halts : List ℕ → ℕ → Type 0 where
  here : {c : ℕ} → plain c ≡ false → Halts [] c
  past : {l c : ℕ} {pre : List ℕ} → plain l ≡ true → eqb (joined l (next pre c)) 0 ≡ true → Halts pre c → Halts (l ∷ pre) c
  over : {l m c : ℕ} {pre : List ℕ} → eqb (joined l m) 0 ≡ false → Halts pre c → Halts (l ∷ (m ∷ pre)) c

halts_plain : {pre : List ℕ} {c : ℕ} → Halts pre c → plain c ≡ false
halts_plain (here p) = p
halts_plain (past p n h) = halts_plain h
halts_plain (over n h) = halts_plain h

clusters_past :
    (l c : ℕ) (pre xs : List ℕ)
    → plain l ≡ true
    → eqb (joined l (next pre c)) 0 ≡ true
    → clusters (l ∷ (pre ++ c ∷ xs)) ≡ one l ∷ clusters (pre ++ c ∷ xs)
unfolding clusters next
clusters_past l c [] xs p n = rw (p, n)
clusters_past l c (x ∷ pre) xs p n = rw (p, n)

halts_taken : {pre : List ℕ} {c : ℕ} → Halts pre c → accepts pre ≡ true
unfolding accepts none_bad clusters next
halts_taken (here p) = refl
halts_taken (past {pre = []} p n h) = rw p
halts_taken (past {pre = x ∷ pre} p n h) = rw (p, n) (halts_taken h)
halts_taken (over {l} {m} {pre = pre} n h) = rw (clusters_join l m (joined l m) pre refl n) (halts_taken h)

halts_bad : {pre : List ℕ} {c : ℕ} → Halts pre c → (xs : List ℕ) → accepts (pre ++ c ∷ xs) ≡ false
unfolding accepts none_bad
halts_bad (here {c} p) xs = rw (clusters_bad c xs p)
halts_bad (past {l} {c} {pre} p n h) xs = rw (clusters_past l c pre xs p n) (halts_bad h xs)
halts_bad (over {l} {m} {c} {pre} n h) xs = rw (clusters_join l m (joined l m) (pre ++ c ∷ xs) refl n) (halts_bad h xs)

halts_scalars : {pre : List ℕ} {c : ℕ} → Halts pre c → scalars pre ≡ true
unfolding scalars
halts_scalars (here p) = refl
halts_scalars (past {l} p n h) = and_both _ _ (plain_scalar l p) (halts_scalars h)
halts_scalars (over {l} {m} n h) =
    and_both _ _ (plain_scalar l (letter_plain l m (joined l m) refl n)) (and_both _ _ (mark_scalar m (joins_mark l m (joined l m) refl n)) (halts_scalars h))

-- the refusal has the fault of c, at the bytes' end of pre
halts_judged :
    {pre : List ℕ} {c : ℕ}
    → Halts pre c
    → (p n : ℕ) (xs : List ℕ)
    → answer_from p n (clusters (pre ++ c ∷ xs)) ≡ refusal (fault c) (p + length (encodes pre))
unfolding answer_from encodes
halts_judged (here {c} q) p n xs = rw (clusters_bad c xs q, add-zero p)
halts_judged (past {l} {c} {pre} q e h) p n xs =
    rw (clusters_past l c pre xs q e)
    (halts_judged h (p + width l) (n + width l) xs
    ∙ ap (refusal (fault c)) (rw (length-append (encode l) (encodes pre), length_encode l) (omega arith)))
halts_judged (over {l} {m} {c} {pre} e h) p n xs =
    rw (clusters_join l m (joined l m) (pre ++ c ∷ xs) refl e)
    (halts_judged h (p + (width l + width m)) (n + width (joined l m)) xs
    ∙ ap (refusal (fault c))
    (rw (
      length-append (encode l) (encode m ++ encodes pre),
      length-append (encode m) (encodes pre),
      length_encode l,
      length_encode m,
    )
    (omega arith)))

-- characters that are not all taken have a first bad one
record Halted (cs : List ℕ) : Type 0 where
  pre : List ℕ
  c : ℕ
  post : List ℕ
  all : cs ≡ pre ++ c ∷ post
  halts : Halts pre c

next_head : (m c : ℕ) (pre cs xs : List ℕ) → m ∷ cs ≡ pre ++ c ∷ xs → next pre c ≡ m
unfolding next
next_head m c [] cs xs e = sym (head e)
next_head m c (x ∷ pre) cs xs e = sym (head e)

at_first : (c : ℕ) (cs : List ℕ) → plain c ≡ false → Halted (c ∷ cs)
at_first c cs p = record { pre = []; c = c; post = cs; all = refl; halts = here p }

past_halted : (c m : ℕ) (cs : List ℕ) → plain c ≡ true → eqb (joined c m) 0 ≡ true → Halted (m ∷ cs) → Halted (c ∷ (m ∷ cs))
past_halted c m cs p n g =
    record {
      pre = c ∷ g.pre;
      c = g.c;
      post = g.post;
      all = ap (λ (l : List ℕ). c ∷ l) g.all;
      halts = past {c = g.c} {pre = g.pre} p (rw (next_head m g.c g.pre cs g.post g.all) n) g.halts;
    }

over_halted : (c m : ℕ) (cs : List ℕ) → eqb (joined c m) 0 ≡ false → Halted cs → Halted (c ∷ (m ∷ cs))
over_halted c m cs n g =
    record {
      pre = c ∷ (m ∷ g.pre);
      c = g.c;
      post = g.post;
      all = ap (λ (l : List ℕ). c ∷ (m ∷ l)) g.all;
      halts = over n g.halts;
    }

halted : (cs : List ℕ) → accepts cs ≡ false → Halted cs
unfolding accepts clusters none_bad
halted [] e = absurd (clash refl e)
halted (c ∷ []) e = either (plain c) (λ p. absurd (clash refl (rw p at e))) (λ p. at_first c [] p)
halted (c ∷ (m ∷ cs)) e =
    either (plain c)
    (λ p.
    either (eqb (joined c m) 0)
    (λ n. past_halted c m cs p n (halted (m ∷ cs) (rw (p, n) at e)))
    (λ n. over_halted c m cs n (halted cs (rw (p, n) at e))))
    (λ p. at_first c (m ∷ cs) p)

-- an ill-formed sequence is taken nowhere
in_behind : (pre : List ℕ) (c : ℕ) (xs : List ℕ) → all_in (pre ++ c ∷ xs) ≡ true → in_repertoire c ≡ true
unfolding all_in
in_behind [] c xs e = and_left (in_repertoire c) _ e
in_behind (x ∷ pre) c xs e = in_behind pre c xs (and_right (in_repertoire x) _ e)

ill_outside : in_repertoire ill ≡ false
unfolding in_repertoire plain is_mark member marks within
ill_outside = refl

ill_bad : (pre xs : List ℕ) → accepts (pre ++ ill ∷ xs) ≡ false
ill_bad pre xs = refuted (accepts (pre ++ ill ∷ xs)) (λ a. clash (in_behind pre ill xs (accepts_in (pre ++ ill ∷ xs) a)) ill_outside)

-- what is wrong at the front of some bytes
wrong_at : (b : ℕ) (t : List ℕ) → plain (front (b ∷ t)) ≡ false → Wrong (fault (front (b ∷ t))) (b ∷ t)
unfolding fault in_repertoire
wrong_at b t p =
    let c = front (b ∷ t) in
    either (eqb c ill)
    (λ q. rw q (broken (ill_formed_none (b ∷ t) q)))
    (λ q.
    let f = front_starts b t q in
    either (is_mark c)
    (λ m. rw (q, m) (loose c (drop (width c) (b ∷ t)) f.splits m))
    (λ m. rw (q, m) (foreign c (drop (width c) (b ∷ t)) f.splits f.is (rw (p, m)))))

-- the front of fewer bytes is ill-formed, or the same character
cut_front : (b : ℕ) (t u : List ℕ) → eqb (front (b ∷ t)) ill ≡ false → front (b ∷ (t ++ u)) ≡ front (b ∷ t)
cut_front b t u q =
    let f = front_starts b t q in
    let c = front (b ∷ t) in
    let same : encode c ++ (drop (width c) (b ∷ t) ++ u) ≡ b ∷ (t ++ u) =
    sym (append_assoc (encode c) (drop (width c) (b ∷ t)) u) ∙ ap (λ (l : List ℕ). l ++ u) f.splits
    in
    ap front (sym same) ∙ front_encode c (drop (width c) (b ∷ t) ++ u) f.is

module _ (pre : List ℕ) (b : ℕ) (t : List ℕ) (halts : Halts pre (front (b ∷ t))) where
  -- a front of the title that goes on behind pre
  longer : (k : ℕ) → accepts (decode (encodes pre ++ (b ∷ take k t))) ≡ false
  longer k =
      let x = front (b ∷ take k t) in
      let whole : b ∷ (take k t ++ drop k t) ≡ b ∷ t = ap (λ (l : List ℕ). b ∷ l) (take-append-drop k t) in
      rw (decode_append pre (halts_scalars halts) (b ∷ take k t), decode_next (b ∷ take k t) (omega arith))
      (either (eqb x ill)
      (λ q. rw (q, eqb-true x ill q) (ill_bad pre _))
      (λ q.
      let same : x ≡ front (b ∷ t) = sym (cut_front b (take k t) (drop k t) q) ∙ ap front whole in
      rw (q, same) (halts_bad halts _)))

  at_place : FirstBad (encodes pre ++ (b ∷ t)) (fault (front (b ∷ t))) (length (encodes pre))
  at_place =
      record {
        inside = rw (length-append (encodes pre) (b ∷ t)) (omega arith);
        before =
            rw (take-append_seam (encodes pre) (b ∷ t), decode_encodes pre (halts_scalars halts))
            (halts_taken halts);
        longest = λ n h.
            let k = n - (length (encodes pre) + 1) in
            let is : n ≡ length (encodes pre) + suc k = omega arith in
            rw (is, take-append-add (encodes pre) (b ∷ t) (suc k)) (longer k);
        wrong = rw (drop-append_seam (encodes pre) (b ∷ t)) (wrong_at b t (halts_plain halts));
      }

placed :
    (title pre post : List ℕ) (c : ℕ) (rest : List ℕ)
    → encodes pre ++ rest ≡ title
    → decode rest ≡ c ∷ post
    → Halts pre c
    → FirstBad title (fault c) (length (encodes pre))
placed title pre post c [] e left h = absurd (omega (arith, ap length (sym (decode_end [] (omega arith)) ∙ left)))
placed title pre post c (b ∷ t) e left h =
    let is : front (b ∷ t) ≡ c = head (sym (decode_next (b ∷ t) (omega arith)) ∙ left) in
    rw (← e, ← is) (at_place pre b t (rw is h))

-- a refusal of a character has the number and the place of the first bad one
pub record Placed (title : List ℕ) : Type 0 where
  pub number : ℕ
  pub place : ℕ
  pub same : answer_from 0 0 (clusters (decode title)) ≡ refusal number place
  pub first : FirstBad title number place

pub first_bad : (title : List ℕ) → accepts (decode title) ≡ false → Placed title
first_bad title e =
    let g = halted (decode title) e in
    let r = behind g.pre (g.c ∷ g.post) title (halts_scalars g.halts) g.all in
    record {
      number = fault g.c;
      place = length (encodes g.pre);
      same =
          ap (λ (cs : List ℕ). answer_from 0 0 (clusters cs)) g.all
          ∙ halts_judged g.halts 0 0 g.post
          ∙ ap (refusal (fault g.c)) (zero-add (length (encodes g.pre)));
      first = placed title g.pre g.post g.c r.rest r.bytes r.left g.halts;
    }

-- what a title's first bad character says leaves one number and one place
same_character : (c c' : ℕ) (r r' s : List ℕ) → scalar c ≡ true → scalar c' ≡ true → encode c ++ r ≡ s → encode c' ++ r' ≡ s → c ≡ c'
same_character c c' r r' s e e' h h' = sym (front_encode c r e) ∙ ap front (h ∙ sym h') ∙ front_encode c' r' e'

foreign_loose :
    (c c' : ℕ) (r r' s : List ℕ)
    → encode c ++ r ≡ s
    → scalar c ≡ true
    → in_repertoire c ≡ false
    → encode c' ++ r' ≡ s
    → is_mark c' ≡ true
    → ⊥
foreign_loose c c' r r' s h e o h' m =
    clash (mark_in c' m) (rw (same_character c c' r r' s e (mark_scalar c' m) h h') at o)

wrong_one : {k k' : ℕ} {s : List ℕ} → Wrong k s → Wrong k' s → k ≡ k'
wrong_one (broken f) (broken g) = refl
wrong_one (broken f) (foreign c r h e o) = absurd (f c r e h)
wrong_one (broken f) (loose c r h m) = absurd (f c r (mark_scalar c m) h)
wrong_one (foreign c r h e o) (broken f) = absurd (f c r e h)
wrong_one (foreign c r h e o) (foreign c' r' h' e' o') = refl
wrong_one {s = s} (foreign c r h e o) (loose c' r' h' m) = absurd (foreign_loose c c' r r' s h e o h' m)
wrong_one (loose c r h m) (broken f) = absurd (f c r (mark_scalar c m) h)
wrong_one {s = s} (loose c r h m) (foreign c' r' h' e o) = absurd (foreign_loose c' c r' r s h' e o h m)
wrong_one (loose c r h m) (loose c' r' h' m') = refl

pub first_bad_one :
    {title : List ℕ} {k k' p p' : ℕ}
    → FirstBad title k p
    → FirstBad title k' p'
    → (k ≡ k') × (p ≡ p')
first_bad_one {title} {k} {k'} {p} {p'} f g =
    let not-before = ltb-false p p' (refuted (ltb p p') (λ l. clash g.before (f.longest p' (ltb-true p p' l)))) in
    let not_behind = ltb-false p' p (refuted (ltb p' p) (λ l. clash f.before (g.longest p (ltb-true p' p l)))) in
    let place : p ≡ p' = omega arith in
    (wrong_one f.wrong (rw place g.wrong), place)

pub compose_goes : (title out : List ℕ) → Goes title out (compose_of title out)
compose_goes title out =
    either (ltb max_title (length title))
    (λ o. rw (Outcomes.long title out o) (long (ltb-true max_title (length title) o)))
    (λ u.
    let under = ltb-false max_title (length title) u in
    either (accepts (decode title))
    (λ a.
    either (ltb (length out) (length (text title)))
    (λ s. rw (Outcomes.short title out u a s) (short under a (ltb-true (length out) (length (text title)) s)))
    (λ s.
    let room = ltb-false (length out) (length (text title)) s in
    rw (Outcomes.taken title (text title) out u a refl room) (taken under a room)))
    (λ a.
    let b = first_bad title a in
    rw (Outcomes.refused title (refusal b.number b.place) out u a b.same) (wrong under b.number b.place b.first)))
