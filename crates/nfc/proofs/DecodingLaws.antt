-- Decoding, a character at a time; that decoding and encoding are inverse on well-formed text, and which text is.
use Rattle.std.specs.Prelude.{◌≡◌, refl, Bool, true, false, cond, not, ◌&&◌, ◌||◌, List, [], ◌∷◌, ◌++◌, ℕ, zero, suc, ◌≤◌, ◌<◌, ltb, eqb, length, drop}
use Rattle.std.proofs.Common.{sym, ◌∙◌, ap, append_assoc, append-nil, arith, length-append, length-drop, drop_at, ne_eqb}
use Rattle.std.proofs.lemmas.Bool.{not-true}
use Rattle.nfc.specs.Cons.{head, tail}
use Rattle.lists.specs.TestsLaws.{and_left, and_right, and_both, either, clash}
use Rattle.nfc.specs.Utf8.{ill, scalar, scalars, well_formed, width, encode, encodes, front, chars, decode}
use Rattle.nfc.proofs.SequencesLaws.{front_starts}
use Rattle.nfc.specs.EncodingsLaws.{scalar_below, front_encode}

pub width_some : (c : ℕ) → 1 ≤ width c
unfolding width
width_some c =
    either (ltb c 0x80) (λ p. rw p (omega arith)) λ p. rw p
    (either (ltb c 0x800) (λ q. rw q (omega arith)) λ q. rw q
    (either (ltb c 0x10000) (λ r. rw r (omega arith)) λ r. rw r (omega arith)))

pub length_encode : (c : ℕ) → length (encode c) ≡ width c
unfolding encode width
length_encode c =
    either (ltb c 0x80) (λ p. rw p) λ p. rw p
    (either (ltb c 0x800) (λ q. rw q) λ q. rw q
    (either (ltb c 0x10000) (λ r. rw r) λ r. rw r))

-- after a character fewer bytes are left
shorter : (b : ℕ) (t : List ℕ) (c k : ℕ) → length (b ∷ t) ≤ suc k → length (drop (width c) (b ∷ t)) ≤ k
shorter b t c k h = rw (length-drop (width c) (b ∷ t)) (omega (arith, width_some c))

-- any bound that is no less than the number of bytes does
enough : (j k : ℕ) (s : List ℕ) → length s ≤ j → length s ≤ k → chars j s ≡ chars k s
unfolding chars
enough zero zero s p q = refl
enough zero (suc k) [] p q = refl
enough zero (suc k) (b ∷ t) p q = absurd (omega arith)
enough (suc j) zero [] p q = refl
enough (suc j) zero (b ∷ t) p q = absurd (omega arith)
enough (suc j) (suc k) [] p q = refl
enough (suc j) (suc k) (b ∷ t) p q =
    let c = front (b ∷ t) in
    ap (λ (l : List ℕ). c ∷ cond (eqb c ill) [] l)
    (enough j k (drop (width c) (b ∷ t)) (shorter b t c j p) (shorter b t c k q))

-- one character, and what comes after it
pub decode_next :
    (s : List ℕ)
    → 0 < length s
    → decode s ≡ front s ∷ cond (eqb (front s) ill) [] (decode (drop (width (front s)) s))
unfolding decode chars
decode_next [] p = absurd (omega arith)
decode_next (b ∷ t) p =
    let c = front (b ∷ t) in
    let rest = drop (width c) (b ∷ t) in
    ap (λ (l : List ℕ). c ∷ cond (eqb c ill) [] l)
    (enough (length t) (length rest) rest (shorter b t c (length t) (omega arith)) (omega arith))

pub decode_end : (s : List ℕ) → length s ≤ 0 → decode s ≡ []
unfolding decode chars
decode_end [] p = refl
decode_end (b ∷ t) p = absurd (omega arith)

-- a well-formed character is all there
pub front_fits : (s : List ℕ) → 0 < length s → eqb (front s) ill ≡ false → width (front s) ≤ length s
front_fits [] p e = absurd (omega arith)
front_fits (b ∷ t) p e =
    let c = front (b ∷ t) in
    omega (arith, simp (length-append, length_encode) at (ap length (front_starts b t e).splits))

not_ill : (c : ℕ) → scalar c ≡ true → eqb c ill ≡ false
not_ill c e = ne_eqb c ill (λ q. omega (arith, scalar_below c e))

-- decoding undoes encoding, and goes on behind it
pub decode_append : (cs : List ℕ) → scalars cs ≡ true → (r : List ℕ) → decode (encodes cs ++ r) ≡ cs ++ decode r
unfolding scalars encodes
decode_append [] e r = refl
decode_append (c ∷ cs) e r =
    let s = and_left (scalar c) (scalars cs) e in
    let rest = encodes cs ++ r in
    let some : 0 < length (encode c ++ rest) =
    rw (length-append (encode c) rest, length_encode c) (omega (arith, width_some c))
    in
    rw (append_assoc (encode c) (encodes cs) r)
    (decode_next (encode c ++ rest) some
    ∙ rw (
      front_encode c rest s,
      not_ill c s,
      drop_at (encode c) rest (width c) (length_encode c),
      decode_append cs (and_right (scalar c) (scalars cs) e) r,
    ))

pub decode_encodes : (cs : List ℕ) → scalars cs ≡ true → decode (encodes cs) ≡ cs
decode_encodes cs e =
    ap decode (sym (append-nil (encodes cs)))
    ∙ decode_append cs e []
    ∙ rw (decode_end [] (omega arith)) (append-nil cs)

-- some bytes after those of the scalar values that they start with
pub record Behind (s cs ds : List ℕ) : Type 0 where
  pub rest : List ℕ
  pub bytes : encodes cs ++ rest ≡ s
  pub left : decode rest ≡ ds

pub behind : (cs ds s : List ℕ) → scalars cs ≡ true → decode s ≡ cs ++ ds → Behind s cs ds
unfolding scalars encodes
behind [] ds s e h = record { rest = s; bytes = refl; left = h }
behind (c ∷ cs) ds [] e h = absurd (omega (arith, ap length (sym (decode_end [] (omega arith)) ∙ h)))
behind (c ∷ cs) ds (b ∷ t) e h =
    let sc = and_left (scalar c) (scalars cs) e in
    let q = sym (decode_next (b ∷ t) (omega arith)) ∙ h in
    let is : front (b ∷ t) ≡ c = head q in
    let well : eqb (front (b ∷ t)) ill ≡ false = rw is (not_ill c sc) in
    let g = behind cs ds (drop (width c) (b ∷ t)) (and_right (scalar c) (scalars cs) e) (tail (rw (not_ill c sc) at (rw is at q))) in
    record {
      rest = g.rest;
      bytes =
          rw (append_assoc (encode c) (encodes cs) g.rest, g.bytes)
          (rw is at (front_starts b t well).splits);
      left = g.left;
    }

encodes_chars : (k : ℕ) (s : List ℕ) → length s ≤ k → scalars (chars k s) ≡ true → encodes (chars k s) ≡ s
unfolding scalars encodes chars
encodes_chars zero [] p e = refl
encodes_chars zero (b ∷ t) p e = absurd (omega arith)
encodes_chars (suc k) [] p e = refl
encodes_chars (suc k) (b ∷ t) p e =
    let c = front (b ∷ t) in
    let rest = drop (width c) (b ∷ t) in
    let s = and_left (scalar c) _ e in
    let q = rw (not_ill c s) at (and_right (scalar c) _ e) in
    rw (not_ill c s, encodes_chars k rest (shorter b t c k p) q) (front_starts b t (not_ill c s)).splits

-- encoding undoes decoding, on well-formed text
pub encodes_decode : (s : List ℕ) → scalars (decode s) ≡ true → encodes (decode s) ≡ s
unfolding decode
encodes_decode s e = encodes_chars (length s) s (omega arith) e

-- each character of some bytes is a scalar value, or stands for an ill-formed sequence
unfoldable pub read : List ℕ → Bool
read [] = true
read (c ∷ cs) = (scalar c || eqb c ill) && read cs

chars_read : (k : ℕ) (s : List ℕ) → read (chars k s) ≡ true
unfolding read chars
chars_read zero s = refl
chars_read (suc k) [] = refl
chars_read (suc k) (b ∷ t) =
    let c = front (b ∷ t) in
    either (eqb c ill)
    (λ q. rw q (either (scalar c) (λ p. rw p) (λ p. rw p)))
    (λ q. rw (q, (front_starts b t q).is) (chars_read k (drop (width c) (b ∷ t))))

pub decode_read : (s : List ℕ) → read (decode s) ≡ true
unfolding decode
decode_read s = chars_read (length s) s

-- nothing in the characters of some bytes is ill-formed exactly where the bytes are the encoding of scalar values, which are the characters
read_scalars : (cs : List ℕ) → read cs ≡ true → well_formed cs ≡ true → scalars cs ≡ true
unfolding read well_formed scalars
read_scalars [] e w = refl
read_scalars (c ∷ cs) e w =
    let q = not-true (eqb c ill) (and_left (not (eqb c ill)) _ w) in
    let s : scalar c ≡ true = either (scalar c) (λ p. p) (λ p. absurd (clash (and_left (scalar c || eqb c ill) _ e) (rw (p, q)))) in
    and_both _ _ s (read_scalars cs (and_right (scalar c || eqb c ill) _ e) (and_right (not (eqb c ill)) _ w))

scalars_well : (cs : List ℕ) → scalars cs ≡ true → well_formed cs ≡ true
unfolding scalars well_formed
scalars_well [] e = refl
scalars_well (c ∷ cs) e = rw (not_ill c (and_left (scalar c) _ e)) (scalars_well cs (and_right (scalar c) _ e))

pub well_formed_encoded : (s : List ℕ) → well_formed (decode s) ≡ true → (scalars (decode s) ≡ true) × (encodes (decode s) ≡ s)
well_formed_encoded s w =
    let e = read_scalars (decode s) (decode_read s) w in
    (e, encodes_decode s e)

pub encoded_well_formed : (cs : List ℕ) → scalars cs ≡ true → well_formed (decode (encodes cs)) ≡ true
encoded_well_formed cs e = rw (decode_encodes cs e) (scalars_well cs e)

-- an ill-formed sequence stands only where no scalar value's encoding does
pub ill_formed_none : (s : List ℕ) → eqb (front s) ill ≡ true → (c : ℕ) (r : List ℕ) → scalar c ≡ true → encode c ++ r ≡ s → ⊥
ill_formed_none s q c r e h = clash (rw (← h, front_encode c r e) at q) (not_ill c e)
