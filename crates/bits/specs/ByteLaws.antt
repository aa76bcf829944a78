-- Laws of bytes: their bits, the bytes of a run of bits, and what is packed.
use Rattle.std.specs.Prelude.{◌≡◌, refl, List, [], ◌∷◌, ◌++◌, ℕ, zero, suc, ◌+◌, ◌-◌, ◌*◌, ◌/◌, ◌≤◌, ◌<◌, length, take, drop, replicate}
use Rattle.std.proofs.Common.{sym, ap, ap₂, ◌∙◌, append_assoc, lt_of_lt_of_le, add-sub_of_le, le_of_suc-le-suc, arith, pow_mono, length-append, length-take, length-drop, length-take-le, take_at, drop_at, take-add}
use Rattle.std.proofs.lemmas.List.{length-replicate, replicate-append-replicate}
use Rattle.std.proofs.Math.Seq.{take-append-add, drop-append-add, drop-nil}
use Rattle.lists.specs.Lists.{Below}
use Rattle.lists.specs.ListsLaws.{below_cons, below_append, below_take, below_drop, below_replicate}
use Rattle.lists.specs.PartsLaws.{take_replicate}
use Rattle.bits.specs.Bits.{bits_in, bits_of, num_of, octets, packed}
use Rattle.bits.specs.FieldLaws.{length_bits_in, below_bits_in, num_small, num_field, bits_num}

pub length_bits_of : (s : List ℕ) → length (bits_of s) ≡ 8 * length s
unfolding bits_of
length_bits_of [] = refl
length_bits_of (x ∷ s) = length-append (bits_in 8 x) (bits_of s) ∙ omega (arith, length_bits_in 8 x, length_bits_of s)

pub length_octets : (n : ℕ) (bs : List ℕ) → length (octets n bs) ≡ n
unfolding octets
length_octets zero bs = refl
length_octets (suc n) bs = ap suc (length_octets n (drop 8 bs))

-- as many bytes as hold the bits
pub length_packed : (bs : List ℕ) → length (packed bs) ≡ (length bs + 7) / 8
unfolding packed
length_packed bs = length_octets ((length bs + 7) / 8) (bs ++ replicate 7 0)

pub below_bits_of : (s : List ℕ) → Below 2 (bits_of s)
unfolding bits_of
below_bits_of [] = λ i. omega arith
below_bits_of (x ∷ s) = below_append 2 (bits_in 8 x) (bits_of s) (below_bits_in 8 x) (below_bits_of s)

pub bits_of_append : (s t : List ℕ) → bits_of (s ++ t) ≡ bits_of s ++ bits_of t
unfolding bits_of
bits_of_append [] t = refl
bits_of_append (x ∷ s) t = ap (λ (l : List ℕ). bits_in 8 x ++ l) (bits_of_append s t) ∙ sym (append_assoc (bits_in 8 x) (bits_of s) (bits_of t))

-- the bits behind the first i bytes
pub drop_bits_of : (i : ℕ) (s : List ℕ) → drop (8 * i) (bits_of s) ≡ bits_of (drop i s)
unfolding bits_of
drop_bits_of zero s = refl
drop_bits_of (suc i) [] = drop-nil (8 * suc i)
drop_bits_of (suc i) (x ∷ s) =
    let e : 8 * suc i ≡ length (bits_in 8 x) + 8 * i = omega (arith, length_bits_in 8 x) in
    ap (λ (k : ℕ). drop k (bits_in 8 x ++ bits_of s)) e
    ∙ drop-append-add (bits_in 8 x) (bits_of s) (8 * i)
    ∙ drop_bits_of i s

pub below_octets : (n : ℕ) (bs : List ℕ) → Below 256 (octets n bs)
unfolding octets
below_octets zero bs = λ i. omega arith
below_octets (suc n) bs =
    below_cons 256 (octets n (drop 8 bs)) (lt_of_lt_of_le (num_small (take 8 bs)) (pow_mono {j = 8} (rw length-take (omega arith))))
    (below_octets n (drop 8 bs))

-- the bytes of their bits are the bytes, whatever follows
pub octets_bits_of : (s z : List ℕ) → Below 256 s → octets (length s) (bits_of s ++ z) ≡ s
unfolding octets bits_of
octets_bits_of [] z h = refl
octets_bits_of (x ∷ s) z h =
    let t : List ℕ = bits_of s ++ z in
    let e : (bits_in 8 x ++ bits_of s) ++ z ≡ bits_in 8 x ++ t = append_assoc (bits_in 8 x) (bits_of s) z in
    ap₂ (λ (y : ℕ) (l : List ℕ). y ∷ l)
    (ap (λ (l : List ℕ). num_of (take 8 l)) e ∙ ap num_of (take_at (bits_in 8 x) t 8 (length_bits_in 8 x)) ∙ num_field 8 (h 0))
    (ap (λ (l : List ℕ). octets (length s) (drop 8 l)) e ∙ ap (octets (length s)) (drop_at (bits_in 8 x) t 8 (length_bits_in 8 x))
    ∙ octets_bits_of s z (λ i. h (suc i)))

-- the bits of the first n bytes are the first 8 * n bits
pub bits_of_octets : (n : ℕ) (bs : List ℕ) → Below 2 bs → 8 * n ≤ length bs → bits_of (octets n bs) ≡ take (8 * n) bs
unfolding octets bits_of
bits_of_octets zero bs h g = refl
bits_of_octets (suc n) bs h g =
    let all : 8 + 8 * n ≡ 8 * suc n = omega arith in
    let long : length (take 8 bs) ≡ 8 = length-take-le 8 bs (omega arith) in
    let e : bits_in 8 (num_of (take 8 bs)) ≡ take 8 bs =
    ap (λ (k : ℕ). bits_in k (num_of (take 8 bs))) (sym long) ∙ bits_num (take 8 bs) (below_take 2 8 bs h) in
    ap₂ (λ (a b : List ℕ). a ++ b) e (bits_of_octets n (drop 8 bs) (below_drop 2 8 bs h) (rw length-drop (omega arith)))
    ∙ sym (take-add 8 (8 * n) bs)
    ∙ ap (λ (k : ℕ). take k bs) all

-- the zero bits behind n bits "to the byte's end"
abbrev pub padding : ℕ → ℕ
padding n = 8 * ((n + 7) / 8) - n

pub padding_few : (n : ℕ) → padding n < 8
padding_few n = omega arith

-- "0 to 7 zero bits to the byte's end, and nothing more"
pub bits_of_packed : (bs : List ℕ) → Below 2 bs → bits_of (packed bs) ≡ bs ++ replicate (padding (length bs)) 0
unfolding packed
bits_of_packed bs h =
    let m : ℕ = (length bs + 7) / 8 in
    let e : 8 * m ≡ length bs + padding (length bs) = omega arith in
    bits_of_octets m (bs ++ replicate 7 0) (below_append 2 bs (replicate 7 0) h (below_replicate 2 7 (omega arith)))
    (rw length-append (omega arith))
    ∙ ap (λ (k : ℕ). take k (bs ++ replicate 7 0)) e
    ∙ take-append-add bs (replicate 7 0) (padding (length bs))
    ∙ ap (λ (l : List ℕ). bs ++ l) (take_replicate (padding (length bs)) 7 0 (omega arith))

-- bytes whose bits are bs and fewer than 8 zeros are bs packed
pub packed_is : (s bs : List ℕ) (k : ℕ) → Below 256 s → k < 8 → bits_of s ≡ bs ++ replicate k 0 → s ≡ packed bs
unfolding packed
packed_is s bs k h few e =
    let n : length bs + k ≡ 8 * length s =
    omega (arith, length-append bs (replicate k 0), length-replicate {A = ℕ} k 0, ap length e, length_bits_of s) in
    let m : length s ≡ (length bs + 7) / 8 = omega arith in
    let z : bits_of s ++ replicate (7 - k) 0 ≡ bs ++ replicate 7 0 =
    ap (λ (l : List ℕ). l ++ replicate (7 - k) 0) e
    ∙ append_assoc bs (replicate k 0) (replicate (7 - k) 0)
    ∙ ap (λ (l : List ℕ). bs ++ l) (replicate-append-replicate k (7 - k) 0)
    ∙ ap (λ (j : ℕ). bs ++ replicate j 0) (add-sub_of_le (le_of_suc-le-suc few)) in
    sym (octets_bits_of s (replicate (7 - k) 0) h) ∙ ap₂ octets m z
