-- Laws of a field: the number of its bits, and the bits of its number.
use Rattle.std.specs.Prelude.{◌≡◌, refl, List, [], ◌∷◌, ◌++◌, ℕ, zero, suc, ◌+◌, ◌*◌, ◌/◌, ◌%◌, ◌^◌, ◌<◌, length, take, drop, replicate}
use Rattle.std.proofs.Common.{sym, ap, ap₂, subst, ◌∙◌, add-mul, mul_assoc, add_assoc, pow-suc, suc-add, mod-eq_of_lt, mul_comm, add_comm, zero-add, one-add, arith, pow_pos, pow-add, shr-shr, length-append, length-drop, take-append-drop, length-take-le}
use Rattle.std.proofs.Math.Nat.{mod-mod, zero-div, mul-add-div_right}
use Rattle.std.proofs.Math.Arith.{digits_lt}
use Rattle.std.proofs.Math.Pow.{high, low, split}
use Rattle.std.proofs.lemmas.Nat.{mod-pow-add}
use Rattle.lists.specs.Lists.{Below}
use Rattle.lists.specs.ListsLaws.{below_cons}
use Rattle.bits.specs.Bits.{bits_in, num_of}

pub length_bits_in : (n v : ℕ) → length (bits_in n v) ≡ n
unfolding bits_in
length_bits_in zero v = refl
length_bits_in (suc n) v = ap suc (length_bits_in n v)

pub below_bits_in : (n v : ℕ) → Below 2 (bits_in n v)
unfolding bits_in
below_bits_in zero v = λ i. omega arith
below_bits_in (suc n) v = below_cons 2 (bits_in n v) (omega arith) (below_bits_in n v)

-- the number of two fields end to end
pub num_append : (a b : List ℕ) → num_of (a ++ b) ≡ num_of a * 2 ^ length b + num_of b
unfolding num_of
num_append [] b = omega arith
num_append (x ∷ a) b =
    let e : 2 ^ length (a ++ b) ≡ 2 ^ length a * 2 ^ length b = ap (λ (k : ℕ). 2 ^ k) (length-append a b) ∙ pow-add 2 (length a) (length b) in
    rw (e, num_append a b, ← mul_assoc, ← add_assoc, ← add-mul)

-- a field of n bits holds a number of n bits
pub num_small : (l : List ℕ) → num_of l < 2 ^ length l
unfolding num_of
num_small [] = omega arith
num_small (x ∷ l) =
    let h : x % 2 * 2 ^ length l + num_of l < 2 * 2 ^ length l = digits_lt (omega arith) (num_small l) in
    omega (arith, pow-suc 2 (length l))

-- a field of n bits keeps the lowest n bits of a number
pub num_bits_in : (n v : ℕ) → num_of (bits_in n v) ≡ v % 2 ^ n
unfolding num_of bits_in
num_bits_in zero v = omega arith
num_bits_in (suc n) v =
    let e : v % 2 ^ (1 + n) ≡ (v / 2 ^ n % 2 ^ 1) * 2 ^ n + v % 2 ^ n = mod-pow-add v 1 n in
    let m : v / 2 ^ n % 2 % 2 ≡ v / 2 ^ n % 2 = mod-mod (v / 2 ^ n) 2 in
    let g : v % 2 ^ suc n ≡ v % 2 ^ (1 + n) = ap (λ (k : ℕ). v % 2 ^ k) (sym (one-add n)) in
    rw (m, length_bits_in n v, num_bits_in n v) (sym (g ∙ e))

-- so it gives back the number that was written, if that is one of n bits
pub num_field : (n : ℕ) {v : ℕ} → v < 2 ^ n → num_of (bits_in n v) ≡ v
num_field n {v} h = num_bits_in n v ∙ mod-eq_of_lt h

-- a field within a run: a shift and a remainder
pub num_part : (o n k : ℕ) (l : List ℕ) → o + n + k ≡ length l → num_of (take n (drop o l)) ≡ num_of l / 2 ^ k % 2 ^ n
num_part o n k l h =
    let p : List ℕ = drop o l in
    let np : length p ≡ n + k = length-drop o l ∙ omega arith in
    let nc : length (drop n p) ≡ k = length-drop n p ∙ omega arith in
    let small : num_of (drop n p) < 2 ^ k = subst (λ (j : ℕ). num_of (drop n p) < 2 ^ j) nc (num_small (drop n p)) in
    let b : num_of p ≡ num_of (take n p) * 2 ^ k + num_of (drop n p) =
    ap num_of (sym (take-append-drop n p)) ∙ num_append (take n p) (drop n p)
    ∙ ap (λ (j : ℕ). num_of (take n p) * 2 ^ j + num_of (drop n p)) nc in
    let a : num_of l ≡ (num_of (take o l) * 2 ^ n + num_of (take n p)) * 2 ^ k + num_of (drop n p) =
    ap num_of (sym (take-append-drop o l)) ∙ num_append (take o l) p
    ∙ ap₂ (λ (j m : ℕ). num_of (take o l) * j + m) (ap (λ (j : ℕ). 2 ^ j) np ∙ pow-add 2 n k) b
    ∙ grouped (num_of (take o l)) (2 ^ n) (num_of (take n p)) (2 ^ k) (num_of (drop n p)) in
    let t : num_of (take n p) < 2 ^ n =
    subst (λ (j : ℕ). num_of (take n p) < 2 ^ j) (length-take-le n p (omega arith)) (num_small (take n p)) in
    sym
    (ap (λ (j : ℕ). j / 2 ^ k % 2 ^ n) a
    ∙ ap (λ (j : ℕ). j % 2 ^ n) (high (num_of (take o l) * 2 ^ n + num_of (take n p)) k small)
    ∙ low (num_of (take o l)) n t)
  where
    grouped : (x m y k z : ℕ) → x * (m * k) + (y * k + z) ≡ (x * m + y) * k + z
    grouped x m y k z = sym (add_assoc (x * (m * k)) (y * k) z) ∙ ap (λ (j : ℕ). j + y * k + z) (sym (mul_assoc x m k)) ∙ ap (λ (j : ℕ). j + z) (sym (add-mul (x * m) y k))

-- what stands above the lowest n bits has no part in a field of n bits
pub bits_low : (n x v : ℕ) → bits_in n (x * 2 ^ n + v) ≡ bits_in n v
unfolding bits_in
bits_low zero x v = refl
bits_low (suc n) x v =
    let e : x * 2 ^ suc n + v ≡ x * 2 * 2 ^ n + v =
    ap (λ (k : ℕ). k + v) (ap (λ (k : ℕ). x * k) (pow-suc 2 n ∙ mul_comm (2 ^ n) 2) ∙ sym (mul_assoc x 2 (2 ^ n))) in
    let d : (x * 2 * 2 ^ n + v) / 2 ^ n ≡ x * 2 + v / 2 ^ n = mul-add-div_right (pow_pos n) (x * 2) v in
    let h : (x * 2 ^ suc n + v) / 2 ^ n % 2 ≡ v / 2 ^ n % 2 = ap (λ (k : ℕ). k / 2 ^ n % 2) e ∙ ap (λ (k : ℕ). k % 2) d ∙ omega arith in
    ap₂ (λ (b : ℕ) (l : List ℕ). b ∷ l) h (ap (bits_in n) e ∙ bits_low n (x * 2) v)

pub bits_mod : (n v : ℕ) → bits_in n (v % 2 ^ n) ≡ bits_in n v
bits_mod n v = sym (bits_low n (v / 2 ^ n) (v % 2 ^ n)) ∙ ap (bits_in n) (split v n)

-- a field of m + n bits is one of m bits and one of n bits
pub bits_split : (m n v : ℕ) → bits_in (m + n) v ≡ bits_in m (v / 2 ^ n) ++ bits_in n v
unfolding bits_in
bits_split zero n v = ap (λ (k : ℕ). bits_in k v) (zero-add n)
bits_split (suc m) n v =
    let d : v / 2 ^ (m + n) ≡ v / 2 ^ n / 2 ^ m = ap (λ (k : ℕ). v / 2 ^ k) (add_comm m n) ∙ sym (shr-shr v n m) in
    ap (λ (k : ℕ). bits_in k v) (suc-add m n) ∙ ap₂ (λ (b : ℕ) (l : List ℕ). b % 2 ∷ l) d (bits_split m n v)

pub bits_join : (m n a : ℕ) {b : ℕ} → b < 2 ^ n → bits_in (m + n) (a * 2 ^ n + b) ≡ bits_in m a ++ bits_in n b
bits_join m n a {b} h =
    bits_split m n (a * 2 ^ n + b) ∙ ap₂ (λ (x y : List ℕ). x ++ y) (ap (bits_in m) (high a n h)) (bits_low n a b)

-- bits are the field of their number
pub bits_num : (l : List ℕ) → Below 2 l → bits_in (length l) (num_of l) ≡ l
unfolding num_of bits_in
bits_num [] h = refl
bits_num (x ∷ l) h =
    let e : (x % 2 * 2 ^ length l + num_of l) / 2 ^ length l ≡ x % 2 = high (x % 2) (length l) (num_small l) in
    let b : (x % 2 * 2 ^ length l + num_of l) / 2 ^ length l % 2 ≡ x = ap (λ (k : ℕ). k % 2) e ∙ omega (arith, h 0) in
    ap₂ (λ (b : ℕ) (l : List ℕ). b ∷ l) b (bits_low (length l) (x % 2) (num_of l) ∙ bits_num l (λ i. h (suc i)))

-- a field of zero bits
pub bits_zero : (n : ℕ) → bits_in n 0 ≡ replicate n 0
unfolding bits_in
bits_zero zero = refl
bits_zero (suc n) = ap₂ (λ (b : ℕ) (l : List ℕ). b ∷ l) (ap (λ (k : ℕ). k % 2) (zero-div (2 ^ n))) (bits_zero n)
