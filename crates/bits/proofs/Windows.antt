-- Reading: a field lies in the window of the three bytes at which it begins, and a byte that begins inside one in a window of two.
use mathlib.Core.Path.{◌≡◌, refl, sym, ap, ap₂, subst, ◌∙◌}
use mathlib.Core.List.{List, [], ◌∷◌, ◌++◌}
use Prim.Native.Nat.{ℕ, zero, suc, ◌+◌, ◌-◌, ◌*◌, ◌/◌, ◌%◌, ◌^◌, ◌≤◌, ◌<◌}
use native.Mathlib.Nat.{add-zero, mod-eq_of_lt, mod-lt, one-mul, lt_of_le_of_lt}
use native.Mathlib.Numerals.{add-one}
use native.Mathlib.Omega.{arith}
use lib.Dec.{lit<}
use lib.Pow.{pow_pos, pow_mono}
use lib.ListN.{length, take, drop, get_or, set, length-drop, take-append-drop}
use lib.Seq.{drop-drop, get_or-drop, take-suc-set, length-take-le}
use Rattle.lists.specs.Lists.{Below}
use Rattle.lists.specs.ListsLaws.{below_take, below_drop}
use Rattle.lists.specs.PartsLaws.{part_within}
use Rattle.bits.specs.Bits.{bits_in, bits_of, num_of, octets}
use Rattle.bits.specs.FieldLaws.{num_append, num_field, num_part}
use Rattle.bits.specs.ByteLaws.{length_bits_of, bits_of_append, drop_bits_of, octets_bits_of}
use Rattle.bits.specs.Reads.{FieldGives}

-- `1 << n`
pub one_shl : (n : ℕ) → n ≤ 16 → 1 * 2 ^ n % 2 ^ 64 ≡ 2 ^ n
one_shl n h = mod-eq_of_lt (lt_of_le_of_lt (subst (λ (k : ℕ). k ≤ 2 ^ 16) (sym (one-mul (2 ^ n))) (pow_mono h)) (lit< tt)) ∙ one-mul (2 ^ n)

-- where the bytes at i are p, with any bytes z put behind the end, a field that ends k bits before the end of p is a shift and a remainder of p's number
field_at : (s p q z : List ℕ) (i o n k : ℕ) → drop i s ++ z ≡ p ++ q → o + n + k ≡ 8 * length p → o + n ≤ 8 * length (drop i s)
    → num_of (take n (drop (8 * i + o) (bits_of s))) ≡ num_of (bits_of p) / 2 ^ k % 2 ^ n
field_at s p q z i o n k e full within =
    let b : List ℕ = bits_of (drop i s) in
    let h : o + n ≤ length b = omega (arith, length_bits_of (drop i s)) in
    let g : o + n ≤ length (bits_of p) = omega (arith, length_bits_of p) in
    ap (λ (l : List ℕ). num_of (take n l)) (sym (drop-drop o (8 * i) (bits_of s)) ∙ ap (drop o) (drop_bits_of i s))
    ∙ ap num_of (sym (part_within n o b (bits_of z) h))
    ∙ ap (λ (l : List ℕ). num_of (take n (drop o l))) (sym (bits_of_append (drop i s) z) ∙ ap bits_of e ∙ bits_of_append p q)
    ∙ ap num_of (part_within n o (bits_of p) (bits_of q) g)
    ∙ num_part o n k (bits_of p) (full ∙ sym (length_bits_of p))

-- the number of one byte more
num_more : (x : ℕ) (s : List ℕ) → x < 256 → num_of (bits_of (x ∷ s)) ≡ x * 2 ^ (8 * length s) + num_of (bits_of s)
unfolding bits_of
num_more x s h =
    num_append (bits_in 8 x) (bits_of s)
    ∙ ap₂ (λ (a k : ℕ). a * 2 ^ k + num_of (bits_of s)) (num_field 8 h) (length_bits_of s)

num_none : num_of (bits_of []) ≡ 0
unfolding num_of bits_of
num_none = refl

two_first : (t : List ℕ) → t ++ (0 ∷ 0 ∷ []) ≡ (get_or t 0 0 ∷ get_or t 1 0 ∷ []) ++ drop 2 (t ++ (0 ∷ 0 ∷ []))
two_first [] = refl
two_first (a ∷ []) = refl
two_first (a ∷ b ∷ t) = refl

three_first : (t : List ℕ) → t ++ (0 ∷ 0 ∷ 0 ∷ []) ≡ (get_or t 0 0 ∷ get_or t 1 0 ∷ get_or t 2 0 ∷ []) ++ drop 3 (t ++ (0 ∷ 0 ∷ 0 ∷ []))
three_first [] = refl
three_first (a ∷ []) = refl
three_first (a ∷ b ∷ []) = refl
three_first (a ∷ b ∷ c ∷ t) = refl

-- what the code reads of the three bytes, each 0 past the end
pub field_read : (s : List ℕ) (at n : ℕ) {a b c : ℕ} → n ≤ 16 → at + n ≤ 8 * length s
    → a ≡ get_or s (at / 8) 0 → b ≡ get_or s (at / 8 + 1) 0 → c ≡ get_or s (at / 8 + 2) 0 → a < 256 → b < 256 → c < 256
    → FieldGives s at n ((a * 65536 + b * 256 + c) / 2 ^ (24 - at % 8 - n) % (1 * 2 ^ n % 2 ^ 64))
field_read s at n {a} {b} {c} h fits ea eb ec ha hb hc =
    let i : ℕ = at / 8 in
    let o : ℕ = at % 8 in
    let k : ℕ = 24 - at % 8 - n in
    let t : List ℕ = drop i s in
    let p : List ℕ = a ∷ b ∷ c ∷ [] in
    let z : List ℕ = 0 ∷ 0 ∷ 0 ∷ [] in
    let w : ℕ = a * 65536 + b * 256 + c in
    let ga : get_or t 0 0 ≡ a = get_or-drop i s 0 0 ∙ ap (λ (j : ℕ). get_or s j 0) (add-zero i) ∙ sym ea in
    let gb : get_or t 1 0 ≡ b = get_or-drop i s 1 0 ∙ sym eb in
    let gc : get_or t 2 0 ≡ c = get_or-drop i s 2 0 ∙ sym ec in
    let e : t ++ z ≡ p ++ drop 3 (t ++ z) =
    three_first t ∙ (λ j. (ga j ∷ gb j ∷ gc j ∷ []) ++ drop 3 (t ++ z)) in
    let num : num_of (bits_of p) ≡ w = omega (arith, num_more a (b ∷ c ∷ []) ha, num_more b (c ∷ []) hb, num_more c [] hc, num_none) in
    let whole : 8 * i + o ≡ at = omega arith in
    let f : num_of (take n (drop (8 * i + o) (bits_of s))) ≡ num_of (bits_of p) / 2 ^ k % 2 ^ n =
    field_at s p (drop 3 (t ++ z)) z i o n k e (omega arith) (omega (arith, length-drop i s)) in
    let r : w / 2 ^ k % (1 * 2 ^ n % 2 ^ 64) ≡ w / 2 ^ k % 2 ^ n = ap (λ (j : ℕ). w / 2 ^ k % j) (one_shl n h) in
    record {
      value = r ∙ ap (λ (j : ℕ). j / 2 ^ k % 2 ^ n) (sym num) ∙ sym f ∙ ap (λ (j : ℕ). num_of (take n (drop j (bits_of s)))) whole;
      small = subst (λ (j : ℕ). j < 2 ^ n) (sym r) (mod-lt (w / 2 ^ k) (pow_pos n));
    }

pub octets_none : (bs : List ℕ) → octets 0 bs ≡ []
unfolding octets
octets_none bs = refl

-- one byte more of those that begin at a bit
pub octets_more : (n : ℕ) (bs : List ℕ) → octets (suc n) bs ≡ octets n bs ++ (num_of (take 8 (drop (8 * n) bs)) ∷ [])
unfolding octets
octets_more zero bs = refl
octets_more (suc n) bs =
    let e : 8 + 8 * n ≡ 8 * suc n = omega arith in
    ap (λ (l : List ℕ). num_of (take 8 bs) ∷ l)
    (octets_more n (drop 8 bs)
    ∙ ap (λ (l : List ℕ). octets n (drop 8 bs) ++ (num_of (take 8 l) ∷ [])) (drop-drop (8 * n) 8 bs ∙ ap (λ (k : ℕ). drop k bs) e))

-- a turn of the loop: the byte at j is made of the bytes at i + j and behind it
pub shifted_more : (s dst : List ℕ) (i off j : ℕ) {a b : ℕ} → off < 8 → i + j + 1 < length s → j < length dst
    → a ≡ get_or s (i + j) 0 → b ≡ get_or s (i + j + 1) 0 → a < 256 → b < 256
    → take j dst ≡ octets j (drop (8 * i + off) (bits_of s))
    → take (j + 1) (set dst j ((a * 256 + b) / 2 ^ (8 - off) % 256)) ≡ octets (j + 1) (drop (8 * i + off) (bits_of s))
shifted_more s dst i off j {a} {b} h room within ea eb ha hb before =
    let m : ℕ = i + j in
    let t : List ℕ = drop m s in
    let p : List ℕ = a ∷ b ∷ [] in
    let z : List ℕ = 0 ∷ 0 ∷ [] in
    let x : ℕ = (a * 256 + b) / 2 ^ (8 - off) % 256 in
    let bs : List ℕ = drop (8 * i + off) (bits_of s) in
    let ga : get_or t 0 0 ≡ a = get_or-drop m s 0 0 ∙ ap (λ (k : ℕ). get_or s k 0) (add-zero m) ∙ sym ea in
    let gb : get_or t 1 0 ≡ b = get_or-drop m s 1 0 ∙ sym eb in
    let e : t ++ z ≡ p ++ drop 2 (t ++ z) = two_first t ∙ (λ k. (ga k ∷ gb k ∷ []) ++ drop 2 (t ++ z)) in
    let num : num_of (bits_of p) ≡ a * 256 + b = omega (arith, num_more a (b ∷ []) ha, num_more b [] hb, num_none) in
    let spot : 8 * i + off + 8 * j ≡ 8 * m + off = omega arith in
    let f : num_of (take 8 (drop (8 * m + off) (bits_of s))) ≡ num_of (bits_of p) / 2 ^ (8 - off) % 2 ^ 8 =
    field_at s p (drop 2 (t ++ z)) z m off 8 (8 - off) e (omega arith) (omega (arith, length-drop m s)) in
    let g : num_of (take 8 (drop (8 * j) bs)) ≡ x =
    ap (λ (l : List ℕ). num_of (take 8 l)) (drop-drop (8 * j) (8 * i + off) (bits_of s) ∙ ap (λ (k : ℕ). drop k (bits_of s)) spot)
    ∙ f ∙ ap (λ (k : ℕ). k / 2 ^ (8 - off) % 256) num in
    ap (λ (k : ℕ). take k (set dst j x)) (add-one j)
    ∙ take-suc-set dst j x within
    ∙ ap₂ (λ (l : List ℕ) (y : ℕ). l ++ (y ∷ [])) before (sym g)
    ∙ sym (octets_more j bs)
    ∙ ap (λ (k : ℕ). octets k bs) (sym (add-one j))

-- where the bit is a byte's first, the bytes are those of the slice
pub whole_bytes : (s dst part : List ℕ) (at : ℕ) → Below 256 s → at % 8 ≡ 0 → at + 8 * length dst ≤ 8 * length s
    → (let i : ℕ = at / 8 in
    part ≡ take (i + length dst - i) (drop i s))
    → part ≡ octets (length dst) (drop at (bits_of s))
whole_bytes s dst part at bytes even fits e =
    let i : ℕ = at / 8 in
    let n : ℕ = i + length dst - i in
    let t : List ℕ = drop i s in
    let src : List ℕ = take n t in
    let long : length src ≡ length dst = length-take-le n t (omega (arith, length-drop i s)) ∙ omega arith in
    let spot : 8 * i ≡ at = omega arith in
    let b : drop at (bits_of s) ≡ bits_of src ++ bits_of (drop n t) =
    ap (λ (k : ℕ). drop k (bits_of s)) (sym spot) ∙ drop_bits_of i s ∙ ap bits_of (sym (take-append-drop n t)) ∙ bits_of_append src (drop n t) in
    e
    ∙ sym (octets_bits_of src (bits_of (drop n t)) (below_take 256 n t (below_drop 256 i s bytes)))
    ∙ ap₂ octets long (sym b)
