-- Laws of digits, over any list: what is left of them behind some.
use Rattle.std.proofs.Common.{◌≡◌, ℕ, ◌+◌, ◌*◌, ◌≤◌, ◌<◌, Bool, false, true, ◌&&◌, List, [], ◌∷◌, ◌++◌, length, take, drop, get_or, slice_set, refl, sym, ap, ◌∙◌, append_assoc, arith, Some, is_some}
use Rattle.std.proofs.Math.ListN.{drop_of_length-le}
use Rattle.std.specs.Option.{option_and_then}
use Rattle.lists.specs.PartsLaws.{next_cons, one_more}
use Rattle.digits.specs.Digits.{digit_of, value_of, is_hex, bytes_of, longer_with, reads, number_of}

module _ (l : List ℕ) (i : ℕ) (there : 2 * i + 1 < length l) where
  -- the two digits of byte i, and those behind them
  two_more : drop (2 * i) l ≡ get_or l (2 * i) 0 ∷ get_or l (2 * i + 1) 0 ∷ drop (2 * (i + 1)) l
  two_more =
      let next : 2 * i + 1 + 1 ≡ 2 * (i + 1) = omega arith in
      next_cons l (2 * i) 0 (omega arith)
      ∙ ap (λ (x : List ℕ). get_or l (2 * i) 0 ∷ x) (next_cons l (2 * i + 1) 0 there ∙ ap (λ (n : ℕ). get_or l (2 * i + 1) 0 ∷ drop n l) next)

  pub hex_more : is_hex (drop (2 * i) l) ≡ ((is_some (digit_of (get_or l (2 * i) 0)) && is_some (digit_of (get_or l (2 * i + 1) 0))) && is_hex (drop (2 * (i + 1)) l))
  unfolding is_hex
  hex_more = ap is_hex two_more

  -- the byte put down
  pub bytes_more :
      (out : List ℕ) (x y : ℕ)
      → digit_of (get_or l (2 * i) 0) ≡ Some x
      → digit_of (get_or l (2 * i + 1) 0) ≡ Some y
      → i < length out
      → take i out ++ bytes_of (drop (2 * i) l) ≡ bytes_of l
      → take (i + 1) (slice_set out i (16 * x + y)) ++ bytes_of (drop (2 * (i + 1)) l) ≡ bytes_of l
  unfolding bytes_of value_of
  bytes_more out x y first second room e =
      let v : ℕ = 16 * value_of (get_or l (2 * i) 0) + value_of (get_or l (2 * i + 1) 0) in
      let is : 16 * x + y ≡ v = rw (first, second) refl in
      let left : List ℕ = bytes_of (drop (2 * (i + 1)) l) in
      ap (λ (w : ℕ). take (i + 1) (slice_set out i w) ++ left) is
      ∙ ap (λ (z : List ℕ). z ++ left) (one_more out i v room)
      ∙ append_assoc (take i out) (v ∷ []) left
      ∙ ap (λ (z : List ℕ). take i out ++ z) (sym (ap bytes_of two_more))
      ∙ e

-- fewer than two digits spell no byte, and bytes only where there is none
pub end_bytes : (l : List ℕ) → length l < 2 → bytes_of l ≡ []
unfolding bytes_of
end_bytes [] h = refl
end_bytes (a ∷ []) h = refl
end_bytes (a ∷ b ∷ l) h = absurd (omega arith)

pub end_hex : (l : List ℕ) → length l < 2 → (t : Bool) → (t ≡ true → length l ≡ 0) → (t ≡ false → 0 < length l) → t ≡ is_hex l
unfolding is_hex
end_hex [] h true p q = refl
end_hex [] h false p q = absurd (omega (arith, q refl))
end_hex (a ∷ []) h true p q = absurd (omega (arith, p refl))
end_hex (a ∷ []) h false p q = refl
end_hex (a ∷ b ∷ l) h t p q = absurd (omega arith)

pub reads_more : (n : ℕ) (l : List ℕ) (i : ℕ) → i < length l → reads n (drop i l) ≡ option_and_then (λ m. reads m (drop (i + 1) l)) (longer_with n (get_or l i 0))
unfolding reads
reads_more n l i there = ap (reads n) (next_cons l i 0 there)

pub reads_all : (n : ℕ) (l : List ℕ) (i : ℕ) → length l ≤ i → reads n (drop i l) ≡ Some n
unfolding reads
reads_all n l i h = ap (reads n) (drop_of_length-le l {i = i} h)

pub number_reads : (l : List ℕ) → 0 < length l → number_of l ≡ reads 0 l
number_reads [] h = absurd (omega arith)
number_reads (b ∷ l) h = refl
