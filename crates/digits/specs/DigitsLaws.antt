-- Laws of digits, over any list: where they may be cut, and how many bytes they spell.
use Rattle.std.specs.Prelude.{ℕ, zero, suc, ◌+◌, ◌*◌, ◌≤◌, ◌≡◌, refl, Bool, true, false, ◌&&◌, List, [], ◌∷◌, ◌++◌, length, take, drop, is_some}
use Rattle.std.proofs.Common.{ap, subst, arith}
use Rattle.digits.specs.Digits.{digit_of, value_of, is_hex, bytes_of}

-- cut behind whole bytes
even : (k : ℕ) → suc (suc (2 * k)) ≡ 2 * suc k
even k = omega arith

pub hex_cut : (k : ℕ) (l : List ℕ) → is_hex l ≡ (is_hex (take (2 * k) l) && is_hex (drop (2 * k) l))
unfolding is_hex
hex_cut zero l = refl
hex_cut (suc k) l = subst (λ (n : ℕ). is_hex l ≡ (is_hex (take n l) && is_hex (drop n l))) (even k) (go (hex_cut k) l)
  where
    both : (s x y z : Bool) → x ≡ (y && z) → (s && x) ≡ ((s && y) && z)
    both true x y z e = e
    both false x y z e = refl

    go : ((l : List ℕ) → is_hex l ≡ (is_hex (take (2 * k) l) && is_hex (drop (2 * k) l))) → (l : List ℕ) → is_hex l ≡ (is_hex (take (suc (suc (2 * k))) l) && is_hex (drop (suc (suc (2 * k))) l))
    go again [] = refl
    go again (a ∷ []) = refl
    go again (a ∷ b ∷ l) = both (is_some (digit_of a) && is_some (digit_of b)) _ _ _ (again l)

pub bytes_cut : (k : ℕ) (l : List ℕ) → bytes_of l ≡ bytes_of (take (2 * k) l) ++ bytes_of (drop (2 * k) l)
unfolding bytes_of
bytes_cut zero l = refl
bytes_cut (suc k) l = subst (λ (n : ℕ). bytes_of l ≡ bytes_of (take n l) ++ bytes_of (drop n l)) (even k) (go (bytes_cut k) l)
  where
    go : ((l : List ℕ) → bytes_of l ≡ bytes_of (take (2 * k) l) ++ bytes_of (drop (2 * k) l)) → (l : List ℕ) → bytes_of l ≡ bytes_of (take (suc (suc (2 * k))) l) ++ bytes_of (drop (suc (suc (2 * k))) l)
    go again [] = refl
    go again (a ∷ []) = refl
    go again (a ∷ b ∷ l) = ap (λ (x : List ℕ). (16 * value_of a + value_of b) ∷ x) (again l)

pub bytes_long : (l : List ℕ) → length (bytes_of l) ≤ length l
unfolding bytes_of
bytes_long [] = omega arith
bytes_long (a ∷ []) = omega arith
bytes_long (a ∷ b ∷ l) = omega (arith, bytes_long l)
