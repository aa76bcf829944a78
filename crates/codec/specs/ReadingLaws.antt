-- Laws of reading: what `with` is on each side of its test, and each step by its definition.
use Rattle.std.specs.Prelude.{◌≡◌, refl, Bool, true, false, cond, List, ℕ, ◌≤◌, ◌<◌, ltb, length}
use Rattle.std.proofs.Common.{sym, ap, subst, lt-ltb, le-ltb, ltb-false}
use Rattle.codec.specs.Reading.{Read, short, with}

-- fewer bits than are asked for
pub with_short : (n : ℕ) (b : List ℕ) (x : Read) → length b < n → with n b x ≡ short
with_short n b x h = ap (λ (t : Bool). cond t short x) (lt-ltb (length b) n h)

-- as many, or more
pub with_enough : (n : ℕ) (b : List ℕ) (x : Read) → n ≤ length b → with n b x ≡ x
with_enough n b x h = ap (λ (t : Bool). cond t short x) (le-ltb (length b) n h)

-- what holds of `short`, and of what is read where the bits are enough, holds either way
pub with_either : (P : Read → Type 0) (n : ℕ) (b : List ℕ) (x : Read) → P short → (n ≤ length b → P x) → P (with n b x)
with_either P n b x p q = go (ltb (length b) n) refl
  where
    go : (t : Bool) → ltb (length b) n ≡ t → P (with n b x)
    go true e = subst (λ (t : Bool). P (cond t short x)) (sym e) p
    go false e = subst (λ (t : Bool). P (cond t short x)) (sym e) (q (ltb-false (length b) n e))
