-- Laws of the chain of hash values over a text's blocks, for every kind.
use Rattle.std.proofs.Common.{ℕ, zero, suc, ◌+◌, ◌*◌, ◌≡◌, refl, List, take, drop, add-zero, add-suc, mul-suc, mul-add, drop-drop}
use Rattle.words.specs.Kind.{Kind, size}
use Rattle.compression.specs.Compression.{chain}
use Rattle.lists.specs.PartsLaws.{same_part, same_front}

module _ (s : Kind) (h : List ℕ) where
  -- n blocks look at no more than n blocks
  pub chain_agree : (n : ℕ) (x y : List ℕ) → take (size s * n) x ≡ take (size s * n) y → chain s h n x ≡ chain s h n y
  unfolding chain
  chain_agree zero x y e = refl
  chain_agree (suc n) x y e =
      let f : take (size s * n + size s) x ≡ take (size s * n + size s) y = rw mul-suc at e in
      rw (chain_agree n x y (same_front (size s * n) (size s) x y f), same_part (size s * n) (size s) x y f)

  -- the blocks of a text in two goes
  pub chain_add : (a b : ℕ) (x : List ℕ) → chain s h (a + b) x ≡ chain s (chain s h a x) b (drop (size s * a) x)
  unfolding chain
  chain_add a zero x = rw add-zero
  chain_add a (suc b) x = rw (add-suc, chain_add a b x, drop-drop (size s * b) (size s * a) x, mul-add)
