-- The word of four bytes.
use Rattle.std.proofs.Common.{ℕ, ◌≡◌, List, [], ◌∷◌, length, arith}
use Rattle.std.specs.Int.{w32, from_be_bytes}
use Rattle.words.specs.Words.{number}

pub word_is : (l : List ℕ) → length l ≡ 4 → from_be_bytes w32 l ≡ number 0 l
unfolding number
word_is [] e = absurd (omega arith)
word_is (a ∷ []) e = absurd (omega arith)
word_is (a ∷ b ∷ []) e = absurd (omega arith)
word_is (a ∷ b ∷ c ∷ []) e = absurd (omega arith)
word_is (a ∷ b ∷ c ∷ d ∷ []) e = omega arith
word_is (a ∷ b ∷ c ∷ d ∷ x ∷ l) e = absurd (omega arith)
