-- A text cut into chunks, in the code's own terms.
use Rattle.std.proofs.Common.{◌≡◌, ℕ, zero, suc, ◌+◌, ◌*◌, ◌<◌, List, [], length, get_or, take, drop, set, refl, ap, ◌∙◌, add-one, add_comm, mul-zero, mul-suc, arith, drop-drop}
use Rattle.std.specs.Simd.{first_chunks}
use Rattle.words.specs.Words.{number, words}
use Rattle.lists.specs.PartsLaws.{filled}

pub length_chunks : {A : Type 0} (s k : ℕ) (t : List A) → length (first_chunks s k t) ≡ k
length_chunks s zero t = refl
length_chunks s (suc k) t = ap suc (length_chunks s k (drop s t))

pub chunk_at : {A : Type 0} (s k i : ℕ) (t : List A) → i < k → get_or (first_chunks s k t) i [] ≡ take s (drop (s * i) t)
chunk_at s zero i t h = absurd (omega arith)
chunk_at s (suc k) zero t h = simp mul-zero
chunk_at s (suc k) (suc i) t h = chunk_at s k i (drop s t) (omega arith) ∙ rw (drop-drop, mul-suc, add_comm s (s * i))

-- one word more
pub words_more :
    (block w : List ℕ) (t k : ℕ) {x : ℕ}
    → t < length w
    → t < k
    → take t w ≡ words 4 t block
    → x ≡ number 0 (get_or (first_chunks 4 k block) t [])
    → take (t + 1) (set w t x) ≡ words 4 (t + 1) block
unfolding words
words_more block w t k {x} h few p e =
    filled w t (t + 1) x h (omega arith) p ∙ rw (add-one, e, chunk_at 4 k t block few)
