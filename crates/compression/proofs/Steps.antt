-- Laws of the schedule, the rounds and the chain, in the code's own terms.
use Rattle.std.proofs.Common.{◌≡◌, ℕ, zero, suc, ◌+◌, ◌-◌, ◌*◌, ◌<◌, ◌≤◌, List, [], length, get_or, take, set, refl, sym, ap, ◌∙◌, add-one, arith, length-set, get_or-take, take_all}
use Rattle.std.proofs.Math.Seq.{take-suc}
use Rattle.std.specs.Simd.{first_chunks}
use Rattle.words.specs.Words.{plus}
use Rattle.compression.specs.Compression.{following, schedule, round, rounds, added, compress, chain}
use Rattle.words.specs.Sha256.{sha256, constants}
use Rattle.lists.specs.PartsLaws.{filled}
use Rattle.compression.proofs.Block.{chunk_at}

-- the next word looks only at those before it
following_take : (w : List ℕ) (t : ℕ) → 16 ≤ t → following sha256 w t ≡ following sha256 (take t w) t
following_take w t h =
    cc (
      get_or-take t w (t - 2) 0 (omega arith),
      get_or-take t w (t - 7) 0 (omega arith),
      get_or-take t w (t - 15) 0 (omega arith),
      get_or-take t w (t - 16) 0 (omega arith),
    )

-- w begins with the first t words of the schedule of the block's words m
pub record Begins (m : List ℕ) (t : ℕ) (w : List ℕ) : Type 0 where
  pub from : 16 ≤ t
  pub room : length w ≡ 64
  pub first : take t w ≡ schedule sha256 (t - 16) m

-- one word more
pub schedule_more :
    (m : List ℕ) (t after : ℕ) (w u : List ℕ)
    → t < 64
    → after ≡ suc t
    → Begins m t w
    → u ≡ set w t (following sha256 w t)
    → Begins m after u
unfolding schedule
schedule_more m t after w u few e begun q =
    let n : after - 16 ≡ suc (t - 16) = omega arith in
    let at : 16 + (t - 16) ≡ t = omega arith in
    let same : following sha256 w t ≡ following sha256 (schedule sha256 (t - 16) m) t =
    following_take w t begun.from ∙ ap (λ (l : List ℕ). following sha256 l t) begun.first in
    record {
      from = omega arith;
      room = ap length q ∙ simp length-set begun.room;
      first = rw (q, n, at, ← same) (filled w t after (following sha256 w t) (omega arith) e begun.first);
    }

-- one round more, with the constants as the code has them
pub rounds_more :
    (h w : List ℕ) {k : List ℕ}
    → k ≡ constants
    → (t after : ℕ) (v u : List ℕ)
    → t < 64
    → after ≡ suc t
    → v ≡ rounds sha256 t h w
    → u ≡ round sha256 v (get_or k t 0) (get_or w t 0)
    → u ≡ rounds sha256 after h w
unfolding rounds
rounds_more h w c t after v u few e p q = rw (e, q, p, c)

-- What each step keeps, a turn of eight keeps: the schedule and the rounds go eight a turn.
pub eight :
    {Kept : ℕ → List ℕ → Type 0} {step : ℕ → List ℕ → List ℕ}
    → ((t after : ℕ) (v u : List ℕ) → t < 64 → after ≡ suc t → Kept t v → u ≡ step t v → Kept after u)
    → {v v1 v2 v3 v4 v5 v6 v7 v8 : List ℕ} (turn : ℕ)
    → turn < 8
    → Kept (8 * turn) v
    → v1 ≡ step (8 * turn) v
    → v2 ≡ step (8 * turn + 1) v1
    → v3 ≡ step (8 * turn + 2) v2
    → v4 ≡ step (8 * turn + 3) v3
    → v5 ≡ step (8 * turn + 4) v4
    → v6 ≡ step (8 * turn + 5) v5
    → v7 ≡ step (8 * turn + 6) v6
    → v8 ≡ step (8 * turn + 7) v7
    → Kept (8 * (turn + 1)) v8
eight more turn few p q1 q2 q3 q4 q5 q6 q7 q8 =
    let t : ℕ = 8 * turn in
    more (t + 7) (8 * (turn + 1)) _ _ (omega arith) (omega arith)
    (more (t + 6) (t + 7) _ _ (omega arith) (omega arith)
    (more (t + 5) (t + 6) _ _ (omega arith) (omega arith)
    (more (t + 4) (t + 5) _ _ (omega arith) (omega arith)
    (more (t + 3) (t + 4) _ _ (omega arith) (omega arith)
    (more (t + 2) (t + 3) _ _ (omega arith) (omega arith)
    (more (t + 1) (t + 2) _ _ (omega arith) (omega arith) (more t (t + 1) _ _ (omega arith) (omega arith) p q1) q2)
    q3)
    q4)
    q5)
    q6)
    q7)
    q8

-- the first n words of the sum
added_to :
    (h v r : List ℕ)
    → ((k : ℕ) → k < length r → get_or r k 0 ≡ plus 32 (get_or v k 0) (get_or h k 0))
    → (n : ℕ)
    → n ≤ length r
    → take n r ≡ added sha256 n h v
unfolding added
added_to h v r each zero fits = refl
added_to h v r each (suc n) fits = take-suc r n 0 (omega arith) ∙ rw (added_to h v r each n (omega arith), each n (omega arith))

pub added_is :
    (h v r : List ℕ)
    → length r ≡ 8
    → ((k : ℕ) → k < 8 → get_or r k 0 ≡ plus 32 (get_or v k 0) (get_or h k 0))
    → r ≡ added sha256 8 h v
added_is h v r eight each =
    sym (take_all 8 r (omega arith)) ∙ added_to h v r (λ k few. each k (omega arith)) 8 (omega arith)

-- one block more, of the first n of k
pub chain_more :
    (h t : List ℕ) (k n i : ℕ) {v u : List ℕ}
    → n ≤ k
    → i < n
    → v ≡ chain sha256 h i t
    → u ≡ compress sha256 v (get_or (take n (first_chunks 64 k t)) i [])
    → u ≡ chain sha256 h (i + 1) t
unfolding chain
chain_more h t k n i le few p q =
    rw (add-one, q, p, get_or-take n (first_chunks 64 k t) i [] few, chunk_at 64 k i t (omega arith))
