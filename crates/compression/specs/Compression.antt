-- FIPS 180-4, section 6.2.2 (and 6.4.2): one block.
use Rattle.std.specs.Prelude.{ℕ, zero, suc, ◌+◌, ◌-◌, ◌*◌, List, [], ◌∷◌, ◌++◌, length, take, drop, slice_index}
use Rattle.words.specs.Kind.{Kind, size}
use Rattle.words.specs.Words.{plus, ch, maj, words}

-- step 1: W(t) = σ1(W(t-2)) + W(t-7) + σ0(W(t-15)) + W(t-16), from the words before it
abbrev pub following : Kind → List ℕ → ℕ → ℕ
following s w t =
    plus s.width
    (plus s.width (plus s.width (s.sigma1 (slice_index w (t - 2))) (slice_index w (t - 7))) (s.sigma0 (slice_index w (t - 15))))
    (slice_index w (t - 16))

-- step 1: the 16 words of the block, then n more
unfoldable pub schedule : Kind → ℕ → List ℕ → List ℕ
schedule s zero m = m
schedule s (suc n) m = schedule s n m ++ (following s (schedule s n m) (16 + n) ∷ [])

-- step 3: T1 = h + Σ1(e) + Ch(e, f, g) + K(t) + W(t), with a to h as the eight words of v
abbrev pub first : Kind → List ℕ → ℕ → ℕ → ℕ
first s v k w =
    plus s.width
    (plus s.width
    (plus s.width (plus s.width (slice_index v 7) (s.sum1 (slice_index v 4))) (ch s.width (slice_index v 4) (slice_index v 5) (slice_index v 6)))
    k)
    w

-- step 3: T2 = Σ0(a) + Maj(a, b, c)
abbrev pub second : Kind → List ℕ → ℕ
second s v = plus s.width (s.sum0 (slice_index v 0)) (maj (slice_index v 0) (slice_index v 1) (slice_index v 2))

-- step 3: h = g, g = f, f = e, e = d + T1, d = c, c = b, b = a, a = T1 + T2
unfoldable pub round : Kind → List ℕ → ℕ → ℕ → List ℕ
round s v k w =
    plus s.width (first s v k w) (second s v)
    ∷ slice_index v 0
    ∷ slice_index v 1
    ∷ slice_index v 2
    ∷ plus s.width (slice_index v 3) (first s v k w)
    ∷ slice_index v 4
    ∷ slice_index v 5
    ∷ slice_index v 6
    ∷ []

-- step 3: the first n rounds, from the working variables v with the schedule w
unfoldable pub rounds : Kind → ℕ → List ℕ → List ℕ → List ℕ
rounds s zero v w = v
rounds s (suc n) v w = round s (rounds s n v w) (slice_index s.constants n) (slice_index w n)

-- step 4: the first n words of v, each added to that of h
unfoldable pub added : Kind → ℕ → List ℕ → List ℕ → List ℕ
added s zero h v = []
added s (suc n) h v = added s n h v ++ (plus s.width (slice_index v n) (slice_index h n) ∷ [])

-- the words of the schedule of a block
abbrev pub scheduled : Kind → List ℕ → List ℕ
scheduled s block = schedule s (length s.constants - 16) (words s.octets 16 block)

-- steps 1 to 4: the hash value after one more block
unfoldable pub compress : Kind → List ℕ → List ℕ → List ℕ
compress s h block = added s 8 h (rounds s (length s.constants) h (scheduled s block))

-- the hash value after the first n blocks of a text, from h
unfoldable pub chain : Kind → List ℕ → ℕ → List ℕ → List ℕ
chain s h zero t = h
chain s h (suc n) t = compress s (chain s h n t) (take (size s) (drop (size s * n) t))
