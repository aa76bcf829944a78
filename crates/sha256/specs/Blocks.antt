-- How many blocks a text takes by the definition of padding, and that a label is 32 bytes.
use Rattle.std.specs.Prelude.{ℕ, zero, suc, ◌+◌, ◌*◌, ◌/◌, ◌^◌, ◌<◌, ◌≡◌, refl, List, [], ◌∷◌, ◌++◌, length, get_or, replicate}
use Rattle.std.proofs.Common.{ap, ◌∙◌, zero-mul, suc-mul, add_comm, mod-lt, arith, length-append}
use Rattle.std.proofs.lemmas.List.{length-replicate}
use Rattle.words.specs.Words.{bytes, spread}
use Rattle.compression.specs.Compression.{added, compress, chain}
use Rattle.sha256.specs.Padding.{zeros, closing, padded, blocks}
use Rattle.sha256.specs.Digest.{digest}
use Rattle.words.specs.Sha256.{sha256, start}
use Rattle.sha256.specs.Sha256.{label}

pub length_bytes : (n x : ℕ) → length (bytes n x) ≡ n
unfolding bytes
length_bytes zero x = refl
length_bytes (suc n) x = ap suc (length_bytes n x)

pub length_closing : (last : List ℕ) (k bits : ℕ) → length (closing sha256 last k bits) ≡ length last + 9 + k
unfolding closing
length_closing last k bits =
    omega (
      arith,
      length-append ((last ++ (0x80 ∷ [])) ++ replicate k 0) (bytes 8 bits),
      length-append (last ++ (0x80 ∷ [])) (replicate k 0),
      length-append last (0x80 ∷ []),
      length-replicate {A = ℕ} k 0,
      length_bytes 8 bits,
    )

-- document 01: "A prelabel of n bytes takes floor((n + 72) / 64) blocks", whole ones
pub padded_long : (t : List ℕ) → length (padded sha256 t) ≡ 64 * ((length t + 72) / 64)
unfolding padded
padded_long t = omega (arith, length_closing t (zeros sha256 (length t)) (8 * length t))

pub blocks_taken : (t : List ℕ) → blocks sha256 t ≡ (length t + 72) / 64
blocks_taken t = omega (arith, padded_long t)

-- "55 bytes take 1, 56 take 2"
pub one_block : (t : List ℕ) → length t ≡ 55 → blocks sha256 t ≡ 1
one_block t e = omega (arith, blocks_taken t)

pub two_blocks : (t : List ℕ) → length t ≡ 56 → blocks sha256 t ≡ 2
two_blocks t e = omega (arith, blocks_taken t)

-- Every element is a byte.
unfoldable pub Octets : List ℕ → Type 0
Octets l = (i : ℕ) → get_or l i 0 < 256

octets_append : (xs ys : List ℕ) → Octets xs → Octets ys → Octets (xs ++ ys)
unfolding Octets
octets_append [] ys p q i = q i
octets_append (x ∷ xs) ys p q zero = p zero
octets_append (x ∷ xs) ys p q (suc i) = octets_append xs ys (λ j. p (suc j)) q i

octets_bytes : (n x : ℕ) → Octets (bytes n x)
unfolding Octets bytes
octets_bytes zero x i = omega arith
octets_bytes (suc n) x zero = mod-lt (x / 256 ^ n) (omega arith)
octets_bytes (suc n) x (suc i) = octets_bytes n x i

octets_spread : (k : ℕ) (xs : List ℕ) → Octets (spread k xs)
unfolding Octets spread
octets_spread k [] = λ i. omega arith
octets_spread k (x ∷ xs) = octets_append (bytes k x) (spread k xs) (octets_bytes k x) (octets_spread k xs)

length_spread : (k : ℕ) (xs : List ℕ) → length (spread k xs) ≡ length xs * k
unfolding spread
length_spread k [] = rw zero-mul
length_spread k (x ∷ xs) =
    length-append (bytes k x) (spread k xs) ∙ rw (length_bytes, length_spread k xs, suc-mul, add_comm)

length_chain : (n : ℕ) (t : List ℕ) → length (chain sha256 start n t) ≡ 8
unfolding chain compress added start
length_chain zero t = refl
length_chain (suc n) t = refl

-- "its label is 32 bytes"
pub label_long : (t : List ℕ) → length (label t) ≡ 32
unfolding digest
label_long t =
    let n : ℕ = blocks sha256 t in
    length_spread 4 (chain sha256 start n (padded sha256 t)) ∙ ap (λ (m : ℕ). m * 4) (length_chain n (padded sha256 t))

pub label_octets : (t : List ℕ) → Octets (label t)
unfolding digest
label_octets t = octets_spread 4 (chain sha256 start (blocks sha256 t) (padded sha256 t))
