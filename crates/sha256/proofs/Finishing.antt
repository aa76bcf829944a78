-- A running digest of SHA-256 that is finished gives the SHA-256 of the text that it holds.
use Rattle.std.proofs.Common.{ℕ, ◌+◌, ◌-◌, ◌*◌, ◌/◌, ◌≤◌, ◌≡◌, sym, ap, ◌∙◌, List, [], ◌∷◌, ◌++◌, arith, length, take, drop, replicate, length-append, take-take, le_refl}
use Rattle.std.proofs.Math.Seq.{take-append-le, drop-append-le}
use Rattle.words.specs.Words.{bytes, spread}
use Rattle.compression.specs.Compression.{chain}
use Rattle.sha256.specs.Padding.{zeros, closing, padded, blocks}
use Rattle.sha256.specs.Digest.{digest}
use Rattle.sha256.specs.Running.{Held}
use Rattle.words.specs.Sha256.{sha256, start}
use Rattle.sha256.specs.Sha256.{label}
use Rattle.sha256.specs.Blocks.{blocks_taken}
use Rattle.sha256.proofs.Chains.{chain_agree, chain_add}

-- what stands before the last bytes stays before the padding
take_closing : (n : ℕ) (t : List ℕ) (k bits : ℕ) → n ≤ length t → take n (closing sha256 t k bits) ≡ take n t
unfolding closing
take_closing n t k bits h =
    let h₁ : n ≤ length (t ++ (0x80 ∷ [])) = omega (arith, length-append t (0x80 ∷ [])) in
    let h₂ : n ≤ length ((t ++ (0x80 ∷ [])) ++ replicate k 0) = omega (arith, length-append (t ++ (0x80 ∷ [])) (replicate k 0)) in
    rw (take-append-le n ((t ++ (0x80 ∷ [])) ++ replicate k 0) (bytes 8 bits) h₂, take-append-le n (t ++ (0x80 ∷ [])) (replicate k 0) h₁, take-append-le n t (0x80 ∷ []) h)

drop_closing : (n : ℕ) (t : List ℕ) (k bits : ℕ) → n ≤ length t → drop n (closing sha256 t k bits) ≡ closing sha256 (drop n t) k bits
unfolding closing
drop_closing n t k bits h =
    let h₁ : n ≤ length (t ++ (0x80 ∷ [])) = omega (arith, length-append t (0x80 ∷ [])) in
    let h₂ : n ≤ length ((t ++ (0x80 ∷ [])) ++ replicate k 0) = omega (arith, length-append (t ++ (0x80 ∷ [])) (replicate k 0)) in
    rw (drop-append-le n ((t ++ (0x80 ∷ [])) ++ replicate k 0) (bytes 8 bits) h₂, drop-append-le n (t ++ (0x80 ∷ [])) (replicate k 0) h₁, drop-append-le n t (0x80 ∷ []) h)

module _ {h tail t v : List ℕ} {len : ℕ} (d : Held sha256 h tail len t) (area : List ℕ) (rest n bits : ℕ)
    (e : rest ≡ d.rest)
    (one-or-two : n ≡ (rest + 72) / 64)
    (long : bits ≡ len * 8)
    (laid : take (64 * n) area ≡ closing sha256 (take rest tail) (64 * n - rest - 9) bits)
    (chained : v ≡ chain sha256 h n area)
  where
    in_t : 64 * d.whole ≤ length t
    in_t = omega arith

    behind : drop (64 * d.whole) (padded sha256 t) ≡ take (64 * n) area
    unfolding padded
    behind =
        let k : zeros sha256 (length t) ≡ 64 * n - rest - 9 = omega arith in
        let b : 8 * length t ≡ bits = omega arith in
        drop_closing (64 * d.whole) t (zeros sha256 (length t)) (8 * length t) in_t
        ∙ rw (← d.left, k, b, ← e) (sym laid)

    blocks_are : blocks sha256 t ≡ d.whole + n
    blocks_are = omega (arith, blocks_taken t)

    before : h ≡ chain sha256 start d.whole (padded sha256 t)
    unfolding padded
    before =
        d.so_far
        ∙ chain_agree sha256 start d.whole t (padded sha256 t)
        (sym (take_closing (64 * d.whole) t (zeros sha256 (length t)) (8 * length t) in_t))

    last : chain sha256 h n area ≡ chain sha256 h n (take (64 * n) area)
    last = chain_agree sha256 h n area (take (64 * n) area) (sym (take-take (64 * n) (64 * n) area (le_refl (64 * n))))

    pub finished : spread 4 v ≡ label t
    unfolding digest
    finished =
        ap (spread 4)
        (chained
        ∙ last
        ∙ rw (← behind, before)
        (sym (chain_add sha256 start d.whole n (padded sha256 t)))
        ∙ ap (λ (m : ℕ). chain sha256 start m (padded sha256 t)) (sym blocks_are))
