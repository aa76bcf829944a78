-- Laws of words spread out to bytes, and of the padding, in the code's own terms.
use Rattle.std.proofs.Common.{ℕ, zero, suc, ◌+◌, ◌-◌, ◌≤◌, ◌<◌, ◌≡◌, refl, sym, ap, ap₂, ◌∙◌, List, [], ◌∷◌, ◌++◌, arith, length, take, drop, get_or, set, div-one, replicate, length-set, length-append, length-drop, take_all}
use Rattle.std.proofs.Math.Seq.{take-append-add, set_at, append_snoc, paste, take-paste}
use Rattle.std.proofs.lemmas.List.{drop-replicate, take-replicate}
use Rattle.std.specs.Int.{w32, to_be_bytes, bytes_high_first}
use Rattle.std.specs.List.{flat_map}
use Rattle.words.specs.Words.{bytes, spread}
use Rattle.words.specs.Sha256.{sha256}
use Rattle.sha256.specs.Padding.{closing}
use Rattle.sha256.specs.Blocks.{length_bytes}

abbrev blank : ℕ → List ℕ
blank n = replicate n 0

-- the library's bytes of a number
pub bytes_are : (n x : ℕ) → bytes_high_first n x ≡ bytes n x
unfolding bytes
bytes_are zero x = refl
bytes_are (suc zero) x = rw div-one
bytes_are (suc (suc n)) x = rw (bytes_are (suc n) x)

-- the bytes of each word in turn
pub spread_is :
    (h : List ℕ) (words : List (List ℕ))
    → length words ≡ length h
    → ((k : ℕ) → k < length h → get_or words k [] ≡ to_be_bytes w32 (get_or h k 0))
    → flat_map (λ x. x) words ≡ spread 4 h
unfolding spread
spread_is [] [] same each = refl
spread_is [] (w ∷ words) same each = absurd (omega arith)
spread_is (x ∷ h) [] same each = absurd (omega arith)
spread_is (x ∷ h) (w ∷ words) same each =
    ap₂ (λ (a b : List ℕ). a ++ b) (each 0 (omega arith) ∙ bytes_are 4 x)
    (spread_is h words (omega arith) (λ k few. each (suc k) (omega arith)))

-- 128 behind the last bytes of a text, in an area of zeros
marked :
    (last area : List ℕ)
    → length last < 128
    → area ≡ set (last ++ drop (length last) (blank 128)) (length last) 128
    → area ≡ (last ++ (0x80 ∷ [])) ++ blank (127 - length last)
marked last area few e =
    let n : 128 - length last ≡ suc (127 - length last) = omega arith in
    let behind : drop (length last) (blank 128) ≡ 0 ∷ blank (127 - length last) = drop-replicate (length last) 128 0 ∙ ap blank n in
    e
    ∙ ap (λ (l : List ℕ). set (last ++ l) (length last) 128) behind
    ∙ set_at last 0 (blank (127 - length last)) 128 (length last) refl
    ∙ sym (append_snoc last 128 (blank (127 - length last)))

-- the zeros between that and the length field
front :
    (last area : List ℕ) (k : ℕ)
    → length last + 1 + k ≤ 128
    → area ≡ (last ++ (0x80 ∷ [])) ++ blank (127 - length last)
    → take (length last + 1 + k) area ≡ (last ++ (0x80 ∷ [])) ++ blank k
front last area k few e =
    let n : length last + 1 + k ≡ length (last ++ (0x80 ∷ [])) + k = omega (arith, length-append last (0x80 ∷ [])) in
    rw (n, e, take-append-add, take-replicate {X = ℕ} k (127 - length last) 0 (omega arith))

-- the last bytes of a text, 128, zeros and the length field, as they are laid into an area of zeros
pub closing_laid :
    (last area laid field : List ℕ) (rest bits end : ℕ)
    → rest ≡ length last
    → rest + 9 ≤ end
    → end ≤ 128
    → area ≡ set (last ++ drop rest (blank 128)) rest 128
    → field ≡ bytes 8 bits
    → laid ≡ paste area (end - 8) field (length field)
    → take end laid ≡ closing sha256 last (end - rest - 9) bits
unfolding closing
closing_laid last area laid field rest bits end e few most qa pb pl =
    let pa : area ≡ set (last ++ drop (length last) (blank 128)) (length last) 128 =
    qa ∙ rw e in
    let k : ℕ = end - rest - 9 in
    let is : area ≡ (last ++ (0x80 ∷ [])) ++ blank (127 - length last) = marked last area (omega arith) pa in
    let eight : length field ≡ 8 = ap length pb ∙ length_bytes 8 bits in
    let to : end ≡ end - 8 + length field = omega arith in
    let at : end - 8 ≡ length last + 1 + k = omega arith in
    let wide : length area ≡ 128 =
    omega (
      arith,
      ap length pa,
      length-set (last ++ drop (length last) (blank 128)) (length last) 128,
      length-append last (drop (length last) (blank 128)),
      length-drop (length last) (blank 128),
    ) in
    let fits : end - 8 ≤ length area = omega arith in
    let all : length field ≤ length field = omega arith in
    ap (take end) pl
    ∙ ap (λ (n : ℕ). take n (paste area (end - 8) field (length field))) to
    ∙ take-paste area (end - 8) field (length field) fits all
    ∙ rw (at, front last area k (omega arith) is, take_all (length field) field all, pb)
