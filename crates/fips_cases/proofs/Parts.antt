-- A message hashed part by part: what the digest holds in front of the digits that are left.
use Rattle.std.proofs.Common.{◌≡◌, ℕ, ◌+◌, ◌*◌, ◌≤◌, min, Bool, true, false, ◌&&◌, List, [], ◌∷◌, ◌++◌, length, take, drop, sym, ap, subst, ◌∙◌, append_assoc, append-nil, arith, length-append}
use Rattle.std.proofs.Math.Bool.{and-true}
use Rattle.std.proofs.Math.Seq.{take-append_seam, drop-append_seam}
use Rattle.sha256.specs.Running.{Holds, Grows}
use Rattle.sha256.specs.declared.digest.Digest.{Digest}
use Rattle.digits.specs.Digits.{is_hex, bytes_of}
use Rattle.digits.specs.DigitsLaws.{hex_cut, bytes_cut, bytes_long}

-- digits are cut behind 2000, or at their end
hex_both : (part rest : List ℕ) → length part ≡ min 2000 (length (part ++ rest)) → is_hex (part ++ rest) ≡ (is_hex part && is_hex rest)
unfolding is_hex
hex_both part [] size = rw append-nil (sym (and-true (is_hex part)))
hex_both part (x ∷ rest) size =
    let all : List ℕ = part ++ (x ∷ rest) in
    let n : 2 * 1000 ≡ length part = omega (arith, size, length-append part (x ∷ rest)) in
    let cut = subst (λ (n : ℕ). is_hex all ≡ (is_hex (take n all) && is_hex (drop n all))) n (hex_cut 1000 all) in
    rw (take-append_seam, drop-append_seam) at cut

bytes_both : (part rest : List ℕ) → length part ≡ min 2000 (length (part ++ rest)) → bytes_of (part ++ rest) ≡ bytes_of part ++ bytes_of rest
unfolding bytes_of
bytes_both part [] size = ap bytes_of (append-nil part) ∙ sym (append-nil (bytes_of part))
bytes_both part (x ∷ rest) size =
    let all : List ℕ = part ++ (x ∷ rest) in
    let n : 2 * 1000 ≡ length part = omega (arith, size, length-append part (x ∷ rest)) in
    let cut = subst (λ (n : ℕ). bytes_of all ≡ bytes_of (take n all) ++ bytes_of (drop n all)) n (bytes_cut 1000 all) in
    rw (take-append_seam, drop-append_seam) at cut

-- the digest d holds what the digits before `rest` spell
pub record Part (digits rest : List ℕ) (d : Digest) : Type 0 where
  pub text : List ℕ
  pub holds : Holds d text
  pub short : length text + length rest ≤ length digits
  pub whole : text ++ bytes_of rest ≡ bytes_of digits
  pub hex : is_hex digits ≡ is_hex rest

module _ {digits left : List ℕ} {d : Digest} (p : Part digits left d) (part rest : List ℕ) (is : left ≡ part ++ rest) {n : ℕ} (size : length part ≡ min n (length left)) (most : n ≡ 2000) where
  cut : length part ≡ min 2000 (length (part ++ rest))
  cut = omega (arith, size, most, ap length is)

  hexes : is_hex digits ≡ (is_hex part && is_hex rest)
  hexes = p.hex ∙ ap is_hex is ∙ hex_both part rest cut

  pub part_bad : is_hex part ≡ false → is_hex digits ≡ false
  part_bad bad = hexes ∙ ap (λ (t : Bool). t && is_hex rest) bad

  pub part_more : {e : Digest} → is_hex part ≡ true → Grows d (bytes_of part) e → Part digits rest e
  part_more good grows = record {
    text = p.text ++ bytes_of part;
    holds = grows p.text p.holds;
    short = omega (arith, length-append p.text (bytes_of part), length-append part rest, ap length is, bytes_long part, p.short);
    whole =
        append_assoc p.text (bytes_of part) (bytes_of rest)
        ∙ ap (λ (l : List ℕ). p.text ++ l) (sym (bytes_both part rest cut) ∙ ap bytes_of (sym is))
        ∙ p.whole;
    hex = hexes ∙ ap (λ (t : Bool). t && is_hex rest) good;
  }

-- behind all digits
pub part_all : {digits rest : List ℕ} {d : Digest} (p : Part digits rest d) → length rest ≡ 0 → (is_hex digits ≡ true) × (p.text ≡ bytes_of digits)
unfolding is_hex bytes_of
part_all {rest = []} p h = (p.hex, sym (append-nil p.text) ∙ p.whole)
part_all {rest = x ∷ rest} p h = absurd (omega arith)
