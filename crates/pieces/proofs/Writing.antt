-- A piece written behind the first bytes of an area.
use Rattle.std.proofs.Common.{◌≡◌, ◌∙◌, ap, ℕ, ◌+◌, ◌/◌, ◌%◌, ◌^◌, ◌≤◌, ◌<◌, List, [], ◌∷◌, ◌++◌, length, take, append_assoc, arith}
use Rattle.std.specs.Int.{w16, to_be_bytes}
use Rattle.std.proofs.lemmas.Slice.{take-put_mid}
use borrow.Rule.Slice.PartMut.{put_mid}
use Rattle.trees.specs.Nodes.{head_bytes, piece}

two_bytes : (n : ℕ) → n < 2 ^ 16 → to_be_bytes w16 n ≡ n / 256 ∷ n % 256 ∷ []
two_bytes n small = let high : n / 256 ^ 1 % 256 ≡ n / 256 = omega arith in ap (λ b. b ∷ n % 256 ∷ []) high

-- the type, the length and the text, each behind the one before
pub piece_written :
    (work text kind_part size_part text_part : List ℕ) (at kind j k l : ℕ)
    → kind < 2 ^ 16
    → length text < 2 ^ 16
    → at + head_bytes + length text ≤ length work
    → kind_part ≡ to_be_bytes w16 kind
    → size_part ≡ to_be_bytes w16 (length text)
    → text_part ≡ text
    → (let typed : List ℕ = put_mid at j work kind_part in
    let sized : List ℕ = put_mid (at + 2) k typed size_part in
    length typed ≡ length work
    → length sized ≡ length typed
    → take (at + head_bytes + length text) (put_mid (at + head_bytes) l sized text_part) ≡ take at work ++ piece (record { kind = kind; text = text }))
piece_written work text kind_part size_part text_part at kind j k l small short room ek es et n₁ n₂ =
    let typed : List ℕ = put_mid at j work kind_part in
    let sized : List ℕ = put_mid (at + 2) k typed size_part in
    take-put_mid (at + head_bytes) l sized text_part (at + head_bytes + length text) (omega (arith, ap length et)) (omega arith)
    ∙ ap (λ f. f ++ text_part)
    (take-put_mid (at + 2) k typed size_part (at + head_bytes) (omega (arith, ap length es)) (omega arith)
    ∙ ap (λ f. f ++ size_part) (take-put_mid at j work kind_part (at + 2) (omega (arith, ap length ek)) (omega arith)))
    ∙ rw (ek, es, et, two_bytes kind small, two_bytes (length text) short) (simp append_assoc)
