use Rattle.std.proofs.Common.{◌≡◌, ℕ, ◌+◌, ◌*◌, ◌/◌, ◌%◌, ◌<◌, true, List, ◌++◌, length, take, drop, nat_eq, sym, ap, ◌∙◌, append-nil, length-drop, arith}
use Rattle.digits.specs.Digits.{is_hex, bytes_of}
use Rattle.digits.proofs.Spelling.{hex_more, bytes_more, end_bytes, end_hex}
use Rattle.digits.proofs.decoded.Goals as goal
use borrow.Author.Tests.{eqb-true, eqb-false}

-- the digits behind the last whole byte
last : (d out : List ℕ) (i : ℕ) → i ≡ length d / 2 → is_hex d ≡ is_hex (drop (2 * i) d) → take i out ++ bytes_of (drop (2 * i) d) ≡ bytes_of d
    → (nat_eq (length d % 2) 0 ≡ is_hex d) × (nat_eq (length d % 2) 0 ≡ true → take (length d / 2) out ≡ bytes_of d)
last d out i e hex bytes =
    let few : length (drop (2 * i) d) < 2 = omega (arith, length-drop (2 * i) d) in (
      end_hex (drop (2 * i) d) few (nat_eq (length d % 2) 0) (λ t. omega (arith, length-drop (2 * i) d, eqb-true _ _ t)) (λ f. omega (arith, length-drop (2 * i) d, eqb-false _ _ f))
          ∙ sym hex,
      λ _. rw (← e) (sym (append-nil (take i out)) ∙ ap (λ (l : List ℕ). take i out ++ l) (sym (end_bytes (drop (2 * i) d) few)) ∙ bytes),
    )

pub returns-in_default : goal.returns-in_default
returns-in_default c =
    let e = hex_more c.args.digits.now c.loop-i.i (omega arith) in
    grind (arith, e)

pub returns-in_default-digit : goal.returns-in_default-digit
returns-in_default-digit c =
    let e = hex_more c.args.digits.now c.loop-i.i (omega arith) in
    grind (arith, e)

pub loop-i-preserved : goal.loop-i-preserved
loop-i-preserved c =
    let l = c.loop-i in
    let d = c.args.digits.now in
    let there : 2 * l.i + 1 < length d = omega arith in
    let e = hex_more d l.i there in
    record {
      hex = grind (arith, e);
      bytes = bytes_more d l.i there l.out c.in-Some.high c.in-Some-digit.low (cc) (cc) (omega arith) l.invariant.bytes;
    }

pub returns : goal.returns
returns c =
    let l = c.loop-i in
    last c.args.digits.now l.out l.i (omega arith) l.invariant.hex l.invariant.bytes
