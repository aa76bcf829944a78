use Rattle.std.proofs.Common.{◌≡◌, ℕ, ◌^◌, ◌<◌, Bool, ◌&&◌, nat_lt, List, ◌++◌, length, sym, ap, ◌∙◌, subst, lt-ltb}
use Rattle.sha256.specs.Running.{Holds}
use Rattle.sha256.specs.Sha256.{label}
use Rattle.digits.specs.Digits.{is_hex}
use Rattle.fips_cases.proofs.Parts.{part_bad, part_more, part_all}
use Rattle.fips_cases.proofs.messages.hashed.Goals as goal

-- FIPS 180-4 speaks of so few digits
few : (digits : List ℕ) → length digits < 2 ^ 61 → (nat_lt (length digits) (2 ^ 61) && is_hex digits) ≡ is_hex digits
few digits h = ap (λ (t : Bool). t && is_hex digits) (lt-ltb (length digits) (2 ^ 61) h)

pub returns-then-not-decoded : goal.returns-then-not-decoded
returns-then-not-decoded c =
    let i = c.loop-part.invariant in
    let s = c.in-Some.ensures.steps in
    let bad = sym c.decoded.ensures.0 ∙ c.if-not-decoded.true in
    record { told = sym (few c.args.digits.now i.few ∙ part_bad i.part _ _ s.1.0 s.1.1 i.size bad); hashed = tt }

pub loop-part-preserved : goal.loop-part-preserved
loop-part-preserved c =
    let i = c.loop-part.invariant in
    let s = c.in-Some.ensures.steps in
    let d = c.decoded.ensures in
    let good = c.if-not-decoded.false in
    record {
      few = i.few;
      size = s.0 ∙ i.size;
      room = c.decoded.auto.out ∙ i.room;
      part = part_more i.part _ _ s.1.0 s.1.1 i.size (sym d.0 ∙ good) (λ t h. subst (λ (part : List ℕ). Holds c.absorbed-d.result (t ++ part)) (d.1 good) (c.absorbed-d.ensures t h));
    }

pub returns : goal.returns
returns c =
    let i = c.loop-part.invariant in
    let all = part_all i.part c.in-None.ensures.steps.1.0 in
    record {
      told = sym (few c.args.digits.now i.few ∙ all.0);
      hashed = c.finish.ensures i.part.text i.part.holds ∙ ap label all.1;
    }
