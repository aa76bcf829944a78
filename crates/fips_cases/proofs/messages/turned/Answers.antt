use Rattle.std.proofs.Common.{◌≡◌, ℕ, suc, ◌+◌, ◌-◌, ◌<◌, List, ◌++◌, refl, sym, ap, ◌∙◌, arith}
use Rattle.sha256.specs.Sha256.{label}
use Rattle.fips_cases.specs.Monte.{turns, monte}
use Rattle.fips_cases.proofs.messages.turned.Goals as goal

one_less : (i : ℕ) (a b c d : List ℕ) → i < 1000 → d ≡ label ((a ++ b) ++ c) → turns (1000 - i) a b c ≡ turns (1000 - (i + 1)) b c d
unfolding turns
one_less i a b c d h e =
    let n : 1000 - i ≡ suc (1000 - (i + 1)) = omega arith in
    ap (λ (k : ℕ). turns k a b c) n ∙ ap (turns (1000 - (i + 1)) b c) (sym e)

pub loop-init : goal.loop-init
unfolding monte
loop-init c = refl

pub loop-preserved : goal.loop-preserved
loop-preserved c = c.loop.invariant ∙ one_less _ _ _ _ _ c.loop-test.true c.joined-next.ensures

pub returns : goal.returns
unfolding turns
returns c =
    let l = c.loop in
    let all : 1000 - l.counter ≡ 0 = omega arith in
    sym (l.invariant ∙ ap (λ (k : ℕ). turns k l.a l.b l.c) all)
