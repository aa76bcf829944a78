use Rattle.std.proofs.Common.{refl, sym, subst, ℕ, ◌+◌, ◌*◌, ◌<◌, ◌%◌, ◌^◌, arith, length, length-set}
use native.Mathlib.Nat.{mod-lt}
use lib.Pow.{pow_pos}
use Rattle.bits.proofs.Windows.{one_shl}
use Rattle.bits.proofs.Strokes.{nothing_shifted, shifted_in}
use Rattle.bits.proofs.pen.shift_in.Goals as goal

pub loop-j-init : goal.loop-j-init
loop-j-init c = (nothing_shifted _ _, c.requires.1, refl, omega arith)

pub loop-j-preserved : goal.loop-j-preserved
loop-j-preserved c =
    let l = c.loop-j in
    let x = c.from in
    let within : l.j < length l.dst = omega (arith, c.requires.2) in
    let w : ℕ = l.rest * 256 + x.result in (
      shifted_in c.args.acc c.args.held c.args.src.now l.dst l.j l.rest x.result c.requires.0 c.loop-j-test.true within
          x.ensures (omega arith) l.invariant.0,
      subst (λ (k : ℕ). w % k < 2 ^ c.args.held) (sym (one_shl c.args.held (omega (arith, c.requires.0)))) (mod-lt w (pow_pos c.args.held)),
      simp length-set (omega arith),
      omega arith,
    )
