-- `put` meets its contract: a character of one byte or of two is stored, and the others are those of std.
use Rattle.std.proofs.Common.{◌≤◌, ◌<◌, sym, ◌∙◌, arith, ltb-true, ltb-false, length-set}
use Rattle.nfc.specs.BoundsLaws.{width_2}
use Rattle.utf8.proofs.Scalars.{ascii_put, pair_put}
use Rattle.utf8.proofs.put.Goals as goal
use Rattle.utf8.proofs.put.Goals.{Then-code-lt2048}

pub returns-then-is_ascii : goal.returns-then-is_ascii
returns-then-is_ascii c =
    ascii_put c.args.c c.args.text.now (ltb-true c.args.c 0x80 (sym c.is_ascii.ensures ∙ c.if-is_ascii.true)) c.requires

of_two : (c : Then-code-lt2048) → (0x80 ≤ c.args.c) × (c.args.c < 0x800)
of_two c = (ltb-false c.args.c 0x80 (sym c.is_ascii.ensures ∙ c.if-is_ascii.false), rw c.from-code.ensures at c.if-code-lt2048.true)

pub bounds-text-1 : goal.bounds-text-1
bounds-text-1 c = let w = of_two c in simp length-set (omega (arith, width_2 c.args.c w.0 w.1))

pub returns-then-code-lt2048 : goal.returns-then-code-lt2048
returns-then-code-lt2048 c = let w = of_two c in rw c.from-code.ensures (pair_put c.args.c c.args.text.now w.0 w.1 c.requires)
