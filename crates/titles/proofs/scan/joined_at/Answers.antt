-- `joined_at` meets its contract: where no CC stands, there is no mark, and what is ill-formed is none.
use Rattle.std.proofs.Common.{◌≡◌, ◌∙◌, sym, ap, arith, refl, true, not, ℕ, eqb, eq-eqb, Option, None, Some}
use Rattle.std.specs.Option.{option_eq, option_map, unwrap_or}
use denote.Ref.{Bor}
use Rattle.nfc.specs.Utf8.{front}
use Rattle.lists.specs.PartsLaws.{tail_part}
use Rattle.titles.specs.ClustersLaws.{no_mark_at, no_mark_ill}
use Rattle.titles.proofs.scan.joined_at.Goals as goal

-- a byte that is not CC, or none
other : (r : Option (Bor ℕ)) (y : Bor ℕ) (b : ℕ) → unwrap_or (option_map (λ x. x.now) r) 0 ≡ b → not (option_eq (λ x y. eqb x.now y.now) r (Some y)) ≡ true → y.now ≡ 0xCC → b ≡ 0xCC → ⊥
other None y b e differs lead here = omega arith
other (Some x) y b e differs lead here = let same : eqb x.now y.now ≡ true = eq-eqb x.now y.now (e ∙ here ∙ sym lead) in cc

pub returns-then-ne : goal.returns-then-ne
returns-then-ne c =
    no_mark_at c.args.letter c.args.title.now c.args.at
    (other c.get.result _ _ (c.get.ensures.lookup.4 (omega arith) 0) (sym c.ne.ensures ∙ c.if-ne.true) refl)

pub returns-in_err-first : goal.returns-in_err-first
returns-in_err-first c =
    rw c.from_residual.ensures (no_mark_ill c.args.letter _ (ap front (sym (tail_part c.args.title.now c.args.at)) ∙ c.in_err-first.ensures))
