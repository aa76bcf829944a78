-- The tests behind the entries, one after the other.
use Prim.Native.Nat.{ℕ, ◌*◌, ◌-◌, ◌≤◌, ◌<◌}
use mathlib.Core.Bool.{Bool, true, false}
use mathlib.Core.List.{List}
use mathlib.Core.Path.{◌≡◌, sym, ap, ◌∙◌}
use native.Mathlib.Omega.{arith}
use borrow.Author.Tests.{lt-ltb, le-ltb, ne_eqb}
use lib.Dec.{eqb}
use lib.ListN.{length, take, drop, length-drop}
use lib.Seq.{take_all}
use Rattle.bits.specs.Bits.{bits_of, num_of}
use Rattle.bits.specs.ByteLaws.{length_bits_of}
use Rattle.std.specs.Prelude.{Result, Ok, Err, is_ok, Some, None}
use Rattle.outcomes.specs.Refusals.{accepted, cut_short, not_one_tree, bad_padding, number_of}
use Rattle.outcomes.specs.declared.numbers.Refused.{Refused}
use Rattle.outcomes.specs.RefusalsLaws.{numbered}
use Rattle.codec.specs.Reader.{stop}
use Rattle.engine.specs.declared.judge.Judged.{Judged}
use Rattle.engine.specs.Engine.{judged_seen}
use Rattle.answers.specs.Answers.{refused, taken, refusal_answer}
use Rattle.slips.specs.Check.{padding_fits}
use Rattle.slips.specs.Opening.{settled_by}

module _ (s : List ℕ) (at : ℕ) where
  -- a whole byte or more is left
  pub padding_long : 8 ≤ 8 * length s - at → false ≡ padding_fits (drop at (bits_of s))
  unfolding padding_fits
  padding_long h =
      let more : 8 ≤ length (drop at (bits_of s)) = omega (arith, length-drop at (bits_of s), length_bits_of s) in
      sym (rw (le-ltb (length (drop at (bits_of s))) 8 more))

  -- fewer than 8 bits, read as a field
  pub padding_short : (x : ℕ) → 8 * length s - at < 8 → x ≡ num_of (take (8 * length s - at) (drop at (bits_of s)))
      → eqb x 0 ≡ padding_fits (drop at (bits_of s))
  unfolding padding_fits
  padding_short x h e =
      let n : length (drop at (bits_of s)) ≡ 8 * length s - at = length-drop at (bits_of s) ∙ ap (λ (m : ℕ). m - at) (length_bits_of s) in
      let few : length (drop at (bits_of s)) < 8 = omega arith in
      let all : length (drop at (bits_of s)) ≤ 8 * length s - at = omega arith in
      let f : x ≡ num_of (drop at (bits_of s)) = e ∙ ap num_of (take_all (8 * length s - at) (drop at (bits_of s)) all) in
      sym (rw (lt-ltb (length (drop at (bits_of s))) 8 few, ← f))

-- one that is refused: its answer, whatever was read
pub told_faulty : (n rows : ℕ) (whole : Bool) (rest : List ℕ) {j : Result Judged Refused} {r : Refused} → j ≡ Err r
    → refusal_answer r ≡ settled_by n rows whole rest (judged_seen j)
unfolding settled_by
told_faulty n rows whole rest {j} {r} e =
    sym (rw (e, ne_eqb (number_of r.refusal) accepted (numbered r.refusal)))

-- one whose bits end inside an entry: its answer, whatever is left of them
pub told_cut : (n rows : ℕ) (whole : Bool) (rest : List ℕ) {j : Result Judged Refused} {d : Judged} → j ≡ Ok d → whole ≡ false
    → refused cut_short rows ≡ settled_by n rows whole rest (judged_seen j)
unfolding settled_by
told_cut n rows whole rest e cut = sym (rw (e, cut))

-- else the tests, over what was read and the root
module _ (s : List ℕ) (rows : ℕ) {j : Result Judged Refused} {r : Result ℕ ℕ} {d : Judged} (e : j ≡ Ok d) {at : ℕ} (k : r ≡ Ok at) where
  pub told_many : d.root ≡ None → refused not_one_tree 0 ≡ settled_by (length s) rows (is_ok r) (drop (stop r) (bits_of s)) (judged_seen j)
  unfolding settled_by
  told_many h = sym (rw (e, k, h))

  module _ {label : List ℕ} (h : d.root ≡ Some label) where
    pub told_padding : padding_fits (drop at (bits_of s)) ≡ false
        → refused bad_padding 0 ≡ settled_by (length s) rows (is_ok r) (drop (stop r) (bits_of s)) (judged_seen j)
    unfolding settled_by
    told_padding p = sym (rw (e, k, h, p))

    pub told_taken : padding_fits (drop at (bits_of s)) ≡ true
        → taken (length s) d.blocks label ≡ settled_by (length s) rows (is_ok r) (drop (stop r) (bits_of s)) (judged_seen j)
    unfolding settled_by
    told_taken p = sym (rw (e, k, h, p))
