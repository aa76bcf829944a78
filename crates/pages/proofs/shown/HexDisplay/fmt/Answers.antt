use Rattle.std.proofs.Common.{◌≡◌, ℕ, zero, suc, List, [], ◌∷◌, ◌++◌, take, replicate, sym, ap, ◌∙◌, append_assoc, arith, rules}
use Rattle.std.proofs.Output.{has_written_append}
use Rattle.std.proofs.lemmas.Grind.{flat_map-append}
use Rattle.std.proofs.lemmas.Str.{IsUtf8-from_ascii}
use Rattle.std.proofs.lemmas.Str.Ascii.{IsAscii-nil, IsAscii-cons}
use Rattle.std.specs.List.{flat_map}
use Rattle.std.specs.Slice.Iter.{chunks_rest}
use Rattle.std.specs.Str.{IsAscii}
use Rattle.pages.specs.Shown.{octet}
use Rattle.pages.proofs.shown.HexDisplay.fmt.Goals as goal

front_ascii : (n : ℕ) (text : List ℕ) → IsAscii text → IsAscii (take n text)
front_ascii zero text all = IsAscii-nil
front_ascii (suc n) [] all = IsAscii-nil
front_ascii (suc n) (b ∷ text) all = IsAscii-cons b (take n text) (all 0) (front_ascii n text (λ i. all (suc i)))

zeros_ascii : (n : ℕ) → IsAscii (replicate n 0)
zeros_ascii zero = IsAscii-nil
zeros_ascii (suc n) = IsAscii-cons 0 (replicate n 0) (omega arith) (zeros_ascii n)

pub loop-part-init : goal.loop-part-init
loop-part-init g c = (search rules, tt, search rules, zeros_ascii 64, λ plain. ([], search rules, search rules))

pub unreachable-requires : goal.unreachable-requires
unreachable-requires g c = c.in_default.ensures.cases.0 (IsUtf8-from_ascii _ (front_ascii c.spell-n.result c.spell-n.new.digits c.spell-n.ensures.2))

pub loop-part-preserved : goal.loop-part-preserved
loop-part-preserved g c =
    let part = c.in-Some.part.now in
    let rest = chunks_rest c.next.new.self in
    let steps = c.in-Some.ensures.steps in
    let is : c.in-Ok.text.now ≡ flat_map octet part = c.in-Ok.ensures.cases.0 ∙ c.spell-n.ensures.1 in (
      search rules,
      tt,
      steps.0 ∙ c.loop-part.invariant.2,
      c.spell-n.ensures.2,
      λ plain.
          let so_far = c.loop-part.invariant.4 plain in (
            so_far.0 ++ c.in-Ok.text.now,
            has_written_append _ _ _ _ _ _ so_far.1 (search rules),
            append_assoc so_far.0 _ _
                ∙ ap (λ (t : List ℕ). so_far.0 ++ t)
                (ap (λ (t : List ℕ). t ++ flat_map octet rest) is ∙ sym (flat_map-append octet part rest) ∙ ap (flat_map octet) (sym steps.1.0))
                ∙ so_far.2,
          ),
    )
