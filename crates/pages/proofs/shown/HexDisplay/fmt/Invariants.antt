use Rattle.std.proofs.Common.{◌≡◌, List, ℕ, ◌++◌}
use Rattle.std.specs.Fmt.{HasWritten, IsPlainFormatter}
use Rattle.std.specs.List.{flat_map}
use Rattle.std.specs.Slice.Iter.{chunks_rest, chunks_size}
use Rattle.std.specs.Str.{IsAscii}
use Rattle.pages.specs.Shown.{octet}
use Rattle.pages.proofs.shown.HexDisplay.fmt.Given as goal

-- the digits of what is written, and of what is left, are those of all bytes
abbrev pub invariant-loop-part : goal.invariant-loop-part
invariant-loop-part g l =
    (goal.iterator-loop-part g).can_next l.part-iterator
    × (goal.iterator-loop-part g).is_finite l.part-iterator
    × (chunks_size l.part-iterator ≡ 32)
    × IsAscii l.digits
    × (IsPlainFormatter l.initial.f → (done : List ℕ) × HasWritten g.W.Write.write_str_gives l.initial.f done l.f
    × (done ++ flat_map octet (chunks_rest l.part-iterator) ≡ flat_map octet l.fn.self.0.now))
