use Rattle.std.proofs.Common.{map, take}
use Rattle.std.specs.Io.KnownBytes.{Appends}
use Rattle.pages.specs.Shown.{plain}
use Rattle.pages.proofs.name.Given as goal

abbrev pub invariant-loop-byte : goal.invariant-loop-byte
invariant-loop-byte g l = Appends (g.W.Write.contents l.initial.page) (g.W.Write.contents l.page) (map plain (take l.byte-index l.text))
