use Rattle.std.proofs.Common.{◌≡◌, ◌*◌, take}
use Rattle.std.specs.List.{flat_map}
use Rattle.std.specs.Str.{IsAscii}
use Rattle.pages.specs.Shown.{octet}
use Rattle.pages.proofs.shown.spell.Given as goal

abbrev pub invariant-loop-byte : goal.invariant-loop-byte
invariant-loop-byte l = (l.n ≡ 2 * l.byte-index) × (take l.n l.digits ≡ flat_map octet (take l.byte-index l.bytes)) × IsAscii l.digits
