use Rattle.std.proofs.Common.{◌≡◌, ◌*◌, ◌++◌, take, drop}
use Rattle.digits.specs.Digits.{is_hex, bytes_of}
use Rattle.digits.proofs.decoded.Given as goal

abbrev pub invariant-loop-i : goal.invariant-loop-i
invariant-loop-i l = record {
  hex : is_hex l.digits ≡ is_hex (drop (2 * l.i) l.digits);
  bytes : take l.i l.out ++ bytes_of (drop (2 * l.i) l.digits) ≡ bytes_of l.digits;
}
