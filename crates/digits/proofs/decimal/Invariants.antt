use Rattle.std.proofs.Common.{◌≡◌, ◌<◌, length, drop}
use Rattle.digits.specs.Digits.{reads}
use Rattle.digits.proofs.decimal.Given as goal

abbrev pub invariant-loop-b : goal.invariant-loop-b
invariant-loop-b l = record {
  some : 0 < length l.digits;
  so_far : reads 0 l.digits ≡ reads l.n (drop l.b-index l.digits);
}
