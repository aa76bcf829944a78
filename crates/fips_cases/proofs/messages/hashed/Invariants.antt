use Rattle.std.proofs.Common.{◌≡◌, ◌^◌, ◌<◌, length}
use Rattle.std.specs.Slice.Iter.{chunks_rest, chunks_size}
use Rattle.fips_cases.proofs.Parts.{Part}
use Rattle.fips_cases.proofs.messages.hashed.Given as goal

abbrev pub invariant-loop-part : goal.invariant-loop-part
invariant-loop-part l = record {
  few : length l.digits < 2 ^ 61;
  size : chunks_size l.part-iterator ≡ 2000;
  room : length l.bytes ≡ 1000;
  part : Part l.digits (chunks_rest l.part-iterator) l.d;
}
