use Rattle.std.proofs.Common.{◌≡◌}
use Rattle.compression.specs.Compression.{chain}
use Rattle.words.specs.Sha256.{sha256}
use Rattle.compression.proofs.chain.Given as goal

abbrev pub invariant-loop-block : goal.invariant-loop-block
invariant-loop-block l = l.h ≡ chain sha256 l.initial.h l.block-index l.text
