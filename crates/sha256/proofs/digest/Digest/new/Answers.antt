use Rattle.std.proofs.Common.{refl, rules}
use Rattle.compression.specs.Compression.{chain}
use Rattle.words.specs.Sha256.{start}
use Rattle.sha256.proofs.digest.Digest.new.Goals as goal

pub returns : goal.returns
unfolding chain start
returns c =
    record {
      whole = 0;
      rest = 0;
      few = search rules;
      cut = refl;
      room = refl;
      long = refl;
      so_far = refl;
      left = refl;
    }
