-- FIPS 180-4, section 6.2 (and 6.4): the digest of a text.
use Rattle.std.specs.Prelude.{ℕ, List}
use Rattle.words.specs.Kind.{Kind}
use Rattle.words.specs.Words.{spread}
use Rattle.compression.specs.Compression.{chain}
use Rattle.sha256.specs.Padding.{padded, blocks}

-- the hash value after all blocks of the padded text, as bytes
unfoldable pub digest : Kind → List ℕ → List ℕ
digest s t = spread s.octets (chain s s.start (blocks s t) (padded s t))
