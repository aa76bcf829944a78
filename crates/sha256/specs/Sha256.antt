-- SHA-256, as document 01 names it.
use Rattle.std.specs.Prelude.{ℕ, List}
use Rattle.words.specs.Sha256.{sha256}
use Rattle.sha256.specs.Digest.{digest}

-- the SHA-256 of a text of bytes
abbrev pub label : List ℕ → List ℕ
label t = digest sha256 t
