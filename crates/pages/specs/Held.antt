-- What a page and the writer before it hold together.
use Rattle.std.specs.Prelude.{ℕ, List, Option, take}
use Rattle.std.specs.Io.KnownBytes.{append_known}

-- what the writer holds, where that is known, and behind it the first `at` bytes of the page
abbrev pub page_holds : Option (List ℕ) → List ℕ → ℕ → Option (List ℕ)
page_holds written text at = append_known written (take at text)
