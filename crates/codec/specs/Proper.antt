-- Entries that a slip can hold.
use Rattle.std.specs.Prelude.{◌≡◌, true, List, [], ◌∷◌}
use Rattle.lists.specs.Lists.{Below}
use Rattle.trees.specs.Rows.{Entry, node, tip, formed}

-- a leaf's value is bytes
abbrev pub Bytes : Entry → Type 0
Bytes (node k) = Unit {0}
Bytes (tip t v) = Below 256 v

-- an entry of the form of document 01, of bytes
pub record Proper (e : Entry) : Type 0 where
  pub form : formed e ≡ true
  pub bytes : Bytes e

-- every entry is
abbrev pub AllProper : List Entry → Type 0
AllProper [] = Unit {0}
AllProper (e ∷ es) = Proper e × AllProper es
