-- Where a reader of lines stands in its area.
use Rattle.std.specs.Prelude.{ℕ, ◌≤◌}

-- the bytes of the area, `input::ROOM`
abbrev pub room : ℕ
room = 2200001

-- A line starts at `from`, the area was searched up to `seen`, and it is filled up to `held`.
abbrev pub Stands : ℕ → ℕ → ℕ → Type 0
Stands from seen held = (from ≤ seen) × (seen ≤ held) × (held ≤ room)
