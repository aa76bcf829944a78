-- An outcome as document 01 orders it: tests one after the other, each with what is answered where it is the first to hold.
use Rattle.std.specs.Prelude.{Bool, cond, List, [], ◌∷◌}

-- what stands beside the first test that holds; the last where none does
abbrev pub chain : {A : Type 0} → List (Bool × A) → A → A
chain [] last = last
chain (t ∷ ts) last = cond t.0 t.1 (chain ts last)
