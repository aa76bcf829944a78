-- "A table that number 16 would refuse holds nothing": the lookup's test of a table is the packer's refusal.
use Rattle.std.specs.Prelude.{ℕ, ◌≤◌, ◌<◌, Bool, List, ◌≡◌, length}
use Rattle.std.proofs.Math.Bool.{true, false}
use Rattle.std.proofs.Math.Path.{refl}
use Rattle.std.proofs.Common.{arith}
use Rattle.std.proofs.Math.ListN.{get_or}
use Rattle.outcomes.specs.Refusals.{bad_table}
use Rattle.tables.specs.Tables.{Table, table_fits}
use Rattle.sha256.specs.Sha256 as Sha256
use Rattle.titles.specs.Compose.{composed_text}
use Rattle.pack.specs.Pack.{pack_of}
use Rattle.pack.proofs.PackRefusals.{pack_unfit, unfit_packs}
use Rattle.lookup.specs.Lookup.{Nothing, held_in}
use Rattle.lookup.specs.LookupLaws.{held_none, refused_none}

module _ (kind : ℕ) (t : Table) (out : List ℕ) where
  -- what the packer refuses with 16 holds nothing
  pub refused_holds_none : (pack_of Sha256.label composed_text t out).answer.number ≡ bad_table → held_in kind t ≡ Nothing
  unfolding pack_of
  refused_holds_none e = refused_none kind t (pack_unfit Sha256.label composed_text t (length out) e)

  -- and nothing else keeps a row from being found, whatever other number the packer answers
  pub taken_holds : ((pack_of Sha256.label composed_text t out).answer.number ≡ bad_table → ⊥) → 1 ≤ kind → held_in kind t ≡ Nothing
      → (j : ℕ) → j < length t.types → get_or t.types j 0 ≡ kind → ⊥
  unfolding pack_of
  taken_holds free low e j h = go (table_fits t) refl
    where
      go : (b : Bool) → table_fits t ≡ b → get_or t.types j 0 ≡ kind → ⊥
      go true f = held_none kind t low f e j h
      go false f = absurd (free (unfit_packs Sha256.label composed_text t (length out) (λ z. omega arith) f))
