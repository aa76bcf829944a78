-- What is handed out, and what not.
use Rattle.std.specs.Prelude.{ℕ, ◌≤◌, Bool, true, false, List, ◌≡◌, refl, eqb, length}
use Rattle.std.proofs.Common.{arith, eq-eqb, ne_eqb, eqb-true, le-ltb}
use Rattle.std.proofs.lemmas.Bool.{eqb-false}
use Rattle.outcomes.specs.Refusals.{accepted}
use Rattle.tables.specs.Tables.{Table, table}
use Rattle.answers.specs.declared.Answer.{Answer}
use Rattle.outcomes.specs.Outcome.{Leaves}
use Rattle.handing.specs.Handing.{lacks_room, over_all, handed_of}

-- four buffers with room for a table
pub record Room (t b : Table) : Type 0 where
  pub types : length t.types ≤ length b.types
  pub counts : length t.counts ≤ length b.counts
  pub lengths : length t.lengths ≤ length b.lengths
  pub values : length t.values ≤ length b.values

-- an accepted slip's table is handed out wherever it has room
pub handed_out : (a : Answer) (t b : Table) → a.number ≡ accepted → Room t b → handed_of a t b ≡ record { answer = a; left = over_all t b }
unfolding handed_of lacks_room
handed_out a t b e r =
    rw (
      eq-eqb a.number accepted e,
      le-ltb (length b.types) (length t.types) r.types,
      le-ltb (length b.counts) (length t.counts) r.counts,
      le-ltb (length b.lengths) (length t.lengths) r.lengths,
      le-ltb (length b.values) (length t.values) r.values,
    )

-- and nothing else is accepted
pub record Handed (a : Answer) (t b : Table) : Type 0 where
  pub taken : a.number ≡ accepted
  pub is : handed_of a t b ≡ record { answer = a; left = over_all t b }

pub handed_told : (a : Answer) (t b : Table) → (handed_of a t b).answer.number ≡ accepted → Handed a t b
unfolding handed_of
handed_told a t b e =
    go (eqb a.number accepted) refl (lacks_room t (length b.types) (length b.counts) (length b.lengths) (length b.values)) refl
  where
    go : (free : Bool) → eqb a.number accepted ≡ free
        → (lacks : Bool) → lacks_room t (length b.types) (length b.counts) (length b.lengths) (length b.values) ≡ lacks
        → Handed a t b
    go false f lacks l = absurd (eqb-false a.number accepted f (rw f at e))
    go true f true l = absurd (omega (arith, rw (f, l) at e))
    go true f false l = record { taken = eqb-true a.number accepted f; is = rw (f, l) }

-- a refused slip's answer is told as it is, and the buffers stay
module _ (a r : Answer) (t b : Table) (types counts lengths values : List ℕ) where
  pub handed_refused :
      (a.number ≡ accepted → ⊥)
      → r ≡ a
      → types ≡ b.types
      → counts ≡ b.counts
      → lengths ≡ b.lengths
      → values ≡ b.values
      → Leaves (handed_of a t b) r (table types counts lengths values)
  unfolding handed_of
  handed_refused h e p q u v =
      rw (ne_eqb a.number accepted h)
      (record { answered = e; written = λ i. table (p i) (q i) (u i) (v i) })
