-- `find` and `holder` agree, and each has one answer.
use Rattle.std.specs.Prelude.{ℕ, ◌+◌, ◌≤◌, ◌≡◌, refl, List, length}
use Rattle.std.proofs.Common.{sym, ◌∙◌, arith}
use Rattle.std.specs.Borrow.{Bor}
use Rattle.tables.specs.Tables.{Table}
use Rattle.lookup.specs.Lookup.{Spot, At, Nothing, held_in, lookup, area_of, PartOf, Handed}
use Rattle.lookup.specs.LookupLaws.{held_within}

-- what is found lies within its area, so the part has all of its bytes
pub found_within :
    (kind : ℕ) (t u : Table)
    → let f = lookup kind t u in
    f.start + f.size ≤ length (area_of f.holder t.values u.values)
found_within kind t u = go (held_in kind t) refl (held_in kind u) refl
  where
    go :
        (x : Spot)
        → held_in kind t ≡ x
        → (y : Spot)
        → held_in kind u ≡ y
        → let f = lookup kind t u in
        f.start + f.size ≤ length (area_of f.holder t.values u.values)
    go (At a n) e y g = rw e (held_within kind t a n e)
    go Nothing e (At a n) g = rw (e, g) (held_within kind u a n g)
    go Nothing e Nothing g = rw (e, g) (omega arith)

module _ (kind : ℕ) (t u : Table) (first second : Bor (List ℕ)) where
  -- the two answers side by side, h of `holder` and r of `find`: nothing in either record, and the empty part at the start of the first
  -- area; the first record's part; or nothing in the first record, and the second's part
  pub data Agree (h : ℕ) (r : Bor (List ℕ)) : Type 0 where
    neither : h ≡ 0 → held_in kind t ≡ Nothing → held_in kind u ≡ Nothing → PartOf first 0 0 r → Agree h r
    in_first : (a n : ℕ) → h ≡ 1 → held_in kind t ≡ At a n → PartOf first a n r → Agree h r
    in_second : (a n : ℕ) → h ≡ 2 → held_in kind t ≡ Nothing → held_in kind u ≡ At a n → PartOf second a n r → Agree h r

  -- what each way of finding makes the answers
  module _ (r : Bor (List ℕ)) where
    pub handed_first : (a n : ℕ) → held_in kind t ≡ At a n → PartOf first a n r → Handed (lookup kind t u) first second r
    handed_first a n e p = rw e p

    pub handed_second :
        (a n : ℕ)
        → held_in kind t ≡ Nothing
        → held_in kind u ≡ At a n
        → PartOf second a n r
        → Handed (lookup kind t u) first second r
    handed_second a n e f p = rw (e, f) p

    pub handed_none : held_in kind t ≡ Nothing → held_in kind u ≡ Nothing → PartOf first 0 0 r → Handed (lookup kind t u) first second r
    handed_none e f p = rw (e, f) p

  -- the contracts of `find` and `holder` say that they agree, and no more
  pub agree : (h : ℕ) (r : Bor (List ℕ)) → h ≡ (lookup kind t u).holder → Handed (lookup kind t u) first second r → Agree h r
  agree h r e p = go (held_in kind t) refl (held_in kind u) refl
    where
      go : (x : Spot) → held_in kind t ≡ x → (y : Spot) → held_in kind u ≡ y → Agree h r
      go (At a n) f y g = in_first a n (rw f at e) f (rw f at p)
      go Nothing f (At a n) g = in_second a n (rw (f, g) at e) f g (rw (f, g) at p)
      go Nothing f Nothing g = neither (rw (f, g) at e) f g (rw (f, g) at p)

  pub agreed : (h : ℕ) (r : Bor (List ℕ)) → Agree h r → (h ≡ (lookup kind t u).holder) × Handed (lookup kind t u) first second r
  agreed h r (neither e f g p) = (rw (f, g) e, handed_none r f g p)
  agreed h r (in_first a n e f p) = (rw f e, handed_first r a n f p)
  agreed h r (in_second a n e f g p) = (rw (f, g) e, handed_second r a n f g p)

  -- "the contract leaves one possible answer": two parts that `find` may hand back lie at one place and have the same bytes
  pub find_unique :
      (r s : Bor (List ℕ))
      → Handed (lookup kind t u) first second r
      → Handed (lookup kind t u) first second s
      → (r.ref_ptr ≡ s.ref_ptr) × (r.now ≡ s.now)
  find_unique r s p q = (p.place ∙ sym q.place, p.bytes ∙ sym q.bytes)

  pub holder_unique : (h k : ℕ) → h ≡ (lookup kind t u).holder → k ≡ (lookup kind t u).holder → h ≡ k
  holder_unique h k e f = e ∙ sym f
