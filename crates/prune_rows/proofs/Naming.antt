-- The pruning list, one number at a time.
use Prim.Native.Nat.{ℕ, suc, ◌+◌, ◌-◌, ◌≤◌, ◌<◌}
use mathlib.Core.Bool.{Bool, true, false, ◌&&◌, and-false}
use mathlib.Core.Path.{◌≡◌, refl, sym, ap, ◌∙◌}
use mathlib.Core.List.{List, ◌∷◌}
use native.Mathlib.Numerals.{add-one}
use native.Mathlib.Omega.{arith}
use lib.Dec.{leb, ltb}
use lib.ListN.{length, drop, get_or, drop_of_length-le, get_or-eq_default}
use lib.Seq.{drop-cons}
use borrow.Author.Tests.{lt-leb, le-leb, lt-ltb, le-ltb, ltb-true, ltb-false}
use Rattle.tables.specs.PruningList.{named, first_fault}
use Rattle.prune_rows.specs.Steps.{Before}
use Rattle.tables.specs.ListRule.{Rising}
use Rattle.tables.proofs.ListRule.{clean_rule, named_at, named_not}

-- one number is below another, or it is not
below_or {ℓ} : {C : Type ℓ} (a b : ℕ) → (a < b → C) → (b ≤ a → C) → C
below_or {C = C} a b f g = go (ltb a b) refl
  where
    go : (t : Bool) → ltb a b ≡ t → C
    go true e = f (ltb-true a b e)
    go false e = g (ltb-false a b e)

-- whether a number may follow
module _ (x low : ℕ) (counts : List ℕ) where
  pub may_low : x < low → false ≡ (leb low x && ltb 0 (get_or counts x 0))
  may_low h = rw (lt-leb low x h)

  pub may_out : length counts ≤ x → false ≡ (leb low x && ltb 0 (get_or counts x 0))
  may_out h = rw (get_or-eq_default counts 0 h, and-false)

  pub may_in : (r : ℕ) → low ≤ x → r ≡ get_or counts x 0 → ltb 0 r ≡ (leb low x && ltb 0 (get_or counts x 0))
  may_in r h e = rw (le-leb low x h, e)

-- the numbers from index i on are the one there and those behind it
module _ (counts list : List ℕ) (i low : ℕ) (h : i < length list) where
  opened : first_fault counts i low (drop i list) ≡ first_fault counts i low (get_or list i 0 ∷ drop (suc i) list)
  opened = rw (drop-cons list i 0 h)

  pub fault_here : (leb low (get_or list i 0) && ltb 0 (get_or counts (get_or list i 0) 0)) ≡ false → first_fault counts i low (drop i list) ≡ i
  unfolding first_fault
  fault_here e = opened ∙ rw e

  pub fault_later :
      (leb low (get_or list i 0) && ltb 0 (get_or counts (get_or list i 0) 0)) ≡ true
      → first_fault counts i low (drop i list) ≡ first_fault counts (i + 1) (get_or list i 0 + 1) (drop (i + 1) list)
  unfolding first_fault
  fault_later e = opened ∙ rw (e, add-one)

pub fault_none : (counts list : List ℕ) (i low : ℕ) → length list ≤ i → first_fault counts i low (drop i list) ≡ i
unfolding first_fault
fault_none counts list i low h = rw (drop_of_length-le list h)

-- the names before row i, where k names are those of rows up to it
module _ (list : List ℕ) (i k : ℕ) (rising : Rising list) (b : Before list (i + 1) k) where
  -- the last of them, where there is one, is another row
  pub before_miss : (0 < k → get_or list (k - 1) 0 ≡ i → ⊥) → Before list i k × (ltb k k ≡ named list i)
  before_miss miss = (record { within = b.within; low = low; high = high }, le-ltb k k (omega arith) ∙ sym (named_not list i other))
    where
      last_is : (a : ℕ) → a < k → i ≤ get_or list a 0 → get_or list (k - 1) 0 ≡ i
      last_is a h l =
          let top : get_or list (k - 1) 0 < i + 1 = b.low (k - 1) (omega arith) in
          below_or a (k - 1)
          (λ p. absurd (let q : get_or list a 0 < get_or list (k - 1) 0 = rising a (k - 1) p (omega (arith, b.within)) in omega arith))
          (λ p. (let e : a ≡ k - 1 = omega arith in let q : get_or list a 0 ≡ get_or list (k - 1) 0 = ap (λ (x : ℕ). get_or list x 0) e in omega arith))

      low : (a : ℕ) → a < k → get_or list a 0 < i
      low a h = below_or (get_or list a 0) i (λ p. p) (λ p. absurd (miss (omega arith) (last_is a h p)))

      high : (a : ℕ) → k ≤ a → a < length list → i ≤ get_or list a 0
      high a h l = let p : i + 1 ≤ get_or list a 0 = b.high a h l in omega arith

      other : (a : ℕ) → a < length list → get_or list a 0 ≡ i → ⊥
      other a h e =
          below_or a k (λ p. (let q : get_or list a 0 < i = low a p in omega arith))
          (λ p. (let q : i + 1 ≤ get_or list a 0 = b.high a p h in omega arith))

  -- it is row i
  pub before_hit : 0 < k → get_or list (k - 1) 0 ≡ i → Before list i (k - 1) × (ltb (k - 1) k ≡ named list i)
  before_hit some hit = (
    record { within = omega (arith, b.within); low = low; high = high },
    lt-ltb (k - 1) k (omega arith) ∙ sym (named_at list (k - 1) i (omega (arith, b.within)) hit),
  )
    where
      low : (a : ℕ) → a < k - 1 → get_or list a 0 < i
      low a h = let q : get_or list a 0 < get_or list (k - 1) 0 = rising a (k - 1) h (omega (arith, b.within)) in omega arith

      high : (a : ℕ) → k - 1 ≤ a → a < length list → i ≤ get_or list a 0
      high a h l =
          below_or a k (λ p. (let e : a ≡ k - 1 = omega arith in let q : get_or list a 0 ≡ get_or list (k - 1) 0 = ap (λ (x : ℕ). get_or list x 0) e in omega arith))
          (λ p. (let q : i + 1 ≤ get_or list a 0 = b.high a p l in omega arith))

-- before the first step every name is that of a row before the end
pub before_all : (counts list : List ℕ) → first_fault counts 0 0 list ≡ length list → Before list (length counts) (length list)
before_all counts list e =
    record { within = omega arith; low = low; high = λ a h l. absurd (omega arith) }
  where
    low : (a : ℕ) → a < length list → get_or list a 0 < length counts
    low a h =
        below_or (get_or list a 0) (length counts) (λ p. p)
        (λ p. absurd (let q : 0 < get_or counts (get_or list a 0) 0 = (clean_rule counts list e).1 a h in omega (arith, get_or-eq_default counts 0 p)))
