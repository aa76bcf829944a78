-- What the rule of the pruning list means.
use Rattle.std.specs.Prelude.{ℕ, zero, suc, ◌+◌, ◌≤◌, ◌<◌, Bool, true, false, ◌&&◌, ◌≡◌, refl, leb, ltb, eqb, get_or, take}
use Rattle.std.proofs.Math.Bool.{and-false}
use Rattle.std.proofs.Common.{true≢false, ◌∙◌, leb-true, leb-false, ltb-true, ltb-false, le-leb, lt-ltb, eq-eqb, ne_eqb, eqb-true}
use Rattle.std.proofs.lemmas.Bool.{false≢true, lt-leb}
use mathlib.Core.List.{List, [], ◌∷◌}
use native.Mathlib.Omega.{arith}
use Rattle.std.proofs.Math.ListN.{length, get_or-eq_default}
use Rattle.lists.specs.TestsLaws.{and_left, and_right, and_both, or_second, or_cases}
use Rattle.tables.specs.PruningList.{named, first_fault}
use Rattle.tables.specs.ListRule.{Rising, NamesInner, Faulty, falls, outside, childless, FaultAt, Clean}

-- the number that may come first
abbrev may : List ℕ → ℕ → ℕ → Bool
may counts low x = leb low x && ltb 0 (get_or counts x 0)

may_told : (counts : List ℕ) (low x : ℕ) → may counts low x ≡ true → (low ≤ x) × (0 < get_or counts x 0)
may_told counts low x h = (
  leb-true low x (and_left (leb low x) (ltb 0 (get_or counts x 0)) h),
  ltb-true 0 (get_or counts x 0) (and_right (leb low x) (ltb 0 (get_or counts x 0)) h),
)

-- `first_fault`, one number at a time: one that may come is passed, and one that may not is told at its own index
module _ (counts : List ℕ) (i low x : ℕ) (xs : List ℕ) where
  fault_later : may counts low x ≡ true → first_fault counts i low (x ∷ xs) ≡ first_fault counts (i + 1) (x + 1) xs
  unfolding first_fault
  fault_later h = rw h

  fault_here : may counts low x ≡ false → first_fault counts i low (x ∷ xs) ≡ i
  unfolding first_fault
  fault_here h = rw h

  fault_cases {ℓ} : {C : Type ℓ}
      → (may counts low x ≡ true → first_fault counts i low (x ∷ xs) ≡ first_fault counts (i + 1) (x + 1) xs → C)
      → (may counts low x ≡ false → first_fault counts i low (x ∷ xs) ≡ i → C) → C
  fault_cases {C = C} f g = go (may counts low x) refl
    where
      go : (b : Bool) → may counts low x ≡ b → C
      go true h = f h (fault_later h)
      go false h = g h (fault_here h)

  -- where a later index is told the number may come
  fault_passed : (k : ℕ) → first_fault counts i low (x ∷ xs) ≡ i + suc k → (may counts low x ≡ true) × (first_fault counts (i + 1) (x + 1) xs ≡ i + 1 + k)
  fault_passed k e = fault_cases (λ h q. (h, omega arith)) (λ h q. absurd (omega arith))

module _ (counts : List ℕ) where
  pub clean_cons : (low x : ℕ) (xs : List ℕ) → low ≤ x → 0 < get_or counts x 0 → Clean counts (x + 1) xs → Clean counts low (x ∷ xs)
  clean_cons low x xs p q c = record { above = above; rising = rising; inner = inner }
    where
      above : (k : ℕ) → k < length (x ∷ xs) → low ≤ get_or (x ∷ xs) k 0
      above zero h = p
      above (suc k) h = let l : x + 1 ≤ get_or xs k 0 = c.above k (omega arith) in omega arith

      rising : Rising (x ∷ xs)
      rising a zero h l = absurd (omega arith)
      rising zero (suc b) h l = let l : x + 1 ≤ get_or xs b 0 = c.above b (omega arith) in omega arith
      rising (suc a) (suc b) h l = c.rising a b (omega arith) (omega arith)

      inner : NamesInner counts (x ∷ xs)
      inner zero h = q
      inner (suc k) h = c.inner k (omega arith)

  pub clean_none : (low : ℕ) → Clean counts low []
  clean_none low =
      record { above = λ k h. absurd (omega arith); rising = λ a b h l. absurd (omega arith); inner = λ k h. absurd (omega arith) }

  -- a list without fault keeps the rule
  clean_from : (i low : ℕ) (list : List ℕ) → first_fault counts i low list ≡ i + length list → Clean counts low list
  clean_from i low [] e = clean_none low
  clean_from i low (x ∷ xs) e =
      let p = fault_passed counts i low x xs (length xs) e in
      let m = may_told counts low x p.0 in
      clean_cons low x xs m.0 m.1 (clean_from (i + 1) (x + 1) xs p.1)

  pub clean_tail : (low x : ℕ) (xs : List ℕ) → Clean counts low (x ∷ xs) → Clean counts (x + 1) xs
  clean_tail low x xs c =
      record {
        above = λ k h. (let l : x < get_or xs k 0 = c.rising 0 (suc k) (omega arith) (omega arith) in omega arith);
        rising = λ a b h l. c.rising (suc a) (suc b) (omega arith) (omega arith);
        inner = λ k h. c.inner (suc k) (omega arith);
      }

  may_first : (low x : ℕ) (xs : List ℕ) → Clean counts low (x ∷ xs) → may counts low x ≡ true
  may_first low x xs c =
      and_both (leb low x) (ltb 0 (get_or counts x 0)) (le-leb low x (c.above 0 (omega arith))) (lt-ltb 0 (get_or counts x 0) (c.inner 0 (omega arith)))

  -- and one that keeps the rule has no fault
  fault_from : (i low : ℕ) (list : List ℕ) → Clean counts low list → first_fault counts i low list ≡ i + length list
  unfolding first_fault
  fault_from i low [] c = omega arith
  fault_from i low (x ∷ xs) c =
      fault_later counts i low x xs (may_first low x xs c) ∙ fault_from (i + 1) (x + 1) xs (clean_tail low x xs c) ∙ omega arith

  -- the list has no fault exactly when it is strictly rising and names internal rows alone
  pub clean_rule : (list : List ℕ) → first_fault counts 0 0 list ≡ length list → Rising list × NamesInner counts list
  clean_rule list e = let c : Clean counts 0 list = clean_from 0 0 list (e ∙ omega arith) in (c.rising, c.inner)

  pub rule_clean : (list : List ℕ) → Rising list → NamesInner counts list → first_fault counts 0 0 list ≡ length list
  rule_clean list p q = fault_from 0 0 list (record { above = λ k h. omega arith; rising = p; inner = q }) ∙ omega arith

-- the same where no number below low may come first
data FaultyFrom (counts : List ℕ) (low : ℕ) (list : List ℕ) (k : ℕ) : Type 0 where
  under : get_or list k 0 < low → FaultyFrom counts low list k
  worse : Faulty counts list k → FaultyFrom counts low list k

none_under : (counts list : List ℕ) (k : ℕ) → FaultyFrom counts 0 list k → Faulty counts list k
none_under counts list k (under h) = absurd (omega arith)
none_under counts list k (worse f) = f

module _ (counts : List ℕ) where
  -- a number that may not come first
  first_faulty : (low x : ℕ) (xs : List ℕ) (p q r : Bool) → leb low x ≡ p → ltb 0 (get_or counts x 0) ≡ q → ltb x (length counts) ≡ r
      → (p && q) ≡ false → FaultyFrom counts low (x ∷ xs) 0
  first_faulty low x xs false q r e f g h = under (omega (arith, leb-false low x e))
  first_faulty low x xs true true r e f g h = absurd (true≢false h)
  first_faulty low x xs true false true e f g h = worse (childless (ltb-true x (length counts) g) (omega (arith, ltb-false 0 (get_or counts x 0) f)))
  first_faulty low x xs true false false e f g h = worse (outside (ltb-false x (length counts) g))

  -- and one that is faulty may not
  may_not : (low x : ℕ) (xs : List ℕ) → FaultyFrom counts low (x ∷ xs) 0 → may counts low x ≡ false
  may_not low x xs (under h) = rw (lt-leb low x h)
  may_not low x xs (worse (falls j h l)) = absurd (omega arith)
  may_not low x xs (worse (outside h)) = rw (get_or-eq_default counts 0 h, and-false)
  may_not low x xs (worse (childless h e)) = rw (e, and-false)

  -- behind a number that may come first, a fault is one of the rest
  one_more : (low x : ℕ) (xs : List ℕ) (k : ℕ) → FaultyFrom counts (x + 1) xs k → FaultyFrom counts low (x ∷ xs) (suc k)
  one_more low x xs k (under h) = worse (falls 0 (omega arith) (omega arith))
  one_more low x xs k (worse (falls j h l)) = worse (falls (suc j) (omega arith) l)
  one_more low x xs k (worse (outside h)) = worse (outside h)
  one_more low x xs k (worse (childless h e)) = worse (childless h e)

  one_less : (low x : ℕ) (xs : List ℕ) (k : ℕ) → low ≤ x → FaultyFrom counts low (x ∷ xs) (suc k) → FaultyFrom counts (x + 1) xs k
  one_less low x xs k p (under h) = under (omega arith)
  one_less low x xs k p (worse (falls zero h l)) = under (omega arith)
  one_less low x xs k p (worse (falls (suc j) h l)) = worse (falls j (omega arith) l)
  one_less low x xs k p (worse (outside h)) = worse (outside h)
  one_less low x xs k p (worse (childless h e)) = worse (childless h e)

  -- no index is told before the first, none behind the last
  fault_above : (i low : ℕ) (list : List ℕ) → i ≤ first_fault counts i low list
  unfolding first_fault
  fault_above i low [] = omega arith
  fault_above i low (x ∷ xs) =
      let h : i + 1 ≤ first_fault counts (i + 1) (x + 1) xs = fault_above (i + 1) (x + 1) xs in
      fault_cases counts i low x xs (λ d q. omega arith) (λ d q. omega arith)

  pub fault_within : (i low : ℕ) (list : List ℕ) → first_fault counts i low list ≤ i + length list
  unfolding first_fault
  fault_within i low [] = omega arith
  fault_within i low (x ∷ xs) =
      let h : first_fault counts (i + 1) (x + 1) xs ≤ i + 1 + length xs = fault_within (i + 1) (x + 1) xs in
      fault_cases counts i low x xs (λ d q. omega arith) (λ d q. omega arith)

  -- the index told: the numbers before it keep the rule, and the one there is faulty
  told_from : (i low : ℕ) (list : List ℕ) (k : ℕ) → k < length list → first_fault counts i low list ≡ i + k
      → Clean counts low (take k list) × FaultyFrom counts low list k
  told_from i low [] k h e = absurd (omega arith)
  told_from i low (x ∷ xs) zero h e = (
    clean_none counts low,
    first_faulty low x xs (leb low x) (ltb 0 (get_or counts x 0)) (ltb x (length counts)) refl refl refl
        (fault_cases counts i low x xs (λ d q. absurd (omega (arith, fault_above (i + 1) (x + 1) xs))) (λ d q. d)),
  )
  told_from i low (x ∷ xs) (suc k) h e =
      let p = fault_passed counts i low x xs k e in
      let m = may_told counts low x p.0 in
      let t = told_from (i + 1) (x + 1) xs k (omega arith) p.1 in
      (clean_cons counts low x (take k xs) m.0 m.1 t.0, one_more low x xs k t.1)

  -- and where that is so the index is told
  is_from : (i low : ℕ) (list : List ℕ) (k : ℕ) → k < length list → Clean counts low (take k list) → FaultyFrom counts low list k
      → first_fault counts i low list ≡ i + k
  is_from i low [] k h c f = absurd (omega arith)
  is_from i low (x ∷ xs) zero h c f = fault_here counts i low x xs (may_not low x xs f) ∙ omega arith
  is_from i low (x ∷ xs) (suc k) h c f =
      fault_later counts i low x xs (may_first counts low x (take k xs) c)
      ∙ is_from (i + 1) (x + 1) xs k (omega arith) (clean_tail counts low x (take k xs) c) (one_less low x xs k (c.above 0 (omega arith)) f)
      ∙ omega arith

  -- "the first faulty index in the list" is told exactly where it is
  pub fault_told : (list : List ℕ) (k : ℕ) → k < length list → first_fault counts 0 0 list ≡ k → FaultAt counts list k
  fault_told list k h e =
      let t = told_from 0 0 list k h (e ∙ omega arith) in
      record { within = h; rising = t.0.rising; inner = t.0.inner; fault = none_under counts list k t.1 }

  pub fault_is : (list : List ℕ) (k : ℕ) → FaultAt counts list k → first_fault counts 0 0 list ≡ k
  fault_is list k f =
      is_from 0 0 list k f.within (record { above = λ a h. omega arith; rising = f.rising; inner = f.inner }) (worse f.fault) ∙ omega arith

-- a name is a number of the list, and a number of the list is a name
pub named_at : (list : List ℕ) (k x : ℕ) → k < length list → get_or list k 0 ≡ x → named list x ≡ true
unfolding named
named_at [] k x h e = absurd (omega arith)
named_at (y ∷ ys) zero x h e = rw (eq-eqb y x e)
named_at (y ∷ ys) (suc k) x h e = or_second (eqb y x) (named ys x) (named_at ys k x (omega arith) e)

pub named_not : (list : List ℕ) (x : ℕ) → ((k : ℕ) → k < length list → get_or list k 0 ≡ x → ⊥) → named list x ≡ false
unfolding named
named_not [] x h = refl
named_not (y ∷ ys) x h = rw (ne_eqb y x (h 0 (omega arith)), named_not ys x (λ k l. h (suc k) (omega arith)))

-- where the list is named is an index of the list
pub named_where : (list : List ℕ) (x : ℕ) → named list x ≡ true → (k : ℕ) × (k < length list) × (get_or list k 0 ≡ x)
unfolding named
named_where [] x e = absurd (false≢true e)
named_where (y ∷ ys) x e =
    or_cases (eqb y x) (named ys x) e (λ h. (0, omega arith, eqb-true y x h)) (λ h. later (named_where ys x h))
  where
    later : (k : ℕ) × (k < length ys) × (get_or ys k 0 ≡ x) → (k : ℕ) × (k < suc (length ys)) × (get_or (y ∷ ys) k 0 ≡ x)
    later w = (suc w.0, omega (arith, w.1), w.2)

-- a named row of a list without fault is internal
pub named_inner : (counts list : List ℕ) (x : ℕ) → first_fault counts 0 0 list ≡ length list → named list x ≡ true → 0 < get_or counts x 0
named_inner counts list x e h =
    let w : (k : ℕ) × (k < length list) × (get_or list k 0 ≡ x) = named_where list x h in
    rw w.2 at ((clean_rule counts list e).1 w.0 w.1)
