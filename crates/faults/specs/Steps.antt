-- Which refusal a step meets.
use Rattle.std.specs.Prelude.{ℕ, zero, suc, ◌+◌, ◌≤◌, ◌<◌, ◌≡◌, refl, Bool, true, false, cond, List, map, ltb, leb, length}
use Rattle.std.proofs.Common.{sym, ap, arith, lt-ltb, le-ltb, le-leb, ltb-false}
use Rattle.std.proofs.lemmas.Bool.{lt-leb}
use Rattle.outcomes.specs.Refusals.{children_missing, too_high, salt_broken, not_composed}
use Rattle.trees.specs.Rules.{max_height, first_text, last_text, salted}
use Rattle.trees.specs.Rows.{Entry, node, tip, Tag, head_of, highest_of, Step, fault, next, kids, step_of}
use Rattle.tables.specs.Tables.{entry_of}
use Rattle.faults.specs.Waiting.{step_fault}
use Rattle.lists.specs.TestsLaws.{and_false}

-- a row's entry, by its count of children
pub entry_tip : (t c : ℕ) (v : List ℕ) → c ≡ 0 → entry_of t c v ≡ tip t v
entry_tip t c v e = ap (λ (n : ℕ). entry_of t n v) e

pub entry_node : (t c : ℕ) (v : List ℕ) → 0 < c → entry_of t c v ≡ node c
entry_node t zero v h = absurd (omega arith)
entry_node t (suc c) v h = refl

module _ (H : List ℕ → List ℕ) (composed : List ℕ → Bool) (st : List Tag) where
  -- 8, at a leaf
  pub below_text : (t : ℕ) (v : List ℕ) → t < first_text → 0 ≡ step_fault (step_of H composed st (tip t v))
  below_text t v h = rw (lt-leb first_text t h)

  pub above_text : (t : ℕ) (v : List ℕ) → last_text < t → 0 ≡ step_fault (step_of H composed st (tip t v))
  above_text t v h = rw (lt-leb t last_text h, and_false (leb first_text t))

  pub at_text : (t : ℕ) (v : List ℕ) (b : Bool) → first_text ≤ t → t ≤ last_text → b ≡ composed v
      → cond b 0 not_composed ≡ step_fault (step_of H composed st (tip t v))
  at_text t v true h l e = rw (le-leb first_text t h, le-leb t last_text l, ← e)
  at_text t v false h l e = rw (le-leb first_text t h, le-leb t last_text l, ← e)

  -- 5, 6 and 7, at an internal node
  pub too_few : (k : ℕ) → length st < k → children_missing ≡ step_fault (step_of H composed st (node k))
  too_few k h = rw (lt-ltb (length st) k h)

  module _ (k : ℕ) (h : k ≤ length st) where
    pub too_high_lem : max_height ≤ highest_of (kids k st) → too_high ≡ step_fault (step_of H composed st (node k))
    too_high_lem l =
        let over : max_height < highest_of (kids k st) + 1 = omega arith in
        rw (le-ltb (length st) k h, lt-ltb max_height (highest_of (kids k st) + 1) over)

    pub by_salt : (b : Bool) → highest_of (kids k st) < max_height → b ≡ salted (map head_of (kids k st))
        → cond b 0 salt_broken ≡ step_fault (step_of H composed st (node k))
    by_salt true l e =
        let low : highest_of (kids k st) + 1 ≤ max_height = omega arith in
        rw (le-ltb (length st) k h, le-ltb max_height (highest_of (kids k st) + 1) low, ← e)
    by_salt false l e =
        let low : highest_of (kids k st) + 1 ≤ max_height = omega arith in
        rw (le-ltb (length st) k h, le-ltb max_height (highest_of (kids k st) + 1) low, ← e)

-- what an internal node that meets no refusal has shown
pub record Kept (st : List Tag) (k : ℕ) : Type 0 where
  pub there : k ≤ length st
  pub low : highest_of (kids k st) < max_height
  pub salt : salted (map head_of (kids k st)) ≡ true

module _ (H : List ℕ → List ℕ) (composed : List ℕ → Bool) (st : List Tag) where
  pub kept : (k : ℕ) → step_fault (step_of H composed st (node k)) ≡ 0 → Kept st k
  kept k e =
      go _ _ (ltb (length st) k) refl (ltb max_height (highest_of (kids k st) + 1)) refl (salted (map head_of (kids k st))) refl e
    where
      go : (z : List Tag) (c : ℕ) (a : Bool) → ltb (length st) k ≡ a
          → (b : Bool) → ltb max_height (highest_of (kids k st) + 1) ≡ b
          → (s : Bool) → salted (map head_of (kids k st)) ≡ s
          → step_fault (cond a (fault children_missing) (cond b (fault too_high) (cond s (next z c) (fault salt_broken)))) ≡ 0
          → Kept st k
      go z c true p b q s r f = absurd (omega arith)
      go z c false p true q s r f = absurd (omega arith)
      go z c false p false q false r f = absurd (omega arith)
      go z c false p false q true r f =
          let n : highest_of (kids k st) + 1 ≤ max_height = ltb-false max_height (highest_of (kids k st) + 1) q in
          record { there = ltb-false (length st) k p; low = omega arith; salt = r }

  -- one that meets a refusal is that refusal
  pub stops : (e : Entry) (k : ℕ) → k ≡ step_fault (step_of H composed st e) → (k ≡ 0 → ⊥) → step_of H composed st e ≡ fault k
  stops e k p n = go (step_of H composed st e) p
    where
      go : (s : Step) → k ≡ step_fault s → s ≡ fault k
      go (fault j) q = ap fault (sym q)
      go (next z c) q = absurd (n q)
