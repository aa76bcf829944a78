-- The marks, one row at a time.
use Prim.Native.Nat.{ℕ, zero, suc, ◌+◌, ◌-◌, ◌≤◌, ◌<◌}
use mathlib.Core.Bool.{Bool, true, false, true≢false, false≢true}
use mathlib.Core.Path.{◌≡◌, refl, sym, ap, ap₂, ◌∙◌}
use mathlib.Core.List.{List, ◌∷◌, map}
use native.Mathlib.Numerals.{add-one}
use native.Mathlib.Nat.{sub-zero}
use native.Mathlib.Omega.{arith}
use lib.ListN.{length, take, drop, get_or, set}
use lib.Seq.{drop-cons, drop-length, drop_at, set_split, length-take-le}
use Rattle.prune_rows.specs.declared.marks.Mark.{Mark}
use Rattle.prune_rows.specs.Marks.{gone, kept, cut_off, Walk, mark_by, owed_by, step_back, at_end, walk}

-- a row behind which subtrees are owed goes
pub owed_goes : (b : Bool) (c o : ℕ) → 0 < o → (gone ≡ mark_by b o) × (o - 1 + c ≡ owed_by b c o)
owed_goes b c zero h = absurd (omega arith)
owed_goes b c (suc o) h = (refl, omega arith)

-- another is cut off where it is named, and kept where it is not
pub named_cut : (b : Bool) (c o : ℕ) → o ≤ 0 → b ≡ true → (cut_off ≡ mark_by b o) × (c ≡ owed_by b c o)
named_cut true c zero h e = (refl, refl)
named_cut false c zero h e = absurd (false≢true e)
named_cut b c (suc o) h e = absurd (omega arith)

pub other_kept : (b : Bool) (c o : ℕ) → o ≤ 0 → b ≡ false → (kept ≡ mark_by b o) × (0 ≡ owed_by b c o)
other_kept true c zero h e = absurd (true≢false e)
other_kept false c zero h e = (refl, refl)
other_kept b c (suc o) h e = absurd (omega arith)

-- what is owed grows by a row's children at most
pub owed_low : (b : Bool) (c o k : ℕ) → c < 65536 → o ≤ k → owed_by b c o ≤ k + 65535
owed_low true c zero k p q = omega arith
owed_low false c zero k p q = omega arith
owed_low b c (suc o) k p q = omega arith

module _ {M : Type 0} (made : Mark → M) (f : ℕ → Bool) (cs : List ℕ) where
  -- the marks from row i on stand in the area, and so many subtrees are owed before it
  abbrev pub Walked : List M → ℕ → ℕ → Type 0
  Walked ms i o =
      (map made (walk f (drop i cs) i at_end).marks ≡ take (length cs - i) (drop i ms)) × ((walk f (drop i cs) i at_end).owed ≡ o)

  pub walked_none : (ms : List M) → Walked ms (length cs) 0
  walked_none ms =
      let none : length cs - length cs ≡ 0 = omega arith in
      rw (drop-length cs, none) (refl, refl)

  front : (ms : List M) (j : ℕ) (m : M) → j < length ms → drop j (set ms j m) ≡ m ∷ drop (suc j) ms
  front ms j m h = ap (drop j) (set_split ms j m h) ∙ drop_at (take j ms) (m ∷ drop (suc j) ms) j (length-take-le j ms (omega arith))

  pub walked_more :
      (ms : List M) (j : ℕ) (m : M) (o o' : ℕ)
      → j < length cs
      → j < length ms
      → Walked ms (j + 1) o
      → m ≡ made (mark_by (f j) o)
      → o' ≡ owed_by (f j) (get_or cs j 0) o
      → Walked (set ms j m) j o'
  walked_more ms j m o o' h l w p q =
      let more : length cs - j ≡ suc (length cs - (j + 1)) = omega arith in
      let step : walk f (drop j cs) j at_end ≡ step_back (f j) (get_or cs j 0) (walk f (drop (j + 1) cs) (j + 1) at_end) =
      ap (λ (x : List ℕ). walk f x j at_end) (drop-cons cs j 0 h)
      ∙ ap (λ (k : ℕ). step_back (f j) (get_or cs j 0) (walk f (drop k cs) (j + 1) at_end)) (sym (add-one j)) in (
        ap (λ (x : Walk). map made x.marks) step
            ∙ ap₂ (λ (x : M) (y : List M). x ∷ y) (ap (λ (k : ℕ). made (mark_by (f j) k)) w.1 ∙ sym p) w.0
            ∙ ap (λ (k : ℕ). m ∷ take (length cs - (j + 1)) (drop k ms)) (add-one j)
            ∙ ap₂ (λ (k : ℕ) (x : List M). take k x) (sym more) (sym (front ms j m l)),
        ap (λ (x : Walk). x.owed) step ∙ ap (owed_by (f j) (get_or cs j 0)) w.1 ∙ sym q,
      )

  -- before the first row all marks stand in the area
  pub walked_all : (ms : List M) (i o : ℕ) → i ≤ 0 → Walked ms i o → take (length cs) ms ≡ map made (walk f cs 0 at_end).marks
  walked_all ms zero o h w = ap (λ (k : ℕ). take k ms) (sym (sub-zero (length cs))) ∙ sym w.0
  walked_all ms (suc i) o h w = absurd (omega arith)
