-- Laws of what marks pick from rows.
use Rattle.std.specs.Prelude.{ℕ, zero, suc, ◌+◌, ◌*◌, ◌≤◌, ◌<◌, ◌≡◌, refl, List, [], ◌∷◌, ◌++◌, length, take, drop, get_or, replicate}
use Rattle.std.proofs.Common.{sym, ap, ap₂, ◌∙◌, append_assoc, arith, add-one, drop-cons, drop-drop}
use Rattle.trees.specs.Rules.{label_bytes}
use Rattle.trees.specs.Rows.{Entry}
use Rattle.prune_rows.specs.declared.marks.Mark.{Mark}
use Rattle.prune_rows.specs.Marks.{gone}
use Rattle.prune_rows.specs.Picked.{picked, label_rows}

module _ {A B : Type 0} (g : Mark → Entry → A → List B) where
  -- rows end to end give what they give, end to end
  pub picked_append : (k : ℕ) (ms ns : List Mark) (es fs : List Entry) (xs ys : List A) → length ms ≡ k → length es ≡ k → length xs ≡ k
      → picked g (ms ++ ns) (es ++ fs) (xs ++ ys) ≡ picked g ms es xs ++ picked g ns fs ys
  picked_append zero [] ns [] fs [] ys p q r = refl
  picked_append zero (m ∷ ms) ns es fs xs ys p q r = absurd (omega arith)
  picked_append zero [] ns (e ∷ es) fs xs ys p q r = absurd (omega arith)
  picked_append zero [] ns [] fs (x ∷ xs) ys p q r = absurd (omega arith)
  picked_append (suc k) [] ns es fs xs ys p q r = absurd (omega arith)
  picked_append (suc k) (m ∷ ms) ns [] fs xs ys p q r = absurd (omega arith)
  picked_append (suc k) (m ∷ ms) ns (e ∷ es) fs [] ys p q r = absurd (omega arith)
  picked_append (suc k) (m ∷ ms) ns (e ∷ es) fs (x ∷ xs) ys p q r =
      ap (λ (l : List B). g m e x ++ l) (picked_append k ms ns es fs xs ys (omega arith) (omega arith) (omega arith))
      ∙ sym (append_assoc (g m e x) (picked g ms es xs) (picked g ns fs ys))

  -- rows that are gone give nothing
  pub picked_gone : ((e : Entry) (x : A) → g gone e x ≡ []) → (k : ℕ) (es : List Entry) (xs : List A) → picked g (replicate k gone) es xs ≡ []
  picked_gone h zero es xs = refl
  picked_gone h (suc k) [] xs = refl
  picked_gone h (suc k) (e ∷ es) [] = refl
  picked_gone h (suc k) (e ∷ es) (x ∷ xs) = ap (λ (l : List B). l ++ picked g (replicate k gone) es xs) (h e x) ∙ picked_gone h k es xs

  -- marks past the last row pick nothing
  pub picked_take : (ms : List Mark) (es : List Entry) (xs : List A) → picked g (take (length es) ms) es xs ≡ picked g ms es xs
  picked_take [] [] xs = refl
  picked_take (m ∷ ms) [] xs = refl
  picked_take [] (e ∷ es) xs = refl
  picked_take (m ∷ ms) (e ∷ es) [] = refl
  picked_take (m ∷ ms) (e ∷ es) (x ∷ xs) = ap (λ (l : List B). g m e x ++ l) (picked_take ms es xs)

  -- what stands beside the rows matters only where a row looks at it
  pub picked_agree : (d : A) (z : Entry) (ms : List Mark) (es : List Entry) (xs ys : List A) → length es ≤ length xs → length es ≤ length ys
      → ((k : ℕ) → k < length es → (m : Mark) → g m (get_or es k z) (get_or xs k d) ≡ g m (get_or es k z) (get_or ys k d))
      → picked g ms es xs ≡ picked g ms es ys
  picked_agree d z [] es xs ys p q h = refl
  picked_agree d z (m ∷ ms) [] xs ys p q h = refl
  picked_agree d z (m ∷ ms) (e ∷ es) [] ys p q h = absurd (omega arith)
  picked_agree d z (m ∷ ms) (e ∷ es) (x ∷ xs) [] p q h = absurd (omega arith)
  picked_agree d z (m ∷ ms) (e ∷ es) (x ∷ xs) (y ∷ ys) p q h =
      ap₂ ◌++◌ (h 0 (omega arith) m) (picked_agree d z ms es xs ys (omega arith) (omega arith) (λ k l. h (suc k) (omega arith)))

-- the rows from i on are row i and those behind it
pub picked_step : {A B : Type 0} (g : Mark → Entry → A → List B) (z : Entry) (d : A) (ms : List Mark) (es : List Entry) (xs : List A) (i : ℕ)
    → i < length ms → i < length es → i < length xs
    → picked g (drop i ms) (drop i es) (drop i xs)
    ≡ g (get_or ms i gone) (get_or es i z) (get_or xs i d) ++ picked g (drop (i + 1) ms) (drop (i + 1) es) (drop (i + 1) xs)
picked_step g z d ms es xs i p q r = rw (add-one, drop-cons ms i gone p, drop-cons es i z q, drop-cons xs i d r)

-- no rows give nothing
pub picked_none : {A B : Type 0} (g : Mark → Entry → A → List B) (ms : List Mark) (xs : List A) → picked g ms [] xs ≡ []
picked_none g [] xs = refl
picked_none g (m ∷ ms) xs = refl

-- the labels of an area's rows
pub length_label_rows : (k : ℕ) (bs : List ℕ) → length (label_rows k bs) ≡ k
length_label_rows zero bs = refl
length_label_rows (suc k) bs = ap suc (length_label_rows k (drop label_bytes bs))

pub label_rows_at : (k : ℕ) (bs : List ℕ) (i : ℕ) → i < k → get_or (label_rows k bs) i [] ≡ take label_bytes (drop (label_bytes * i) bs)
label_rows_at zero bs i h = absurd (omega arith)
label_rows_at (suc k) bs zero h = refl
label_rows_at (suc k) bs (suc i) h =
    let next : label_bytes + label_bytes * i ≡ label_bytes * suc i = omega arith in
    label_rows_at k (drop label_bytes bs) i (omega arith)
    ∙ ap (take label_bytes) (drop-drop (label_bytes * i) label_bytes bs ∙ ap (λ (j : ℕ). drop j bs) next)
