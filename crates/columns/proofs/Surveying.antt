-- Laws of one step back over a subtree, and of one row more with its start.
use mathlib.Core.Path.{◌≡◌, refl, sym, ap, ◌∙◌}
use mathlib.Core.List.{List, []}
use Prim.Native.Nat.{ℕ, zero, suc, ◌+◌, ◌-◌, ◌≤◌, ◌<◌}
use native.Mathlib.Numerals.{add-one, sub-one}
use native.Mathlib.Omega.{arith}
use lib.ListN.{length, take, get_or, set}
use lib.Seq.{get_or-set_same, get_or-set_other, take-suc}
use borrow.Author.Count.{below_more}
use Rattle.tables.specs.Tables.{sum}
use Rattle.tables.specs.TablesLaws.{sum_append}
use Rattle.columns.specs.Columns.{back, Started}

pub back_stop : (s : List ℕ) (k : ℕ) → back s k 0 ≡ 0
unfolding back
back_stop s zero = refl
back_stop s (suc k) = refl

pub back_done : (s : List ℕ) (e : ℕ) → back s 0 e ≡ e
unfolding back
back_done s e = refl

pub back_step : (s : List ℕ) (k n e : ℕ) → k ≡ n + 1 → (e ≡ 0 → ⊥) → back s k e ≡ back s n (get_or s (e - 1) 0)
unfolding back
back_step s k n zero h q = absurd (q refl)
back_step s k n (suc e) h q = rw (h, add-one, sub-one)

-- a start written at r leaves what is found from r back
pub back_set : (s : List ℕ) (r v k e : ℕ) → e ≤ r → ((x : ℕ) → x < e → get_or s x 0 ≤ x) → back (set s r v) k e ≡ back s k e
unfolding back
back_set s r v zero e h l = refl
back_set s r v (suc k) zero h l = refl
back_set s r v (suc k) (suc e) h l =
    let same : get_or (set s r v) e 0 ≡ get_or s e 0 = get_or-set_other s r e v 0 (λ q. omega arith) in
    let low : get_or s e 0 ≤ e = l e (omega arith) in
    ap (back (set s r v) k) same ∙ back_set s r v k (get_or s e 0) (omega arith) (λ x q. l x (omega arith))

pub started_none : (counts s : List ℕ) → Started counts s 0
started_none counts s = record { low = λ x h. absurd (omega arith); are = λ x h. absurd (omega arith) }

pub started_more : (counts s : List ℕ) (r v : ℕ) → r < length s → Started counts s r → v ≡ back s (get_or counts r 0) r → v ≤ r
    → Started counts (set s r v) (r + 1)
started_more counts s r v h g e l =
    record {
      low = below_more _ r (λ x q. (let k = g.low x q in let o = other x q in omega arith)) (let o = get_or-set_same s r v 0 h in omega arith);
      are = below_more _ r
          (λ x q. other x q ∙ g.are x q ∙ sym (back_set s r v (get_or counts x 0) x (omega arith) (λ z b. g.low z (omega arith))))
          (get_or-set_same s r v 0 h ∙ e ∙ sym (back_set s r v (get_or counts r 0) r (omega arith) (λ z b. g.low z b)));
    }
  where
    other : (x : ℕ) → x < r → get_or (set s r v) x 0 ≡ get_or s x 0
    other x q = get_or-set_other s r x v 0 (λ z. omega arith)

-- the sum of no rows, and of one row more
pub sum_none : sum [] ≡ 0
unfolding sum
sum_none = refl

pub sum_take : (ls : List ℕ) (i : ℕ) → i < length ls → sum (take (i + 1) ls) ≡ sum (take i ls) + get_or ls i 0
unfolding sum
sum_take ls i h =
    ap sum (ap (λ (n : ℕ). take n ls) (add-one i) ∙ take-suc ls i 0 h) ∙ sum_append (take i ls) _ ∙ omega arith

-- one offset more
pub offsets_more : (ls os : List ℕ) (i v : ℕ) → i < length os → v ≡ sum (take i ls) → ((x : ℕ) → x < i → get_or os x 0 ≡ sum (take x ls))
    → (x : ℕ) → x < i + 1 → get_or (set os i v) x 0 ≡ sum (take x ls)
offsets_more ls os i v h e g =
    below_more _ i (λ x q. get_or-set_other os i x v 0 (λ z. omega arith) ∙ g x q) (get_or-set_same os i v 0 h ∙ e)
