-- Laws of parts of a list, of a list filled from its start, and of a copy into a list.
use Rattle.std.specs.Prelude.{ℕ, zero, suc, ◌+◌, ◌-◌, ◌≤◌, ◌<◌, ◌≡◌, refl, List, [], ◌∷◌, ◌++◌, map, length, take, drop, get_or, set, replicate}
use Rattle.std.proofs.Common.{sym, ap, ap₂, ◌∙◌, append-nil, append_assoc, zero-add, suc-add, add-sub_of_le, add-one, arith, length-set, length-drop, drop_of_length-le, drop-cons, take-suc-set, take-take, take_all, drop-drop}
use Rattle.std.proofs.Math.Seq.{take-nil, take-length, paste}
use Rattle.std.proofs.lemmas.List.{take-append-le, drop-append-le}

-- a list that is filled from its start, one element more
pub one_more {ℓ} : {A : Type ℓ} (l : List A) (i : ℕ) (x : A) → i < length l → take (i + 1) (set l i x) ≡ take i l ++ (x ∷ [])
one_more l i x h = rw (add-one, take-suc-set l i x h)

-- the same, where its first elements are known
pub filled {ℓ} :
    {A : Type ℓ} (w : List A) (i next : ℕ) (x : A) {l : List A}
    → i < length w
    → next ≡ suc i
    → take i w ≡ l
    → take next (set w i x) ≡ l ++ (x ∷ [])
filled w i next x h e p = rw (e, take-suc-set w i x h, p)

-- what is left of a list, at a number that has an element
pub next_cons {ℓ} : {A : Type ℓ} (l : List A) (i : ℕ) (d : A) → i < length l → drop i l ≡ get_or l i d ∷ drop (i + 1) l
next_cons l i d h = rw add-one (drop-cons l i d h)

-- the part behind the first n, of a front part
pub drop_take {ℓ} : {A : Type ℓ} (n m : ℕ) (l : List A) → drop n (take (n + m) l) ≡ take m (drop n l)
drop_take zero m l = ap (λ (n : ℕ). take n l) (zero-add m)
drop_take (suc n) m [] = rw (suc-add, take-nil)
drop_take (suc n) m (x ∷ l) = rw suc-add (drop_take n m l)

-- the part `[b..d]` of a list whose first d elements are l
pub part {ℓ} : {A : Type ℓ} (w : List A) (b d : ℕ) {l : List A} → b ≤ d → take d w ≡ l → take (d - b) (drop b w) ≡ drop b l
part w b d h e = sym (drop_take b (d - b) w) ∙ ap (λ (n : ℕ). drop b (take n w)) (add-sub_of_le h) ∙ ap (drop b) e

-- its first b elements
pub front {ℓ} : {A : Type ℓ} (w : List A) (b d : ℕ) {l : List A} → b ≤ d → take d w ≡ l → take b w ≡ take b l
front w b d h e = sym (take-take b d w h) ∙ ap (take b) e

-- two lists that agree up to n + m agree in the m elements behind the first n
pub same_part {ℓ} : {A : Type ℓ} (n m : ℕ) (x y : List A) → take (n + m) x ≡ take (n + m) y → take m (drop n x) ≡ take m (drop n y)
same_part n m x y e = sym (drop_take n m x) ∙ ap (drop n) e ∙ drop_take n m y

-- they agree up to n
pub same_front {ℓ} : {A : Type ℓ} (n m : ℕ) (x y : List A) → take (n + m) x ≡ take (n + m) y → take n x ≡ take n y
same_front n m x y e =
    let le : n ≤ n + m = omega arith in
    sym (take-take n (n + m) x le) ∙ ap (take n) e ∙ take-take n (n + m) y le

-- `&l[n..]`
pub tail_part {ℓ} : {A : Type ℓ} (l : List A) (n : ℕ) → take (length l - n) (drop n l) ≡ drop n l
tail_part l n = take_all (length l - n) (drop n l) (omega (arith, length-drop n l))

-- A part of x, from `at` to its end, whose first elements were overwritten: what a copy into `&mut x[at..]` leaves.
pub put_is :
    (x part last : List ℕ) (at k : ℕ)
    → at + k ≡ length x
    → last ≡ take (length part) part ++ drop (length part) (take k (drop at x))
    → take at x ++ (last ++ drop k (drop at x)) ≡ paste x at part (length part)
put_is x part last at k e p =
    let all : length (drop at x) ≤ k = omega (arith, length-drop at x) in
    rw (p, take_all k (drop at x) all, drop_of_length-le (drop at x) all, drop-drop (length part) at x, append-nil, append_assoc)

-- what follows a list has no part in what lies within it
pub part_within {ℓ} : {A : Type ℓ} (n o : ℕ) (l z : List A) → o + n ≤ length l → take n (drop o (l ++ z)) ≡ take n (drop o l)
part_within n o l z h =
    ap (take n) (drop-append-le o l z (omega arith)) ∙ take-append-le n (drop o l) z (simp length-drop (omega arith))

pub take_replicate {ℓ} : {A : Type ℓ} (k n : ℕ) (x : A) → k ≤ n → take k (replicate n x) ≡ replicate k x
take_replicate zero n x h = refl
take_replicate (suc k) zero x h = absurd (omega arith)
take_replicate (suc k) (suc n) x h = ap (λ (l : List _). x ∷ l) (take_replicate k n x (omega arith))

-- a list copied over one of its length
pub copied {ℓ} : {A : Type ℓ} (src dst part : List A) → length dst ≡ length src → part ≡ take (length src) src ++ drop (length src) dst → part ≡ src
copied src dst part same e =
    e
    ∙ ap₂ (λ (a b : List _). a ++ b) (take-length src) (drop_of_length-le dst {i = length src} (omega arith))
    ∙ append-nil src

-- a part of a mapped list is the part, mapped
module _ {A B : Type 0} (f : A → B) where
  pub map_take : (k : ℕ) (l : List A) → take k (map f l) ≡ map f (take k l)
  map_take zero l = refl
  map_take (suc k) [] = refl
  map_take (suc k) (y ∷ l) = ap (λ (r : List B). f y ∷ r) (map_take k l)

  pub map_drop : (k : ℕ) (l : List A) → drop k (map f l) ≡ map f (drop k l)
  map_drop zero l = refl
  map_drop (suc k) [] = refl
  map_drop (suc k) (y ∷ l) = map_drop k l

-- two stores after the first n
pub take_stores :
    (s : List ℕ) (n a b : ℕ)
    → n + 1 < length s
    → take (n + 2) (set (set s n a) (n + 1) b) ≡ take n s ++ (a ∷ b ∷ [])
take_stores s n a b h =
    let within : n + 1 < length (set s n a) = rw length-set h in
    let two : n + 2 ≡ (n + 1) + 1 = omega arith in
    ap (λ (k : ℕ). take k (set (set s n a) (n + 1) b)) two
    ∙ one_more (set s n a) (n + 1) b within
    ∙ ap (λ (l : List ℕ). l ++ (b ∷ [])) (one_more s n a (omega arith))
    ∙ append_assoc (take n s) (a ∷ []) (b ∷ [])
