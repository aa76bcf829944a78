-- Laws of plain lists.
use Rattle.std.specs.Prelude.{ℕ, zero, suc, ◌+◌, ◌<◌, ◌≡◌, refl, ◌≢◌, Bool, true, false, ◌&&◌, List, [], ◌∷◌, ◌++◌, eqb, length, take, drop, get_or, replicate}
use Rattle.std.proofs.Common.{sym, ap, ◌∙◌, subst, true≢false, append_assoc, suc-add, add-suc, add-zero, arith, length-append, eqb-true, eq-eqb}
use Rattle.std.proofs.lemmas.Bool.{false≢true}
use lib.Pointwise.{pointwise}
use Rattle.std.proofs.Math.Option.{none, some}
use Rattle.std.proofs.lemmas.List.{get_or_at}
use Rattle.lists.specs.TestsLaws.{and_left, and_right, and_both}
use Rattle.lists.specs.Lists.{all, same, Below, upto, backwards, At, Names}

-- the parts of equal lists and of equal options, and what is never equal
pub cons_head {ℓ} : {A : Type ℓ} {x y : A} {xs ys : List A} → x ∷ xs ≡ y ∷ ys → x ≡ y
cons_head e = cc

pub cons_tail {ℓ} : {A : Type ℓ} {x y : A} {xs ys : List A} → x ∷ xs ≡ y ∷ ys → xs ≡ ys
cons_tail e = cc

pub nil_cons {ℓ} : {A : Type ℓ} {x : A} {xs : List A} → [] ≡ x ∷ xs → ⊥
nil_cons e = let z : ◌≡◌ {A = ℕ} 0 1 = cc in omega arith

pub some_inj {ℓ} : {A : Type ℓ} {x y : A} → some x ≡ some y → x ≡ y
some_inj e = cc

pub none_some {ℓ} : {A : Type ℓ} {x : A} → none ≡ some x → ⊥
none_some e = let z : ◌≡◌ {A = ℕ} 0 1 = cc in omega arith

-- where two lists are equal and begin with parts of one length, these parts are equal, and so is what follows them
pub append_cancel {ℓ} : {A : Type ℓ} (a b c d : List A) → length a ≡ length b → a ++ c ≡ b ++ d → (a ≡ b) × (c ≡ d)
append_cancel [] [] c d l e = (refl, e)
append_cancel [] (y ∷ b) c d l e = absurd (omega arith)
append_cancel (x ∷ a) [] c d l e = absurd (omega arith)
append_cancel (x ∷ a) (y ∷ b) c d l e =
    let r : (a ≡ b) × (c ≡ d) = append_cancel a b c d (omega arith) (cons_tail e) in
    (λ i. cons_head e i ∷ r.0 i, r.1)

-- it passes at every element of two lists, so of both end to end
pub all_append {ℓ} : {A : Type ℓ} (f : A → Bool) (x y : List A) → all f x ≡ true → all f y ≡ true → all f (x ++ y) ≡ true
all_append f [] y e g = g
all_append f (a ∷ x) y e g =
    and_both (f a) (all f (x ++ y)) (and_left (f a) (all f x) e) (all_append f x y (and_right (f a) (all f x) e) g)

-- and at every index
pub all_at {ℓ} : {A : Type ℓ} (f : A → Bool) (l : List A) (k : ℕ) (d : A) → all f l ≡ true → k < length l → f (get_or l k d) ≡ true
all_at f [] k d e h = absurd (omega arith)
all_at f (x ∷ l) zero d e h = and_left (f x) (all f l) e
all_at f (x ∷ l) (suc k) d e h = all_at f l k d (and_right (f x) (all f l) e) (omega arith)

-- a test that every element passes is passed by every element of a part
module _ {A : Type 0} (f : A → Bool) where
  pub all_take : (k : ℕ) (l : List A) → all f l ≡ true → all f (take k l) ≡ true
  all_take zero l e = refl
  all_take (suc k) [] e = refl
  all_take (suc k) (x ∷ l) e = and_both (f x) (all f (take k l)) (and_left (f x) (all f l) e) (all_take k l (and_right (f x) (all f l) e))

  pub all_drop : (k : ℕ) (l : List A) → all f l ≡ true → all f (drop k l) ≡ true
  all_drop zero l e = e
  all_drop (suc k) [] e = refl
  all_drop (suc k) (x ∷ l) e = all_drop k l (and_right (f x) (all f l) e)

-- the test passes at equal lists and no others, in either order
pub same_true : (x y : List ℕ) → same x y ≡ true → x ≡ y
same_true [] [] e = refl
same_true [] (b ∷ y) e = absurd (false≢true e)
same_true (a ∷ x) [] e = absurd (false≢true e)
same_true (a ∷ x) (b ∷ y) e =
    let h : a ≡ b = eqb-true a b (and_left (eqb a b) (same x y) e) in
    let t : x ≡ y = same_true x y (and_right (eqb a b) (same x y) e) in
    cc

pub same_refl : (x : List ℕ) → same x x ≡ true
same_refl [] = refl
same_refl (a ∷ x) = and_both (eqb a a) (same x x) (eq-eqb a a refl) (same_refl x)

-- the library's comparison of two texts is the same
pub same_is : (x y : List ℕ) → pointwise eqb x y ≡ same x y
same_is [] [] = refl
same_is [] (y ∷ ys) = refl
same_is (x ∷ xs) [] = refl
same_is (x ∷ xs) (y ∷ ys) = ap (λ (b : Bool). eqb x y && b) (same_is xs ys)

-- a test that holds just where two lists are equal
pub same_by : (r : Bool) (x y : List ℕ) → (r ≡ true → x ≡ y) → (x ≡ y → r ≡ true) → r ≡ same x y
same_by true x y f g = sym (subst (λ (z : List ℕ). same x z ≡ true) (f refl) (same_refl x))
same_by false x y f g = go (same x y) refl
  where
    go : (b : Bool) → same x y ≡ b → false ≡ b
    go true e = absurd (false≢true (g (same_true x y e)))
    go false e = refl

pub same_false : (x y : List ℕ) → same x y ≡ false → x ≢ y
same_false x y e q = true≢false (sym (same_refl x) ∙ ap (same x) q ∙ e)

pub same_comm : (x y : List ℕ) → same x y ≡ same y x
same_comm x y = go (same x y) refl (same y x) refl
  where
    go : (a : Bool) → same x y ≡ a → (b : Bool) → same y x ≡ b → a ≡ b
    go true e true f = refl
    go true e false f = absurd (same_false y x f (sym (same_true x y e)))
    go false e true f = absurd (same_false x y e (sym (same_true y x f)))
    go false e false f = refl

-- numbers below a bound: with one more at the head, of two lists end to end, of a part, of copies
pub below_cons : (n : ℕ) {x : ℕ} (l : List ℕ) → x < n → Below n l → Below n (x ∷ l)
below_cons n l h g zero = h
below_cons n l h g (suc i) = g i

pub below_append : (n : ℕ) (a b : List ℕ) → Below n a → Below n b → Below n (a ++ b)
below_append n [] b h g = g
below_append n (x ∷ a) b h g = below_cons n (a ++ b) (h 0) (below_append n a b (λ i. h (suc i)) g)

pub below_take : (n k : ℕ) (l : List ℕ) → Below n l → Below n (take k l)
below_take n zero l h = λ i. omega (arith, h 0)
below_take n (suc k) [] h = h
below_take n (suc k) (x ∷ l) h = below_cons n (take k l) (h 0) (below_take n k l (λ i. h (suc i)))

pub below_drop : (n k : ℕ) (l : List ℕ) → Below n l → Below n (drop k l)
below_drop n zero l h = h
below_drop n (suc k) [] h = h
below_drop n (suc k) (x ∷ l) h = below_drop n k l (λ i. h (suc i))

pub below_replicate : (n k : ℕ) {x : ℕ} → x < n → Below n (replicate k x)
below_replicate n zero h = λ i. omega arith
below_replicate n (suc k) {x} h = below_cons n (replicate k x) h (below_replicate n k h)

pub length_backwards {ℓ} : {A : Type ℓ} (x : List A) → length (backwards x) ≡ length x
length_backwards [] = refl
length_backwards (a ∷ x) = length-append (backwards x) (a ∷ []) ∙ (let h = length_backwards x in omega arith)

-- a list is known by its mirror image
pub backwards_inj {ℓ} : {A : Type ℓ} (x y : List A) → backwards x ≡ backwards y → x ≡ y
backwards_inj {A = A} x y e = go x y (sym (length_backwards x) ∙ ap length e ∙ length_backwards y) e
  where
    go : (x y : List A) → length x ≡ length y → backwards x ≡ backwards y → x ≡ y
    go [] [] l e = refl
    go [] (b ∷ y) l e = absurd (omega arith)
    go (a ∷ x) [] l e = absurd (omega arith)
    go (a ∷ x) (b ∷ y) l e =
        let k : length (backwards x) ≡ length (backwards y) = omega (arith, length_backwards x, length_backwards y) in
        let p : (backwards x ≡ backwards y) × (a ∷ [] ≡ b ∷ []) = append_cancel (backwards x) (backwards y) (a ∷ []) (b ∷ []) k e in
        let t : x ≡ y = go x y (omega arith) p.0 in
        let h : a ≡ b = cons_head p.1 in
        cc

-- elements in place, and elements that numbers name
module _ {A : Type 0} (d : A) where
  pub at_front : (l : List A) (b : ℕ) (x y : List A) → At d l b (x ++ y) → At d l b x
  at_front l b [] y h = tt
  at_front l b (a ∷ x) y h = (h.0, h.1, at_front l (suc b) x y h.2)

  pub at_back : (l : List A) (b : ℕ) (x y : List A) → At d l b (x ++ y) → At d l (b + length x) y
  at_back l b [] y h = rw (add-zero b) h
  at_back l b (a ∷ x) y h = rw (add-suc b (length x), ← suc-add b (length x)) (at_back l (suc b) x y h.2)

  -- a part of a list stands where what is before it ends
  pub at_part : (p x q : List A) → At d (p ++ (x ++ q)) (length p) x
  at_part p [] q = tt
  at_part p (a ∷ x) q = (
    omega (arith, length-append p (a ∷ (x ++ q))),
    get_or_at p a (x ++ q) d (length p) refl,
    subst (λ (l : List A). At d l (suc (length p)) x) (append_assoc p (a ∷ []) (x ++ q))
        (subst (λ (n : ℕ). At d ((p ++ (a ∷ [])) ++ (x ++ q)) n x) (length-append p (a ∷ []) ∙ omega arith) (at_part (p ++ (a ∷ [])) x q)),
  )

  -- what stands in place is named by the numbers from there on
  pub at_names : (l : List A) (b : ℕ) (x : List A) → At d l b x → Names d l (upto b (length x)) x
  at_names l b [] h = tt
  at_names l b (a ∷ x) h = (h.0, h.1, at_names l (suc b) x h.2)

  pub names_append : (l : List A) (c e : List ℕ) (x y : List A) → Names d l c x → Names d l e y → Names d l (c ++ e) (x ++ y)
  names_append l [] e [] y h k = k
  names_append l [] e (a ∷ x) y h k = absurd h
  names_append l (i ∷ c) e [] y h k = absurd h
  names_append l (i ∷ c) e (a ∷ x) y h k = (h.0, h.1, names_append l c e x y h.2 k)

  pub names_length : (l : List A) (c : List ℕ) (x : List A) → Names d l c x → length c ≡ length x
  names_length l [] [] h = refl
  names_length l [] (a ∷ x) h = absurd h
  names_length l (i ∷ c) [] h = absurd h
  names_length l (i ∷ c) (a ∷ x) h = ap suc (names_length l c x h.2)
