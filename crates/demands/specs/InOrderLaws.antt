-- How an answer is shown to be in order: by its chain of tests, and one list of refusals behind another.
use Rattle.std.specs.Prelude.{ℕ, Bool, true, false, List, [], ◌∷◌, ◌++◌, ◌⊎◌, ◌≡◌}
use Rattle.std.proofs.Common.{inl, inr}
use Rattle.outcomes.specs.ChainLaws.{chain_each}
use Rattle.outcomes.specs.Chain.{chain}
use Rattle.lists.specs.TestsLaws.{and_left, and_right}
use Rattle.lists.specs.Lists.{all}
use Rattle.demands.specs.InOrder.{Case, Free, Gives, InOrder}

-- a refusal at place i that is not given
pub free : {i : ℕ} {P : Type 0} → (P → ⊥) → (p q : ℕ) → (p ≡ i) × (q ≡ 0) × P → ⊥
free n p q g = n g.2

module _ {A : Type 0} (says : Case → ℕ → ℕ → A) where
  -- Each test of a chain stands for one refusal: where it holds the refusal is given, else it is free; Q where none holds.
  module _ {X : Type 0} (f : X → A) (Q : X → Type 0) where
    abbrev pub Linked : List (Bool × X) → X → List Case → Type 0
    Linked [] last [] = Q last
    Linked [] last (c ∷ cs) = ⊥
    Linked (t ∷ ts) last [] = ⊥
    Linked (t ∷ ts) last (c ∷ cs) = (t.0 ≡ true → Gives says c (f t.1)) × (t.0 ≡ false → Free c × Linked ts last cs)

    pub linked : (ts : List (Bool × X)) (last : X) (cs : List Case) → Linked ts last cs → InOrder says cs (Q (chain ts last)) (f (chain ts last))
    linked [] last [] h = h
    linked [] last (c ∷ cs) h = absurd h
    linked (t ∷ ts) last [] h = absurd h
    linked (t ∷ ts) last (c ∷ cs) h =
        chain_each (λ x. InOrder says (c ∷ cs) (Q x) (f x)) (t ∷ []) (chain ts last) (
          λ e. inl (h.0 e),
          λ e. inr ((h.1 e).0, linked ts last cs (h.1 e).1),
        )

  -- what is in order by one list, and where none of it is given by another, is in order by both
  pub onto : (Q R : Type 0) (a : A) (cs ds : List Case) → (Q → InOrder says ds R a) → InOrder says cs Q a → InOrder says (cs ++ ds) R a
  onto Q R a [] ds k x = k x
  onto Q R a (c ∷ cs) ds k (inl g) = inl g
  onto Q R a (c ∷ cs) ds k (inr x) = inr (x.0, onto Q R a cs ds k x.1)

  -- the answer's number is one of the list's
  pub one_of : (Q : Type 0) (a : A) (ok : ℕ → Bool) (cs : List Case) → all (λ (c : Case). ok c.number) cs ≡ true → InOrder says cs Q a
      → Q ⊎ ((c : Case) × (i : ℕ) × (j : ℕ) × (ok c.number ≡ true) × (a ≡ says c i j))
  one_of Q a ok [] r x = inl x
  one_of Q a ok (c ∷ cs) r (inl g) = inr (c, g.0, g.1, and_left (ok c.number) (all (λ (d : Case). ok d.number) cs) r, g.3)
  one_of Q a ok (c ∷ cs) r (inr x) = one_of Q a ok cs (and_right (ok c.number) (all (λ (d : Case). ok d.number) cs) r) x.1

  -- where the answer a is none of the list's, none of the list is given
  pub past : (Q R : Type 0) (a b : A) (ok : ℕ → Bool) (cs ds : List Case) → all (λ (c : Case). ok c.number) cs ≡ true
      → ((c : Case) (i j : ℕ) → ok c.number ≡ true → a ≡ says c i j → ⊥)
      → InOrder says cs Q a → InOrder says ds R b → InOrder says (cs ++ ds) R b
  past Q R a b ok [] ds r h x y = y
  past Q R a b ok (c ∷ cs) ds r h (inl g) y = absurd (h c g.0 g.1 (and_left (ok c.number) (all (λ (d : Case). ok d.number) cs) r) g.3)
  past Q R a b ok (c ∷ cs) ds r h (inr x) y =
      inr (x.0, past Q R a b ok cs ds (and_right (ok c.number) (all (λ (d : Case). ok d.number) cs) r) h x.1 y)
