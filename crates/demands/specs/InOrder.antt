-- A call's refusals as a list in document 01's order. Each says when it is given, and where.
use Rattle.std.specs.Prelude.{ℕ, Bool, false, ◌||◌, List, [], ◌∷◌, ◌⊎◌, ◌≡◌, eqb}

-- A refusal: its number, the side it is told of, and when it is given at a place with a second number.
pub record Case : Type 1 where
  pub number : ℕ
  pub side : ℕ
  pub given : ℕ → ℕ → Type 0

-- given at place i where P holds: "elsewhere the second number is 0", "side is 0 otherwise"
abbrev pub at : ℕ → ℕ → Type 0 → Case
at k i P = record { number = k; side = 0; given = λ p q. (p ≡ i) × (q ≡ 0) × P }

-- the place is "otherwise 0"
abbrev pub plain : ℕ → Type 0 → Case
plain k P = at k 0 P

-- "first slip (side 1), second slip (side 2)"
abbrev pub on : ℕ → Case → Case
on side c = record { number = c.number; side = side; given = c.given }

-- it is given at no place
abbrev pub Free : Case → Type 0
Free c = (i j : ℕ) → c.given i j → ⊥

-- k is one of the numbers
abbrev pub among : List ℕ → ℕ → Bool
among [] k = false
among (x ∷ xs) k = eqb x k || among xs k

module _ {A : Type 0} (says : Case → ℕ → ℕ → A) where
  -- it is given, and the answer a says so
  abbrev pub Gives : Case → A → Type 0
  Gives c a = (i : ℕ) × (j : ℕ) × c.given i j × (a ≡ says c i j)

  -- "Order.": a is the answer of the first refusal in the list that is given; where none is given, Q
  abbrev pub InOrder : List Case → Type 0 → A → Type 0
  InOrder [] Q a = Q
  InOrder (c ∷ cs) Q a = Gives c a ⊎ (Free c × InOrder cs Q a)
