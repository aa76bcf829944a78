-- Plain lists.
use Rattle.std.specs.Prelude.{ℕ, zero, suc, ◌<◌, ◌≡◌, Bool, true, false, ◌&&◌, List, [], ◌∷◌, ◌++◌, eqb, length, get_or}

-- every element passes the test
abbrev pub all {ℓ} : {A : Type ℓ} → (A → Bool) → List A → Bool
all f [] = true
all f (x ∷ xs) = f x && all f xs

-- two lists of numbers are equal, as a test that computes
abbrev pub same : List ℕ → List ℕ → Bool
same [] [] = true
same [] (y ∷ ys) = false
same (x ∷ xs) [] = false
same (x ∷ xs) (y ∷ ys) = eqb x y && same xs ys

-- every number of the list is below n
abbrev pub Below : ℕ → List ℕ → Type 0
Below n l = (i : ℕ) → get_or l i 0 < n

-- the n numbers from a on
abbrev pub upto : ℕ → ℕ → List ℕ
upto a zero = []
upto a (suc n) = a ∷ upto (suc a) n

-- the lists end to end
abbrev pub concat {ℓ} : {A : Type ℓ} → List (List A) → List A
concat [] = []
concat (x ∷ xs) = x ++ concat xs

-- the last element first
abbrev pub backwards {ℓ} : {A : Type ℓ} → List A → List A
backwards [] = []
backwards (x ∷ xs) = backwards xs ++ (x ∷ [])

module _ {A : Type 0} (d : A) where
  -- the elements of a list from place b on begin with xs
  abbrev pub At : List A → ℕ → List A → Type 0
  At l b [] = Unit {0}
  At l b (x ∷ xs) = (b < length l) × (get_or l b d ≡ x) × At l (suc b) xs

  -- the numbers name, in order, places of l that hold xs
  abbrev pub Names : List A → List ℕ → List A → Type 0
  Names l [] [] = Unit {0}
  Names l [] (x ∷ xs) = ⊥
  Names l (c ∷ cs) [] = ⊥
  Names l (c ∷ cs) (x ∷ xs) = (c < length l) × (get_or l c d ≡ x) × Names l cs xs
