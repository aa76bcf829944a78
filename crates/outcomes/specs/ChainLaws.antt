-- What holds of all that a chain may give.
use Rattle.std.specs.Prelude.{Bool, true, false, cond, List, [], ◌∷◌, ◌≡◌, refl}
use Rattle.outcomes.specs.Chain.{chain}

module _ {A : Type 0} where
  -- P of all that a chain may give: beside each test, where it holds and none before it does, and of the last, where none holds
  abbrev pub Each : (A → Type 0) → List (Bool × A) → A → Type 0
  Each P [] last = P last
  Each P (t ∷ ts) last = (t.0 ≡ true → P t.1) × (t.0 ≡ false → Each P ts last)

  -- one test more
  first : (P : A → Type 0) (b : Bool) (x y : A) → (b ≡ true → P x) → (b ≡ false → P y) → P (cond b x y)
  first P true x y p q = p refl
  first P false x y p q = q refl

  -- so P of what it gives
  pub chain_each : (P : A → Type 0) (ts : List (Bool × A)) (last : A) → Each P ts last → P (chain ts last)
  chain_each P [] last h = h
  chain_each P (t ∷ ts) last h = first P t.0 t.1 (chain ts last) h.0 (λ e. chain_each P ts last (h.1 e))
