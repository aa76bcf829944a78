-- An end keeps a copy of one tree and joins each arrival to it: the copies of demand 3, folded over arrivals from the bare root.
use Rattle.std.specs.Prelude.{◌≡◌, ◌⊎◌, Bool, true, false, cond, ◌||◌, List, [], ◌∷◌, ◌++◌, ℕ}
use Rattle.std.proofs.Math.Option.{Option, none, some}
use Rattle.trees.specs.Nodes.{Node, leaf, type_of, label}
use Rattle.trees.specs.Places.{Place, Fact, tells}
use Rattle.trees.specs.Join.{Joint, ok, clash, join, Collision}

-- how an end answers an arrival: it passes over one that is "malformed or has another root", takes the joined tree as its copy,
-- "answers that a slip doesn't fit" ("means 11 or 15"), or has been shown a clash (14)
pub data Reply : Type 0 where
  passed : Reply
  took : Node → Reply
  misfit : Reply
  shown : Place → Reply

-- the reply is 11 or 15
abbrev pub is_misfit : Reply → Bool
is_misfit passed = false
is_misfit (took d) = false
is_misfit misfit = true
is_misfit (shown p) = false

-- the reply is 14
abbrev pub is_shown : Reply → Bool
is_shown passed = false
is_shown (took d) = false
is_shown misfit = false
is_shown (shown p) = true

-- the copy held after a reply: a refused call changes nothing
abbrev pub held : Node → Reply → Node
held c passed = c
held c (took d) = d
held c misfit = c
held c (shown p) = c

-- "Join: .. 14 .., 15, 11": a clash comes before a joined tree for which there is no room
abbrev pub settle : (Node → Bool) → Joint → Reply
settle roomy (ok d) = cond (roomy d) (took d) misfit
settle roomy (clash p) = shown p

-- "Two libraries start from the same root label with nothing disclosed": the bare root
abbrev pub bare : List ℕ → Node
bare l = leaf 0 l

-- a tree with the root label l
pub record Rooted (H : List ℕ → List ℕ) (l : List ℕ) (c : Node) : Type 0 where
  pub root : type_of c ≡ 0
  pub text : label H c ≡ l

-- An arrival is of any type A. `read` gives the tree of one that is well-formed and has the end's root label, and nothing for any other;
-- `fits` says whether a joined tree has room where that arrival came.
module _ (H : List ℕ → List ℕ) {A : Type 0} (read : A → Option Node) (fits : A → Node → Bool) where
  -- the reply, by what the arrival reads as
  abbrev pub reply_to : Node → A → Option Node → Reply
  reply_to c a none = passed
  reply_to c a (some t) = settle (fits a) (join H c t)

  -- the reply of an end that holds c to the arrival a
  abbrev pub reply : Node → A → Reply
  reply c a = reply_to c a (read a)

  -- the copy after it
  abbrev pub step : Node → A → Node
  step c a = held c (reply c a)

  -- the copy after the arrivals xs, from the copy c
  abbrev pub run : Node → List A → Node
  run c [] = c
  run c (a ∷ xs) = run (step c a) xs

  -- one of the replies on the way passes the test
  abbrev pub ever : (Reply → Bool) → Node → List A → Bool
  ever f c [] = false
  ever f c (a ∷ xs) = f (reply c a) || ever f (step c a) xs

-- the tree t is among the arrivals
abbrev pub Got : {A : Type 0} → (A → Option Node) → List A → Node → Type 0
Got read [] t = ⊥
Got read (a ∷ xs) t = (read a ≡ some t) ⊎ Got read xs t

-- a tree of G discloses x at p
abbrev pub Told : (List ℕ → List ℕ) → (Node → Type 0) → Place → Fact → Type 0
Told H G p x = (t : Node) × G t × (tells H t p ≡ some x)

-- c discloses "exactly what some slip with that root discloses at each place", of the trees of G
pub record Exactly (H : List ℕ → List ℕ) (G : Node → Type 0) (c : Node) : Type 0 where
  pub known : (p : Place) (x : Fact) → tells H c p ≡ some x → Told H G p x
  pub kept : (p : Place) (x : Fact) → Told H G p x → tells H c p ≡ some x

module _ (H : List ℕ → List ℕ) {A : Type 0} (read : A → Option Node) (fits : A → Node → Bool) (l : List ℕ) where
  -- the copy of an end with the root label l after the arrivals xs
  abbrev pub copy : List A → Node
  copy xs = run H read fits (bare l) xs

  -- whether it ever answered 14
  abbrev pub answered14 : List A → Bool
  answered14 xs = ever H read fits is_shown (bare l) xs

  -- whether it ever answered 11 or 15
  abbrev pub did_not_fit : List A → Bool
  did_not_fit xs = ever H read fits is_misfit (bare l) xs

  -- "each has been shown two different texts with one hash": behind some arrivals it answered 14 to the next, at a place where that one's
  -- tree and one that came earlier have them; the earlier one's text is what the copy then held there
  pub record WasShown (xs : List A) : Type 0 where
    pub before : List A
    pub arrival : A
    pub behind : List A
    pub split : xs ≡ before ++ (arrival ∷ behind)
    pub place : Place
    pub answered : reply H read fits (copy before) arrival ≡ shown place
    pub first : Node
    pub second : Node
    pub got_first : Got read before first
    pub got_second : read arrival ≡ some second
    pub held : tells H (copy before) place ≡ tells H first place
    pub collision : Collision H (tells H first place) (tells H second place)

  -- "both hold the same": neither answered 14, and the one tree held discloses exactly what the arrivals do
  pub record Agree (xs ys : List A) : Type 0 where
    pub quiet : answered14 xs ≡ false
    pub quiet_too : answered14 ys ≡ false
    pub equal : copy xs ≡ copy ys
    pub exactly : Exactly H (Got read xs) (copy xs)
