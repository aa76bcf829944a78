-- A library that keeps a slip and joins each arrival to it: demand 3 over bytes.
use Rattle.std.specs.Prelude.{ℕ, Bool, false, cond, ◌||◌, List, [], ◌∷◌, ◌++◌, ◌⊎◌, ◌≡◌, eqb, take}
use Rattle.std.proofs.Math.Option.{some}
use Rattle.lists.specs.Lists.{Below}
use Rattle.trees.specs.Places.{Place, Fact, tells}
use Rattle.trees.specs.Join.{Collision}
use Rattle.trees.specs.Ends.{bare}
use Rattle.trees.specs.Rows.{rows, number}
use Rattle.outcomes.specs.Refusals.{accepted, no_room, join_too_large, clashing}
use Rattle.codec.specs.Writing.{slip_of}
use Rattle.slips.specs.Check.{check_of}
use Rattle.outcomes.specs.Outcome.{Output}
use Rattle.answers.specs.declared.Answer.{Answer}
use Rattle.slips.specs.SlipTree.{slip_tree}
use Rattle.answers.specs.Answers.{clashed}
use Rattle.join.specs.Join.{join_of}

-- what arrives: any bytes, and the buffer lent for the join
pub record Arrival : Type 0 where
  pub slip : List ℕ
  pub buffer : List ℕ
  pub bytes : Below 256 slip

-- "Two libraries start from the same root label with nothing disclosed": the slip of the bare root
abbrev pub start : List ℕ → List ℕ
start l = slip_of (rows (bare l))

-- one of the arrivals has the bytes s
abbrev pub Reached : List Arrival → List ℕ → Type 0
Reached [] s = ⊥
Reached (a ∷ xs) s = (a.slip ≡ s) ⊎ Reached xs s

-- "that a slip doesn't fit": 11 or 15
abbrev pub misfits : ℕ → Bool
misfits k = eqb k no_room || eqb k join_too_large

-- 14
abbrev pub clashes : ℕ → Bool
clashes k = eqb k clashing

-- what is held after a join's outcome, where c was: the bytes written if it is accepted, else the same
abbrev pub keeps : Output Answer → List ℕ → List ℕ
keeps p c = cond (eqb p.answer.number accepted) (take p.answer.length p.left) c

module _ (H : List ℕ → List ℕ) (composed : List ℕ → Bool) where
  -- the join's outcome, where c is held
  abbrev pub outcome : List ℕ → Arrival → Output Answer
  outcome c a = join_of H composed c a.slip a.buffer

  -- what is held then
  abbrev pub after : List ℕ → Arrival → List ℕ
  after c a = keeps (outcome c a) c

  -- what is held after all arrivals
  abbrev pub kept : List ℕ → List Arrival → List ℕ
  kept c [] = c
  kept c (a ∷ xs) = kept (after c a) xs

  -- one of the answers on the way has a number that passes the test
  abbrev pub ever : (ℕ → Bool) → List ℕ → List Arrival → Bool
  ever f c [] = false
  ever f c (a ∷ xs) = f (outcome c a).answer.number || ever f (after c a) xs

  module _ (l : List ℕ) where
    -- an accepted slip with the root label l
    pub record Ours (s : List ℕ) : Type 0 where
      pub good : (check_of H composed s).number ≡ accepted
      pub root : (check_of H composed s).label ≡ l

    -- the copy of a library that started from the bare root
    abbrev pub copy : List Arrival → List ℕ
    copy xs = kept (start l) xs

    -- some arrival with that root discloses x at the place p
    pub record Tells (xs : List Arrival) (p : Place) (x : Fact) : Type 0 where
      pub slip : List ℕ
      pub reached : Reached xs slip
      pub ours : Ours slip
      pub here : tells H (slip_tree slip) p ≡ some x

    -- "each has been shown two different texts with one hash": behind some arrivals it answered 14 to the next; "the two entry numbers" are
    -- those of one place in the copy held then and in that arrival; the copy's text there is an earlier arrival's, and the two texts collide
    pub record Shown (xs : List Arrival) : Type 0 where
      pub before : List Arrival
      pub arrival : Arrival
      pub behind : List Arrival
      pub split : xs ≡ before ++ (arrival ∷ behind)
      pub place : Place
      pub answered :
          (outcome (copy before) arrival).answer
          ≡ clashed (number (slip_tree (copy before)) place) (number (slip_tree arrival.slip) place)
      pub earlier : List ℕ
      pub reached : Reached before earlier
      pub ours_earlier : Ours earlier
      pub ours : Ours arrival.slip
      pub held : tells H (slip_tree (copy before)) place ≡ tells H (slip_tree earlier) place
      pub collision : Collision H (tells H (slip_tree earlier) place) (tells H (slip_tree arrival.slip) place)

    -- "both hold the same bytes, disclosing exactly what some slip with that root discloses at each place"
    pub record Same (xs ys : List Arrival) : Type 0 where
      pub equal : copy xs ≡ copy ys
      pub good : Ours (copy xs)
      pub known : (p : Place) (x : Fact) → tells H (slip_tree (copy xs)) p ≡ some x → Tells xs p x
      pub told : (p : Place) (x : Fact) → Tells xs p x → tells H (slip_tree (copy xs)) p ≡ some x
