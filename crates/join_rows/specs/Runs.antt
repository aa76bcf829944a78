-- A run from its last child: the walk goes backwards.
use Rattle.std.specs.Prelude.{◌≡◌, refl, List, [], ◌∷◌, ◌++◌, ℕ, zero, suc, ◌+◌, ◌<◌}
use Rattle.std.proofs.Common.{sym, ap, ◌∙◌, append_assoc, append-nil, zero-add, arith}
use Rattle.trees.specs.Nodes.{Node, Run, nil, cons, type_of, count, size, sizes, Head, label, heads}
use Rattle.trees.specs.Places.{Place}
use Rattle.trees.specs.Join.{Joint, ok, clash, JointRun, ok_run, clash_at, both, join, join_run}
use Rattle.trees.specs.Rows.{number, number_in}
use Rattle.join_rows.specs.Faces.{Face, faces, faces_in}

-- a run with one child more at its end
abbrev pub snoc : Run → Node → Run
snoc nil n = cons n nil
snoc (cons m r) n = cons m (snoc r n)

-- a run is one with a last child
pub record Ended (r : Run) : Type 0 where
  pub front : Run
  pub last : Node
  pub is : r ≡ snoc front last

pub ended : (n : Node) (r : Run) → Ended (cons n r)
ended n nil = record { front = nil; last = n; is = refl }
ended n (cons m r) = let x = ended m r in record { front = cons n x.front; last = x.last; is = ap (cons n) x.is }

pub count_snoc : (r : Run) (n : Node) → count (snoc r n) ≡ suc (count r)
count_snoc nil n = refl
count_snoc (cons m r) n = ap suc (count_snoc r n)

pub sizes_snoc : (r : Run) (n : Node) → sizes (snoc r n) ≡ sizes r + size n
sizes_snoc nil n = omega arith
sizes_snoc (cons m r) n = let h = sizes_snoc r n in omega arith

-- the entry number below the last child, and below one before it
pub number_last : (r : Run) (n : Node) (p : Place) → number_in (snoc r n) (count r) p ≡ sizes r + number n p
number_last nil n p = sym (zero-add (number n p))
number_last (cons m r) n p = let h = number_last r n p in omega arith

pub number_front : (r : Run) (n : Node) (i : ℕ) (p : Place) → i < count r → number_in (snoc r n) i p ≡ number_in r i p
number_front nil n i p h = absurd (omega arith)
number_front (cons m r) n zero p h = refl
number_front (cons m r) n (suc i) p h = let e = number_front r n i p (omega arith) in omega arith

-- the join of two runs from that of their last children: a clash before it comes first
abbrev pub both_last : ℕ → JointRun → Joint → JointRun
both_last k (clash_at i p) j = clash_at i p
both_last k (ok_run t) (clash p) = clash_at k p
both_last k (ok_run t) (ok c) = ok_run (snoc t c)

both_last_lem : (k : ℕ) (g : Joint) (j : JointRun) (l : Joint) → both g (both_last k j l) ≡ both_last (suc k) (both g j) l
both_last_lem k (ok d) (ok_run t) (ok c) = refl
both_last_lem k (ok d) (ok_run t) (clash p) = refl
both_last_lem k (ok d) (clash_at i p) l = refl
both_last_lem k (clash q) j l = refl

last_alone : (j : Joint) → both j (ok_run nil) ≡ both_last 0 (ok_run nil) j
last_alone (ok c) = refl
last_alone (clash p) = refl

-- a clash that a run's join gives is below one of its children
abbrev pub Within : ℕ → JointRun → Type 0
Within k (ok_run t) = Unit {0}
Within k (clash_at i p) = i < k

within_both : (k : ℕ) (g : Joint) (j : JointRun) → Within k j → Within (suc k) (both g j)
within_both k (ok d) (ok_run t) h = tt
within_both k (ok d) (clash_at i p) h = omega arith
within_both k (clash q) j h = omega arith

module _ (H : List ℕ → List ℕ) where
  pub heads_snoc : (r : Run) (n : Node) → heads H (snoc r n) ≡ heads H r ++ (record { kind = type_of n; text = label H n } ∷ [])
  heads_snoc nil n = refl
  heads_snoc (cons m r) n = ap (λ (x : List Head). record { kind = type_of m; text = label H m } ∷ x) (heads_snoc r n)

  pub faces_snoc : (r : Run) (n : Node) → faces_in H (snoc r n) ≡ faces_in H r ++ faces H n
  faces_snoc nil n = append-nil (faces H n)
  faces_snoc (cons m r) n =
      ap (λ (x : List Face). faces H m ++ x) (faces_snoc r n) ∙ sym (append_assoc (faces H m) (faces_in H r) (faces H n))

  pub join_snoc : (r s : Run) (n m : Node) → count r ≡ count s
      → join_run H (snoc r n) (snoc s m) ≡ both_last (count r) (join_run H r s) (join H n m)
  join_snoc nil nil n m e = last_alone (join H n m)
  join_snoc nil (cons b s) n m e = absurd (omega arith)
  join_snoc (cons a r) nil n m e = absurd (omega arith)
  join_snoc (cons a r) (cons b s) n m e =
      ap (both (join H a b)) (join_snoc r s n m (omega arith)) ∙ both_last_lem (count r) (join H a b) (join_run H r s) (join H n m)

  pub join_within : (r s : Run) → Within (count r) (join_run H r s)
  join_within nil s = tt
  join_within (cons a r) nil = tt
  join_within (cons a r) (cons b s) = within_both (count r) (join H a b) (join_run H r s) (join_within r s)
