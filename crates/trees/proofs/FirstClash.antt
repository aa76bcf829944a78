-- The clash that a join gives is the first in pre-order; where it gives a tree there is none.
use Rattle.std.specs.Prelude.{◌≡◌, refl, Bool, true, false, cond, List, [], ◌∷◌, ℕ, zero, suc}
use Rattle.std.proofs.Common.{sym, ap, ◌∙◌, subst, inl, inr, arith}
use Rattle.lists.specs.Lists.{same}
use Rattle.lists.specs.ListsLaws.{same_true}
use Rattle.trees.specs.Nodes.{Node, Run, inner, leaf, nil, cons, prelabel, heads}
use Rattle.trees.specs.Places.{Place}
use Rattle.trees.specs.PlacesLaws.{leaf_shut, opened_inj, opened_at, at_opened}
use Rattle.trees.specs.Join.{Joint, ok, clash, JointRun, ok_run, clash_at, wrap, both, join, join_run, Alike, Clash, ClashIn, Before, NotAfter, FirstClash}
use Rattle.trees.proofs.JoinLaws.{join_clash}

under_first : (p q : Place) → NotAfter p q → NotAfter (0 ∷ p) (0 ∷ q)
under_first p q (inl e) = inl (ap (λ (x : Place). 0 ∷ x) e)
under_first p q (inr b) = inr (inr (refl, b))

one_later : (i j : ℕ) (p q : Place) → NotAfter (i ∷ p) (j ∷ q) → NotAfter (suc i ∷ p) (suc j ∷ q)
one_later i j p q (inl e) = inl (cc)
one_later i j p q (inr (inl l)) = inr (inl (omega arith))
one_later i j p q (inr (inr b)) = inr (inr (ap suc b.0, b.1))

-- how a join may answer where there is a clash at q: with no tree, and no clash after q
abbrev pub Answers : Joint → Place → Type 0
Answers (ok c) q = ⊥
Answers (clash p) q = NotAfter p q

-- the same of two runs
abbrev pub AnswersIn : JointRun → ℕ → Place → Type 0
AnswersIn (ok_run t) j q = ⊥
AnswersIn (clash_at i p) j q = NotAfter (i ∷ p) (j ∷ q)

wrap_first : (k : JointRun) (j : ℕ) (q : Place) → AnswersIn k j q → Answers (wrap k) (j ∷ q)
wrap_first (ok_run t) j q h = h
wrap_first (clash_at i p) j q h = h

-- a clash in the first child
both_head : (j : Joint) (k : JointRun) (q : Place) → Answers j q → AnswersIn (both j k) 0 q
both_head (ok c) k q h = absurd h
both_head (clash p) k q h = under_first p q h

-- a clash in the rest
both_tail : (j : Joint) (k : JointRun) (i : ℕ) (q : Place) → AnswersIn k i q → AnswersIn (both j k) (suc i) q
both_tail (ok c) (ok_run t) i q h = h
both_tail (ok c) (clash_at l p) i q h = one_later l i p q h
both_tail (clash p) k i q h = inr (inl (omega arith))

root_first : (q : Place) → NotAfter [] q
root_first [] = inl refl
root_first (j ∷ q) = inr tt

before_asym : (p q : Place) → Before p q → Before q p → ⊥
before_asym [] [] h k = h
before_asym [] (j ∷ q) h k = k
before_asym (i ∷ p) [] h k = h
before_asym (i ∷ p) (j ∷ q) (inl h) (inl k) = omega arith
before_asym (i ∷ p) (j ∷ q) (inl h) (inr k) = omega (arith, k.0)
before_asym (i ∷ p) (j ∷ q) (inr h) (inl k) = omega (arith, h.0)
before_asym (i ∷ p) (j ∷ q) (inr h) (inr k) = before_asym p q h.1 k.1

-- two places neither of which comes after the other are one
not_after_antisym : (p q : Place) → NotAfter p q → NotAfter q p → p ≡ q
not_after_antisym p q (inl e) k = e
not_after_antisym p q (inr h) (inl e) = sym e
not_after_antisym p q (inr h) (inr k) = absurd (before_asym p q h k)

module _ (H : List ℕ → List ℕ) where
  gate_root : (r s : Run) (b : Bool) → same (prelabel (heads H r)) (prelabel (heads H s)) ≡ b → Clash H (inner r) (inner s) []
      → Answers (cond b (wrap (join_run H r s)) (clash [])) []
  gate_root r s true e c =
      absurd (c.1.differ (sym (opened_inj c.1.here) ∙ same_true (prelabel (heads H r)) (prelabel (heads H s)) e ∙ opened_inj c.1.there))
  gate_root r s false e c = root_first []

  gate_deep : (r s : Run) (b : Bool) (j : ℕ) (q : Place) → AnswersIn (join_run H r s) j q
      → Answers (cond b (wrap (join_run H r s)) (clash [])) (j ∷ q)
  gate_deep r s true j q h = wrap_first (join_run H r s) j q h
  gate_deep r s false j q h = root_first (j ∷ q)

  -- "first clash in this order: a node, then all of its first child's subtree, then the next child's"
  mutual
    pub join_first : (a b : Node) (q : Place) → Clash H a b q → Answers (join H a b) q
    join_first (inner r) (inner s) [] c = gate_root r s (same (prelabel (heads H r)) (prelabel (heads H s))) refl c
    join_first (inner r) (inner s) (j ∷ q) c =
        gate_deep r s (same (prelabel (heads H r)) (prelabel (heads H s))) j q (join_run_first r s j q (c.0.1, c.1))
    join_first (inner r) (leaf u m) [] c = leaf_shut u m c.1.two c.1.there
    join_first (inner r) (leaf u m) (j ∷ q) c = c.0
    join_first (leaf t l) (inner s) [] c = leaf_shut t l c.1.one c.1.here
    join_first (leaf t l) (inner s) (j ∷ q) c = c.0
    join_first (leaf t l) (leaf u m) [] c = leaf_shut t l c.1.one c.1.here
    join_first (leaf t l) (leaf u m) (j ∷ q) c = c.0

    pub join_run_first : (r s : Run) (j : ℕ) (q : Place) → ClashIn H r s j q → AnswersIn (join_run H r s) j q
    join_run_first nil s j q c = absurd c.0
    join_run_first (cons n r) nil j q c = absurd c.0
    join_run_first (cons n r) (cons m s) zero q c = both_head (join H n m) (join_run H r s) q (join_first n m q c)
    join_run_first (cons n r) (cons m s) (suc j) q c = both_tail (join H n m) (join_run H r s) j q (join_run_first r s j q c)

  -- no tree, and no later place, where there is a clash
  answered : (a b : Node) (j : Joint) → join H a b ≡ j → (q : Place) → Clash H a b q → Answers j q
  answered a b j e q c = subst (λ (k : Joint). Answers k q) e (join_first a b q c)

  -- where a join gives a tree nothing clashes
  pub join_unclashed : (a b c : Node) → join H a b ≡ ok c → (q : Place) → Clash H a b q → ⊥
  join_unclashed a b c e = answered a b (ok c) e

  -- and the clash that it gives is the first
  pub clash_first : (a b : Node) (p : Place) → Alike H a b → join H a b ≡ clash p → FirstClash H a b p
  clash_first a b p h e =
      let c = join_clash H a b p h e in
      let x = opened_at H a p c.1.texts.one c.1.texts.here in
      let y = opened_at H b p c.1.texts.two c.1.texts.there in
      record {
        shared = c.0;
        one = x.0;
        two = y.0;
        in_first = x.1;
        in_second = y.1;
        differ = λ q. c.1.texts.differ (sym x.2 ∙ q ∙ y.2);
        first = answered a b (clash p) e;
      }

  -- it gives every first clash
  pub first_clash : (a b : Node) (p : Place) → Alike H a b → FirstClash H a b p → join H a b ≡ clash p
  first_clash a b p h f = go (join H a b) refl
    where
      here : Clash H a b p
      here = (
        f.shared,
        record {
          one = prelabel (heads H f.one);
          two = prelabel (heads H f.two);
          here = at_opened H a p f.one f.in_first;
          there = at_opened H b p f.two f.in_second;
          differ = f.differ;
        },
      )

      go : (j : Joint) → join H a b ≡ j → j ≡ clash p
      go (ok c) e = absurd (join_unclashed a b c e p here)
      go (clash q) e =
          let c = join_clash H a b q h e in
          ap clash (not_after_antisym q p (answered a b (clash q) e p here) (f.first q (c.0, c.1.texts)))
