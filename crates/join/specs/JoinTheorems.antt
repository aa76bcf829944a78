-- What document 01 says of the join, over bytes.
use Rattle.std.specs.Prelude.{ℕ, ◌≤◌, Bool, not, ◌≡◌, ltb, eqb}
use Rattle.std.proofs.Math.Bool.{true, false, cond}
use Rattle.std.proofs.Common.{true≢false, ap₂, ◌∙◌, subst}
use mathlib.Core.List.{List}
use Rattle.std.proofs.Math.Path.{refl, sym, ap}
use borrow.Author.Tests.{eqb-true, eqb-false, le-ltb, ltb-false}
use Rattle.std.proofs.Math.ListN.{length}
use Rattle.lists.specs.Lists.{Below, same}
use Rattle.lists.specs.TestsLaws.{or_left, or_right}
use Rattle.lists.specs.ListsLaws.{same_refl, same_true, same_comm}
use Rattle.trees.specs.Nodes.{Node, size, label}
use Rattle.trees.specs.Rules.{max_nodes, max_bytes}
use Rattle.trees.proofs.RulesLaws.{On, join_all, join_well_formed}
use Rattle.trees.specs.Places.{Place}
use Rattle.trees.specs.Join.{Joint, ok, clash, join, Alike, Clash, FirstClash}
use Rattle.trees.proofs.FirstClash.{join_unclashed, clash_first}
use Rattle.trees.proofs.JoinAlgebra.{join_idem, join_comm}
use Rattle.trees.specs.Rows.{rows, number}
use Rattle.outcomes.specs.Refusals.{accepted, roots_differ, join_too_large}
use Rattle.codec.specs.Writing.{slip_of}
use Rattle.answers.specs.Answers.{refused, clashed}
use Rattle.slips.specs.Check.{check_of}
use Rattle.outcomes.specs.Outcome.{over, Output, still}
use Rattle.answers.specs.declared.Answer.{Answer}
use Rattle.slips.specs.SlipTrees.{SlipOf, check_complete}
use Rattle.slips.specs.SlipTree.{slip_tree}
use Rattle.slips.specs.SlipTreeLaws.{slip_tree_lem}
use Rattle.send.specs.Sent.{sent, sent_tree}
use Rattle.slips.specs.ByteTrees.{OfBytes, proper_bytes, tree_slip, accepted_slip}
use Rattle.answers.specs.Both.{sided}
use Rattle.join_tables.specs.Joined.{too_large, joined_of}
use Rattle.join.specs.Join.{join_of}

module _ (H : List ℕ → List ℕ) (composed : List ℕ → Bool) where
  -- two accepted slips, by their trees
  pub slips_join : (s u out : List ℕ) (a b : Node) → SlipOf H composed s a → SlipOf H composed u b
      → join_of H composed s u out ≡ cond (not (same (label H a) (label H b))) (still (refused roots_differ 0) out) (joined_of H a b out (join H a b))
  unfolding join_of
  slips_join s u out a b x y =
      rw (check_complete H composed s a x, check_complete H composed u b y)
      (ap₂ (λ (n m : Node). cond (not (same (label H a) (label H b))) (still (refused roots_differ 0) out) (joined_of H n m out (join H n m)))
      (slip_tree_lem H composed s a x) (slip_tree_lem H composed u b y))

  -- and with one root label
  pub alike_join : (s u out : List ℕ) (a b : Node) → SlipOf H composed s a → SlipOf H composed u b → label H a ≡ label H b
      → join_of H composed s u out ≡ joined_of H a b out (join H a b)
  alike_join s u out a b x y l =
      slips_join s u out a b x y
      ∙ ap (λ (t : Bool). cond (not t) (still (refused roots_differ 0) out) (joined_of H a b out (join H a b)))
      (ap (same (label H a)) (sym l) ∙ same_refl (label H a))

  -- the trees of two such slips are alike
  slips_alike : (s u : List ℕ) (a b : Node) → SlipOf H composed s a → SlipOf H composed u b → label H a ≡ label H b → Alike H a b
  slips_alike s u a b x y l = record { types = x.well.root ∙ sym y.well.root; labels = l }

  -- a join that is not too large has a slip
  pub join_slip : (s u : List ℕ) (a b c : Node) → SlipOf H composed s a → SlipOf H composed u b → label H a ≡ label H b → join H a b ≡ ok c
      → too_large c ≡ false → SlipOf H composed (slip_of (rows c)) c
  join_slip s u a b c x y l e fits =
      let both : OfBytes H c =
      subst (On (OfBytes H)) e
      (join_all H (λ hs. Unit {0}) (λ t v. Below 256 v) a b (proper_bytes H a x.proper) (proper_bytes H b y.proper)) in
      tree_slip H composed c (join_well_formed H composed a b c x.well y.well l e) both
      (ltb-false max_nodes (size c) (or_left (ltb max_nodes (size c)) (ltb max_bytes (length (slip_of (rows c)))) fits))
      (ltb-false max_bytes (length (slip_of (rows c))) (or_right (ltb max_nodes (size c)) (ltb max_bytes (length (slip_of (rows c)))) fits))

  -- how the join of two slips goes: refused for one of them, by 13, by 14 exactly at the first clash of their trees, and where there is none
  -- by 15 exactly where their join is too large, else 11 or the slip of their join
  pub data Goes (s u out : List ℕ) : Type 0 where
    first : ((check_of H composed s).number ≡ accepted → ⊥) → join_of H composed s u out ≡ still (sided 1 (check_of H composed s)) out → Goes s u out
    second :
        (a : Node)
        → SlipOf H composed s a
        → ((check_of H composed u).number ≡ accepted → ⊥)
        → join_of H composed s u out ≡ still (sided 2 (check_of H composed u)) out
        → Goes s u out
    differ :
        (a b : Node)
        → SlipOf H composed s a
        → SlipOf H composed u b
        → (label H a ≡ label H b → ⊥)
        → join_of H composed s u out ≡ still (refused roots_differ 0) out
        → Goes s u out
    clashes :
        (a b : Node)
        → SlipOf H composed s a
        → SlipOf H composed u b
        → label H a ≡ label H b
        → (p : Place)
        → join H a b ≡ clash p
        → FirstClash H a b p
        → join_of H composed s u out ≡ still (clashed (number a p) (number b p)) out
        → Goes s u out
    large :
        (a b : Node)
        → SlipOf H composed s a
        → SlipOf H composed u b
        → label H a ≡ label H b
        → ((q : Place) → Clash H a b q → ⊥)
        → (c : Node)
        → join H a b ≡ ok c
        → too_large c ≡ true
        → join_of H composed s u out ≡ still (refused join_too_large 0) out
        → Goes s u out
    joins :
        (a b : Node)
        → SlipOf H composed s a
        → SlipOf H composed u b
        → label H a ≡ label H b
        → ((q : Place) → Clash H a b q → ⊥)
        → (c : Node)
        → join H a b ≡ ok c
        → SlipOf H composed (slip_of (rows c)) c
        → join_of H composed s u out ≡ sent_tree H c out
        → Goes s u out

  module _ (s u out : List ℕ) where
    by_size : (a b c : Node) → SlipOf H composed s a → SlipOf H composed u b → label H a ≡ label H b → join H a b ≡ ok c
        → (t : Bool) → too_large c ≡ t → join_of H composed s u out ≡ cond t (still (refused join_too_large 0) out) (sent_tree H c out) → Goes s u out
    by_size a b c x y l e true t f = large a b x y l (join_unclashed H a b c e) c e t f
    by_size a b c x y l e false t f = joins a b x y l (join_unclashed H a b c e) c e (join_slip s u a b c x y l e t) f

    by_join : (a b : Node) → SlipOf H composed s a → SlipOf H composed u b → label H a ≡ label H b
        → (j : Joint) → join H a b ≡ j → join_of H composed s u out ≡ joined_of H a b out j → Goes s u out
    unfolding joined_of
    by_join a b x y l (ok c) e f = by_size a b c x y l e (too_large c) refl f
    by_join a b x y l (clash p) e f = clashes a b x y l p e (clash_first H a b p (slips_alike s u a b x y l) e) f

    by_roots : (a b : Node) → SlipOf H composed s a → SlipOf H composed u b → (t : Bool) → same (label H a) (label H b) ≡ t → Goes s u out
    by_roots a b x y true t =
        let l = same_true (label H a) (label H b) t in by_join a b x y l (join H a b) refl (alike_join s u out a b x y l)
    by_roots a b x y false t =
        differ a b x y (λ l. true≢false (sym (same_refl (label H a)) ∙ ap (same (label H a)) l ∙ t))
        (slips_join s u out a b x y ∙ ap (λ (z : Bool). cond (not z) (still (refused roots_differ 0) out) (joined_of H a b out (join H a b))) t)

    by_checks : Below 256 s → Below 256 u → (p q : Bool) → eqb (check_of H composed s).number accepted ≡ p
        → eqb (check_of H composed u).number accepted ≡ q → Goes s u out
    unfolding join_of
    by_checks f g false q e d = first (eqb-false _ _ e) (rw e refl)
    by_checks f g true false e d =
        second (slip_tree s) (accepted_slip H composed s f (eqb-true _ _ e)) (eqb-false _ _ d) (rw (e, d) refl)
    by_checks f g true true e d =
        let x = accepted_slip H composed s f (eqb-true _ _ e) in
        let y = accepted_slip H composed u g (eqb-true _ _ d) in
        by_roots (slip_tree s) (slip_tree u) x y (same (label H (slip_tree s)) (label H (slip_tree u))) refl

    pub join_goes : Below 256 s → Below 256 u → Goes s u out
    join_goes f g = by_checks f g _ _ refl refl

  -- a slip joined with itself is itself
  pub join_self : (s out : List ℕ) (a : Node) → SlipOf H composed s a → length s ≤ length out
      → join_of H composed s s out ≡ record { answer = check_of H composed s; left = over s out }
  unfolding joined_of sent
  join_self s out a x room =
      let fits : too_large a ≡ false =
      rw (le-ltb max_nodes (size a) x.few, le-ltb max_bytes (length (slip_of (rows a))) (subst (λ (t : List ℕ). length t ≤ max_bytes) x.is x.long)) refl in
      alike_join s s out a a x x refl
      ∙ ap (joined_of H a a out) (join_idem H a)
      ∙ rw (fits, sym x.is, le-ltb (length out) (length s) room, check_complete H composed s a x) refl

  -- "the same bytes or both 14": two outcomes are one, or two clashes with the entries in turn
  pub data Either (out : List ℕ) (x y : Output Answer) : Type 0 where
    one : x ≡ y → Either out x y
    both_clash : (i j : ℕ) → x ≡ still (clashed i j) out → y ≡ still (clashed j i) out → Either out x y

  -- the two orders of two accepted slips
  pub join_orders : (s u out : List ℕ) (a b : Node) → SlipOf H composed s a → SlipOf H composed u b
      → Either out (join_of H composed s u out) (join_of H composed u s out)
  unfolding joined_of
  join_orders s u out a b x y = by_label (same (label H a) (label H b)) refl
    where
      by_joint : label H a ≡ label H b → (j : Joint) → join H a b ≡ j → Either out (join_of H composed s u out) (join_of H composed u s out)
      by_joint l (ok c) e =
          one (alike_join s u out a b x y l ∙ ap (joined_of H a b out) e
          ∙ sym (alike_join u s out b a y x (sym l) ∙ ap (joined_of H b a out) (sym (join_comm H a b (slips_alike s u a b x y l)) ∙ e)))
      by_joint l (clash p) e =
          both_clash (number a p) (number b p) (alike_join s u out a b x y l ∙ ap (joined_of H a b out) e)
          (alike_join u s out b a y x (sym l) ∙ ap (joined_of H b a out) (sym (join_comm H a b (slips_alike s u a b x y l)) ∙ e))

      by_label : (t : Bool) → same (label H a) (label H b) ≡ t → Either out (join_of H composed s u out) (join_of H composed u s out)
      by_label true t = by_joint (same_true (label H a) (label H b) t) (join H a b) refl
      by_label false t =
          one (slips_join s u out a b x y ∙ ap (λ (z : Bool). cond (not z) (still (refused roots_differ 0) out) (joined_of H a b out (join H a b))) t
          ∙ sym (slips_join u s out b a y x
          ∙ ap (λ (z : Bool). cond (not z) (still (refused roots_differ 0) out) (joined_of H b a out (join H b a))) (sym (same_comm (label H a) (label H b)) ∙ t)))
