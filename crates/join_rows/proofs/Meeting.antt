-- What the walk of two nodes says, for each way that they meet.
use mathlib.Core.Path.{◌≡◌, sym, ◌∙◌, subst, subst₂}
use mathlib.Core.List.{List}
use Prim.Native.Nat.{ℕ, ◌+◌}
use native.Mathlib.Omega.{arith}
use lib.ListN.{get_or}
use Rattle.std.specs.Prelude.{Result, Ok, Err, ◌≤◌}
use Rattle.std.proofs.lemmas.Result.{IfOk-weaker}
use Rattle.trees.specs.Join.{join}
use Rattle.columns.specs.declared.meet.Meeting.{Meeting}
use Rattle.columns.specs.declared.meet.Meeting.TheVariants.{Clash, Take, Both}
use Rattle.columns.specs.declared.walkable.Columns.{Columns}
use Rattle.columns.specs.Seen.{head_of}
use Rattle.columns.specs.Meetings.{meeting_at}
use Rattle.join_rows.specs.declared.plan.Clash as code
use Rattle.join_rows.specs.Walks.{PutGives, Said, NodeGives, RunGives}
use Rattle.join_rows.specs.Meets.{meets, clash_said, take_said, both_said}

module _ (c : Columns) where
  -- how two rows meet
  abbrev met : ℕ → ℕ → Meeting
  met = meeting_at (head_of c) c.table.counts.now c.starts.now

  pub node_clash : (p : List ℕ) (i j at : ℕ) (m : Meeting) → m ≡ met i j → m ≡ Clash
      → NodeGives c p p i j at (Err (record { first = i; second = j }))
  node_clash p i j at m n e =
      record {
        low = tt;
        said = λ H fs reads a b x y h k u v.
            subst₂ (λ (l m : ℕ). met l m ≡ Clash
            → Said H fs a b x y at p p (Err (record { first = l; second = m })) (join H a b))
            (sym u) (sym v)
            (λ o. clash_said H fs _ _ _ _ _ _ _ reads a b x y at p (sym (meets H fs _ _ _ _ _ _ _ reads a b x y h k) ∙ o))
            (sym n ∙ e);
      }

  pub node_take : (p q : List ℕ) (i j at row low : ℕ) (m : Meeting) → m ≡ met i j → m ≡ Take row
      → PutGives (get_or c.starts.now row 0) (row + 1) at p q low
      → NodeGives c p q i j at (Ok low)
  node_take p q i j at row low m n e g =
      record {
        low = g.low;
        said = λ H fs reads a b x y h k u v.
            subst₂ (λ (l m : ℕ). met l m ≡ Take row → Said H fs a b x y at p q (Ok low) (join H a b))
            (sym u) (sym v)
            (λ o. take_said H fs _ _ _ _ _ _ _ reads a b x y at low row p q h k (sym (meets H fs _ _ _ _ _ _ _ reads a b x y h k) ∙ o) g)
            (sym n ∙ e);
      }

  pub node_both : (p q z : List ℕ) (i j at mid k : ℕ) (w : Result ℕ code.Clash) (o : Meeting) → o ≡ met i j → o ≡ Both
      → PutGives i (i + 1) at p q mid
      → k ≡ get_or c.table.counts.now i 0 → RunGives c q z i j k mid w
      → NodeGives c p z i j at w
  node_both p q z i j at mid k w o n e g d runs =
      record {
        low = IfOk-weaker w (λ low. low ≤ mid) (λ low. low ≤ at) (λ low h. omega (arith, h, g.low)) runs.low;
        said = λ H fs reads a b x y h l u v.
            subst₂ (λ (n m : ℕ). met n m ≡ Both → PutGives n (n + 1) at p q mid
            → RunGives c q z n m (get_or c.table.counts.now n 0) mid w
            → Said H fs a b x y at p z w (join H a b))
            (sym u) (sym v)
            (λ o f rs. both_said H fs _ _ _ _ _ _ _ reads a b x y at mid p q z w h l
            (sym (meets H fs _ _ _ _ _ _ _ reads a b x y h l) ∙ o) f (rs.said H fs reads))
            (sym n ∙ e) g (subst (λ (n : ℕ). RunGives c q z i j n mid w) d runs);
      }
