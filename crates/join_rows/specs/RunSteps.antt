-- A run is walked from its last child; one with no child left joins to none.
use Rattle.std.specs.Prelude.{◌≡◌, refl, Result, Ok, Err, IfOk, true, ◌||◌, List, [], ℕ, ◌+◌, ◌-◌, ◌≤◌, eqb, length, get_or}
use Rattle.std.proofs.Common.{sym, ap, ◌∙◌, subst, subst₂, arith, eqb-true}
use Rattle.lists.specs.ListsLaws.{append_cancel, nil_cons, at_front, at_back}
use Rattle.lists.specs.TestsLaws.{or_cases}
use Rattle.trees.specs.Nodes.{Node, Run, nil, cons, count, sizes, heads}
use Rattle.trees.proofs.NodesLaws.{some_size}
use Rattle.trees.proofs.StackLaws.{length_heads}
use Rattle.trees.specs.Join.{join, join_run}
use Rattle.columns.specs.Columns.{none_left}
use Rattle.std.specs.Result.{result_unwrap_or}
use Rattle.join_rows.specs.declared.plan.Clash.{Clash}
use Rattle.lists.specs.Lists.{At}
use Rattle.join_rows.specs.Faces.{Face, no_face, faces, faces_in, root}
use Rattle.join_rows.specs.FacesLaws.{length_faces_in}
use Rattle.join_rows.specs.Runs.{snoc, ended, count_snoc, sizes_snoc, heads_snoc, faces_snoc}
use Rattle.join_rows.specs.Walks.{earlier_of, Reads, Said, SaidRun}
use Rattle.join_rows.specs.StartsLaws.{root_last, start_node}
use Rattle.join_rows.specs.WalksLaws.{run_more}
use Rattle.join_rows.specs.Meets.{RunsSaid}

-- a run with no child or no row is empty
no_count : (r : Run) → count r ≡ 0 → r ≡ nil
no_count nil e = refl
no_count (cons n r) e = absurd (omega arith)

no_size : (r : Run) → sizes r ≡ 0 → r ≡ nil
no_size nil e = refl
no_size (cons n r) e = absurd (omega (arith, some_size n))

-- the cells written stand before those that were there
pub low_cell : (last : Result ℕ Clash) (at : ℕ) → IfOk last (λ low. low ≤ at) → result_unwrap_or last at ≤ at
low_cell (Ok low) at h = h
low_cell (Err k) at h = omega arith

pub earlier_low : (front last : Result ℕ Clash) (at : ℕ) → IfOk last (λ low. low ≤ at) → IfOk front (λ low. low ≤ result_unwrap_or last at)
    → IfOk (earlier_of front last) (λ low. low ≤ at)
earlier_low (Err front) last at h g = g
earlier_low (Ok low) (Err last) at h g = h
earlier_low (Ok low) (Ok mid) at h g = omega arith

module _ (H : List ℕ → List ℕ) (fs : List Face) (types counts lengths values labels starts offsets : List ℕ)
    (reads : Reads H fs types counts lengths values labels starts offsets) where
  same_count : (r s : Run) → heads H r ≡ heads H s → count r ≡ count s
  same_count r s e = sym (length_heads H r) ∙ ap length e ∙ length_heads H s

  empty_said : (r s : Run) (x y at : ℕ) (p : List ℕ) → r ≡ nil → s ≡ nil
      → SaidRun H fs r s x y at p p (Ok at) (join_run H r s)
  empty_said nil nil x y at p d e = λ room. record { cells = []; spent = omega arith; is = refl; names = tt }
  empty_said nil (cons m s) x y at p d e = absurd (let z : count (cons m s) ≡ 0 = ap count e in omega arith)
  empty_said (cons n r) s x y at p d e = absurd (let z : count (cons n r) ≡ 0 = ap count d in omega arith)

  pub none_said : (k e f at : ℕ) (p : List ℕ) → none_left k e f ≡ true
      → RunsSaid H fs types counts lengths values labels starts offsets reads e f k at p p (Ok at)
  none_said k e f at p h r s x y u v a b c d =
      or_cases (eqb k 0) (eqb e 0 || eqb f 0) h
      (λ q. let z : r ≡ nil = no_count r (sym c ∙ eqb-true k 0 q) in empty_said r s x y at p z (other z))
      (λ q. or_cases (eqb e 0) (eqb f 0) q
      (λ o. let z : r ≡ nil = no_size r (omega (arith, eqb-true e 0 o)) in empty_said r s x y at p z (other z))
      (λ o. let z : s ≡ nil = no_size s (omega (arith, eqb-true f 0 o)) in
      empty_said r s x y at p (no_count r (same_count r s d ∙ ap count z)) z))
    where
      other : r ≡ nil → s ≡ nil
      other z = no_count s (sym (same_count r s d) ∙ ap count z)

  -- what a walk of two nodes says
  abbrev pub NodesSaid : ℕ → ℕ → ℕ → List ℕ → List ℕ → Result ℕ Clash → Type 0
  NodesSaid i j at p q w =
      (a b : Node) (x y : ℕ) → At no_face fs x (faces H a) → At no_face fs y (faces H b) → i ≡ root x a → j ≡ root y b
      → Said H fs a b x y at p q w (join H a b)

  -- the last child of a run in place, and where it starts
  last_at : (r : Run) (n : Node) (x : ℕ) → At no_face fs x (faces_in H (snoc r n)) → At no_face fs (x + sizes r) (faces H n)
  last_at r n x h =
      subst (λ (k : ℕ). At no_face fs (x + k) (faces H n)) (length_faces_in H r)
      (at_back no_face fs x (faces_in H r) (faces H n) (subst (At no_face fs x) (faces_snoc H r n) h))

  last_root : (r : Run) (n : Node) (x e : ℕ) → e ≡ x + sizes (snoc r n) → e - 1 ≡ root (x + sizes r) n
  last_root r n x e q = omega (arith, sizes_snoc r n, root_last (x + sizes r) n)

  last_start : (r : Run) (n : Node) (x e : ℕ) → At no_face fs x (faces_in H (snoc r n)) → e ≡ x + sizes (snoc r n)
      → get_or starts (e - 1) 0 ≡ x + sizes r
  last_start r n x e h q =
      ap (λ (l : ℕ). get_or starts l 0) (last_root r n x e q)
      ∙ start_node H fs counts starts reads.counts_are reads.starts_are n (x + sizes r) (last_at r n x h)

  front_heads : (r s : Run) (n m : Node) → heads H (snoc r n) ≡ heads H (snoc s m) → heads H r ≡ heads H s
  front_heads r s n m e =
      let c : count (snoc r n) ≡ count (snoc s m) = same_count (snoc r n) (snoc s m) e in
      (append_cancel (heads H r) (heads H s) _ _
      (omega (arith, length_heads H r, length_heads H s, count_snoc r n, count_snoc s m))
      (sym (heads_snoc H r n) ∙ e ∙ heads_snoc H s m)).0

  module _ (k e f at : ℕ) (p q z : List ℕ) (front last : Result ℕ Clash)
      (nodes : NodesSaid (e - 1) (f - 1) at p q last)
      (runs : RunsSaid H fs types counts lengths values labels starts offsets reads (get_or starts (e - 1) 0) (get_or starts (f - 1) 0) (k - 1)
      (result_unwrap_or last at) q z front) where
    abbrev Joins : ℕ → ℕ → Run → Run → Type 0
    Joins x y r s =
        At no_face fs x (faces_in H r) → At no_face fs y (faces_in H s) → e ≡ x + sizes r → f ≡ y + sizes s → k ≡ count r → heads H r ≡ heads H s
        → SaidRun H fs r s x y at p z (earlier_of front last) (join_run H r s)

    snoc_said : (r s : Run) (n m : Node) (x y : ℕ) → Joins x y (snoc r n) (snoc s m)
    snoc_said r s n m x y h g a b c d =
        let eq : heads H r ≡ heads H s = front_heads r s n m d in
        run_more H fs r s n m x y at p q z front last (same_count r s eq)
        (nodes n m (x + sizes r) (y + sizes s) (last_at r n x h) (last_at s m y g) (last_root r n x e a) (last_root s m y f b))
        (runs r s x y
        (at_front no_face fs x (faces_in H r) (faces H n) (subst (At no_face fs x) (faces_snoc H r n) h))
        (at_front no_face fs y (faces_in H s) (faces H m) (subst (At no_face fs y) (faces_snoc H s m) g))
        (last_start r n x e h a) (last_start s m y f g b) (omega (arith, count_snoc r n)) eq)

    -- "and the join of a run from its first child and the rest"
    pub run_said : (k ≡ 0 → ⊥)
        → RunsSaid H fs types counts lengths values labels starts offsets reads e f k at p z (earlier_of front last)
    run_said o nil s x y = λ h g a b c d. absurd (o c)
    run_said o (cons n r) nil x y = λ h g a b c d. absurd (nil_cons (sym d))
    run_said o (cons n r) (cons m s) x y =
        let u = ended n r in
        let v = ended m s in
        subst₂ (Joins x y) (sym u.is) (sym v.is) (snoc_said u.front v.front u.last v.last x y)
