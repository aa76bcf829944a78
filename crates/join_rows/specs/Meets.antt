-- Rows meet as the nodes do that they show, and each way of meeting gives the join.
use Rattle.std.specs.Prelude.{◌≡◌, refl, Result, Ok, Err, Bool, true, false, cond, ℕ, ◌+◌, ◌≤◌, ◌<◌, eqb, length, get_or}
use Rattle.std.proofs.Math.Path.{sym, ap}
use Rattle.std.proofs.Common.{ap₂, ◌∙◌, subst, add-zero, arith, eqb-true, eq-eqb, ne_eqb}
use mathlib.Core.List.{List, append-nil}
use Rattle.std.proofs.lemmas.Bool.{eqb-false}
use Rattle.lists.specs.Lists.{same, backwards, At}
use Rattle.lists.specs.ListsLaws.{same_true}
use Rattle.trees.specs.Nodes.{Node, Run, inner, leaf, count, size, sizes, Head, prelabel, heads}
use Rattle.trees.proofs.NodesLaws.{prelabel_inj}
use Rattle.trees.proofs.StackLaws.{length_heads}
use Rattle.trees.specs.Join.{join, join_run}
use Rattle.trees.proofs.JoinLaws.{join_run_good}
use Rattle.columns.specs.declared.meet.Meeting.{Meeting}
use Rattle.columns.specs.declared.meet.Meeting.TheVariants.{Clash, Take, Both}
use Rattle.join_rows.specs.declared.plan.Clash as code
use Rattle.join_rows.specs.Faces.{Face, no_face, count_of_face, faces, faces_in, root}
use Rattle.join_rows.specs.FacesLaws.{length_faces}
use Rattle.columns.specs.Columns.{head_at, heads_back, heads_agree}
use Rattle.columns.specs.Meetings.{meeting_at}
use Rattle.join_rows.specs.Walks.{PutGives, Reads, Placed, Said, SaidRun}
use Rattle.join_rows.specs.StartsLaws.{root_last, inner_at, children_at, count_at, start_node, heads_run}
use Rattle.join_rows.specs.WalksLaws.{placed_put, node_wraps}
use Rattle.join_rows.specs.AgreeLaws.{agree_same, unequal}

-- the row that is taken is one of the two
pub taken_row : (head : ℕ → Head) (counts starts : List ℕ) (i j row n : ℕ) (m : Meeting) → m ≡ meeting_at head counts starts i j → m ≡ Take row → i < n
    → j < n → row < n
taken_row head counts starts i j row n m o e h k =
    go (eqb (get_or counts j 0) 0) (eqb (get_or counts i 0) 0) (eqb (get_or counts i 0) (get_or counts j 0))
    (heads_agree (heads_back head starts (get_or counts i 0) i) (heads_back head starts (get_or counts i 0) j)) (sym o ∙ e)
  where
    go : (p q r s : Bool) → cond p (Take i) (cond q (Take j) (cond r (cond s Both Clash) Clash)) ≡ Take row → row < n
    go true q r s e = let z : i ≡ row = cc in omega arith
    go false true r s e = let z : j ≡ row = cc in omega arith
    go false false true true e = absurd (let z : ◌≡◌ {A = ℕ} 0 1 = cc in omega arith)
    go false false true false e = absurd (let z : ◌≡◌ {A = ℕ} 0 1 = cc in omega arith)
    go false false false s e = absurd (let z : ◌≡◌ {A = ℕ} 0 1 = cc in omega arith)

module _ (H : List ℕ → List ℕ) where
  -- how two nodes meet whose rows are i and j
  abbrev pub meeting_of : ℕ → ℕ → Node → Node → Meeting
  meeting_of i j (inner r) (inner s) = cond (same (prelabel (heads H r)) (prelabel (heads H s))) Both Clash
  meeting_of i j (inner r) (leaf u m) = Take i
  meeting_of i j (leaf t l) (inner s) = Take j
  meeting_of i j (leaf t l) (leaf u m) = Take i

  module _ (fs : List Face) (types counts lengths values labels starts offsets : List ℕ)
      (reads : Reads H fs types counts lengths values labels starts offsets) where
    abbrev head : ℕ → Head
    head = head_at types counts lengths values labels offsets

    leaf_count : (t : ℕ) (l : List ℕ) (x : ℕ) → At no_face fs x (faces H (leaf t l)) → get_or counts x 0 ≡ 0
    leaf_count t l x h = reads.counts_are x h.0 ∙ ap count_of_face h.1

    inner_count : (r : Run) (x : ℕ) → At no_face fs x (faces H (inner r)) → get_or counts (x + sizes r) 0 ≡ count r
    inner_count r x h = count_at H fs counts starts reads.counts_are reads.starts_are r x h

    inner_full : (r : Run) (x : ℕ) → At no_face fs x (faces H (inner r)) → get_or counts (x + sizes r) 0 ≡ 0 → ⊥
    inner_full r x h e =
        let k = inner_at H fs r x h in
        let z : 0 < length (heads H r) = reads.full (x + sizes r) k.0 (heads H r) k.1 in
        omega (arith, length_heads H r, inner_count r x h)

    -- the heads of an internal node's children, found from its row back
    inner_heads : (r : Run) (x k : ℕ) → At no_face fs x (faces H (inner r)) → k ≡ count r
        → heads_back head starts k (x + sizes r) ≡ backwards (heads H r)
    unfolding heads_back
    inner_heads r x k h e =
        ap (λ (n : ℕ). heads_back head starts n (x + sizes r)) (e ∙ sym (add-zero (count r)))
        ∙ heads_run H fs counts starts reads.counts_are reads.starts_are head reads.heads_are r x 0 (children_at H fs r x h)
        ∙ append-nil (backwards (heads H r))

    inner_meet : (r s : Run) (x y : ℕ) → At no_face fs x (faces H (inner r)) → At no_face fs y (faces H (inner s))
        → (b : Bool) → eqb (get_or counts (x + sizes r) 0) (get_or counts (y + sizes s) 0) ≡ b
        → cond b (cond (heads_agree (heads_back head starts (get_or counts (x + sizes r) 0) (x + sizes r))
        (heads_back head starts (get_or counts (x + sizes r) 0) (y + sizes s))) Both Clash) Clash
        ≡ cond (same (prelabel (heads H r)) (prelabel (heads H s))) Both Clash
    inner_meet r s x y h k true e =
        let n : get_or counts (x + sizes r) 0 ≡ count r = inner_count r x h in
        let m : get_or counts (x + sizes r) 0 ≡ count s = eqb-true _ _ e ∙ inner_count s y k in
        ap (λ (b : Bool). cond b Both Clash)
        (ap₂ heads_agree (inner_heads r x _ h n) (inner_heads s y _ k m)
        ∙ agree_same (heads H r) (heads H s) (length_heads H r ∙ sym n ∙ m ∙ sym (length_heads H s)))
    inner_meet r s x y h k false e =
        ap (λ (b : Bool). cond b Both Clash)
        (sym (unequal (heads H r) (heads H s) (λ q. eqb-false _ _ e
        (inner_count r x h ∙ sym (length_heads H r) ∙ q ∙ length_heads H s ∙ sym (inner_count s y k)))))

    pub meets : (a b : Node) (x y : ℕ) → At no_face fs x (faces H a) → At no_face fs y (faces H b)
        → meeting_at head counts starts (root x a) (root y b) ≡ meeting_of (root x a) (root y b) a b
    meets (inner r) (inner s) x y h k =
        rw (ne_eqb (get_or counts (y + sizes s) 0) 0 (inner_full s y k), ne_eqb (get_or counts (x + sizes r) 0) 0 (inner_full r x h))
        (inner_meet r s x y h k (eqb (get_or counts (x + sizes r) 0) (get_or counts (y + sizes s) 0)) refl)
    meets (inner r) (leaf u m) x y h k = rw (eq-eqb (get_or counts y 0) 0 (leaf_count u m y k))
    meets (leaf t l) (inner s) x y h k =
        rw (ne_eqb (get_or counts (y + sizes s) 0) 0 (inner_full s y k), eq-eqb (get_or counts x 0) 0 (leaf_count t l x h))
    meets (leaf t l) (leaf u m) x y h k = rw (eq-eqb (get_or counts y 0) 0 (leaf_count u m y k))

    -- a clash here is the first
    pub clash_said : (a b : Node) (x y at : ℕ) (p : List ℕ) → meeting_of (root x a) (root y b) a b ≡ Clash
        → Said H fs a b x y at p p (Err (record { first = root x a; second = root y b })) (join H a b)
    clash_said (inner r) (inner s) x y at p e = go (same (prelabel (heads H r)) (prelabel (heads H s))) refl e
      where
        go : (b : Bool) → same (prelabel (heads H r)) (prelabel (heads H s)) ≡ b → cond b Both Clash ≡ Clash
            → Said H fs (inner r) (inner s) x y at p p (Err (record { first = x + sizes r; second = y + sizes s })) (join H (inner r) (inner s))
        go true q f = absurd (let z : ◌≡◌ {A = ℕ} 0 1 = cc in omega arith)
        go false q f = rw q (refl, refl)
    clash_said (inner r) (leaf u m) x y at p e = absurd (let z : ◌≡◌ {A = ℕ} 0 1 = cc in omega arith)
    clash_said (leaf t l) (inner s) x y at p e = absurd (let z : ◌≡◌ {A = ℕ} 0 1 = cc in omega arith)
    clash_said (leaf t l) (leaf u m) x y at p e = absurd (let z : ◌≡◌ {A = ℕ} 0 1 = cc in omega arith)

    -- all rows of a subtree
    taken : (n : Node) (b row at low : ℕ) (p q : List ℕ) → root b n ≡ row → At no_face fs b (faces H n)
        → PutGives (get_or starts row 0) (row + 1) at p q low → size n ≤ at → Placed fs at low p q (faces H n)
    taken n b row at low p q e h g k =
        let start : get_or starts row 0 ≡ b =
        ap (λ (l : ℕ). get_or starts l 0) (sym e) ∙ start_node H fs counts starts reads.counts_are reads.starts_are n b h in
        placed_put (faces H n) g (subst (λ (l : ℕ). At no_face fs l (faces H n)) (sym start) h)
        (omega (arith, start, length_faces H n, root_last b n))
        (omega (arith, length_faces H n))

    -- "below a place that is internal in one slip only, it holds that slip's nodes"
    pub take_said : (a b : Node) (x y at low row : ℕ) (p q : List ℕ) → At no_face fs x (faces H a) → At no_face fs y (faces H b)
        → meeting_of (root x a) (root y b) a b ≡ Take row → PutGives (get_or starts row 0) (row + 1) at p q low
        → Said H fs a b x y at p q (Ok low) (join H a b)
    take_said (inner r) (inner s) x y at low row p q h k e g =
        absurd (go (same (prelabel (heads H r)) (prelabel (heads H s))) e)
      where
        go : (b : Bool) → cond b Both Clash ≡ Take row → ⊥
        go true f = let z : ◌≡◌ {A = ℕ} 0 1 = cc in omega arith
        go false f = let z : ◌≡◌ {A = ℕ} 0 1 = cc in omega arith
    take_said (inner r) (leaf u m) x y at low row p q h k e g = λ room. taken (inner r) x row at low p q (cc) h g (omega arith)
    take_said (leaf t l) (inner s) x y at low row p q h k e g = λ room. taken (inner s) y row at low p q (cc) k g (omega arith)
    take_said (leaf t l) (leaf u m) x y at low row p q h k e g = λ room. taken (leaf t l) x row at low p q (cc) h g (omega arith)

    -- what a walk of two runs says, for the children of two nodes
    abbrev pub RunsSaid : ℕ → ℕ → ℕ → ℕ → List ℕ → List ℕ → Result ℕ code.Clash → Type 0
    RunsSaid e f k at q z w =
        (r s : Run) (x y : ℕ) → At no_face fs x (faces_in H r) → At no_face fs y (faces_in H s) → e ≡ x + sizes r → f ≡ y + sizes s
        → k ≡ count r → heads H r ≡ heads H s → SaidRun H fs r s x y at q z w (join_run H r s)

    -- "The join of a node is made from its run of children"
    pub both_said : (a b : Node) (x y at mid : ℕ) (p q z : List ℕ) (w : Result ℕ code.Clash) → At no_face fs x (faces H a) → At no_face fs y (faces H b)
        → meeting_of (root x a) (root y b) a b ≡ Both → PutGives (root x a) (root x a + 1) at p q mid
        → RunsSaid (root x a) (root y b) (get_or counts (root x a) 0) mid q z w
        → Said H fs a b x y at p z w (join H a b)
    both_said (inner r) (inner s) x y at mid p q z w h k e g runs = go (same (prelabel (heads H r)) (prelabel (heads H s))) refl e
      where
        go : (b : Bool) → same (prelabel (heads H r)) (prelabel (heads H s)) ≡ b → cond b Both Clash ≡ Both
            → Said H fs (inner r) (inner s) x y at p z w (join H (inner r) (inner s))
        go true o f =
            let eq : heads H r ≡ heads H s = prelabel_inj (heads H r) (heads H s) (same_true (prelabel (heads H r)) (prelabel (heads H s)) o) in
            rw o (node_wraps H fs r s x y at mid p q z w h g (join_run H r s) (join_run_good H r s eq)
            (runs r s x y (children_at H fs r x h) (children_at H fs s y k) refl refl (inner_count r x h) eq))
        go false o f = absurd (let z : ◌≡◌ {A = ℕ} 0 1 = cc in omega arith)
    both_said (inner r) (leaf u m) x y at mid p q z w h k e g runs = absurd (let z : ◌≡◌ {A = ℕ} 0 1 = cc in omega arith)
    both_said (leaf t l) (inner s) x y at mid p q z w h k e g runs = absurd (let z : ◌≡◌ {A = ℕ} 0 1 = cc in omega arith)
    both_said (leaf t l) (leaf u m) x y at mid p q z w h k e g runs = absurd (let z : ◌≡◌ {A = ℕ} 0 1 = cc in omega arith)
