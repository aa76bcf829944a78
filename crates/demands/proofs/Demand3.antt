-- Demand 3 over bytes: "Two libraries start from the same root label with nothing disclosed. The same set of well-formed slips with that
-- root reaches each at least once, repeated and in its own order; every other arrival is malformed or has another root. If neither answers
-- that a slip doesn't fit, then either both hold the same bytes, disclosing exactly what some slip with that root discloses at each place,
-- or each has been shown two different texts with one hash."
use Rattle.std.specs.Prelude.{ℕ, ◌≤◌, Bool, true, false, List, ◌⊎◌, ◌≡◌, length}
use Rattle.std.proofs.Common.{true≢false, inl, inr, sym, ap, ◌∙◌, subst, subst₂}
use Rattle.lists.specs.TestsLaws.{refuted}
use Rattle.lists.specs.Lists.{Below}
use Rattle.trees.specs.Nodes.{Node}
use Rattle.trees.specs.Rules.{label_bytes}
use Rattle.trees.specs.Places.{Le, tells}
use Rattle.trees.specs.Join.{Collision}
use Rattle.trees.specs.Ends.{bare, Got, Agree, WasShown}
use Rattle.trees.specs.Ends as Ends
use Rattle.trees.proofs.Demand3 as Trees
use Rattle.trees.specs.Rows.{rows, number}
use Rattle.codec.specs.Writing.{slip_of}
use Rattle.sha256.specs.Sha256 as Sha256
use Rattle.titles.specs.Compose.{composed_text}
use Rattle.answers.specs.declared.Answer.{Answer}
use Rattle.slips.specs.SlipTrees.{check_complete}
use Rattle.slips.specs.SlipTree.{slip_tree}
use Rattle.slips.specs.SlipTreeLaws.{slip_tree_lem}
use Rattle.prune.specs.PruneTheorems.{PrunesTo, le_prunes}
use Rattle.answers.specs.Answers.{clashed}
use Rattle.demands.specs.Library.{Arrival, start, Reached, misfits, clashes, ever, Ours, copy, Shown, Same}
use Rattle.demands.proofs.LibraryLaws.{ever_there, read, fits, Stands, stepped, stands_bare, stands_run, misfit_run, clash_run, read_ours, read_roots, got_from, got_reached}

module _ (H : List ℕ → List ℕ) (composed : List ℕ → Bool) (l : List ℕ) (long : length l ≡ label_bytes) (bytes : Below 256 l) where
  -- every slip with the root label l that reached the one reached the other
  abbrev pub Reaches : List Arrival → List Arrival → Type 0
  Reaches xs ys = (s : List ℕ) → Ours H composed l s → Reached xs s → Reached ys s

  abbrev tree_held : List Arrival → Node
  tree_held xs = Ends.copy H (read H composed l) (fits H composed l) l xs

  bare_held : Stands H composed l (start l) (bare l)
  bare_held = stands_bare H composed l long bytes

  copy_stands : (xs : List Arrival) → Stands H composed l (copy H composed l xs) (tree_held xs)
  copy_stands xs = stands_run H composed l xs (start l) (bare l) bare_held

  copy_tree : (xs : List Arrival) → slip_tree (copy H composed l xs) ≡ tree_held xs
  copy_tree xs = slip_tree_lem H composed (copy H composed l xs) (tree_held xs) (copy_stands xs).slip

  copy_ours : (xs : List Arrival) → Ours H composed l (copy H composed l xs)
  copy_ours xs =
      let st = copy_stands xs in
      let c = check_complete H composed (copy H composed l xs) (tree_held xs) st.slip in
      record { good = ap (λ (a : Answer). a.number) c; root = ap (λ (a : Answer). a.label) c ∙ st.root }

  got : (xs ys : List Arrival) → Reaches xs ys → (t : Node) → Got (read H composed l) xs t → Got (read H composed l) ys t
  got xs ys to t g =
      let x = got_from H composed l xs t g in
      subst (Got (read H composed l) ys) x.tree (got_reached H composed l ys x.slip (to x.slip x.our x.reached) x.our)

  fitted : (xs : List Arrival) → ever H composed misfits (start l) xs ≡ false
      → Ends.did_not_fit H (read H composed l) (fits H composed l) l xs ≡ false
  fitted xs e = refuted _ (λ d. true≢false (sym (misfit_run H composed l xs (start l) (bare l) bare_held d) ∙ e))

  unshown : (xs : List Arrival) → ever H composed clashes (start l) xs ≡ false
      → Ends.answered14 H (read H composed l) (fits H composed l) l xs ≡ false
  unshown xs e = refuted _ (λ d. true≢false (sym (clash_run H composed l xs (start l) (bare l) bare_held d) ∙ e))

  same_bytes : (xs ys : List Arrival) → Agree H (read H composed l) (fits H composed l) l xs ys → Same H composed l xs ys
  same_bytes xs ys a =
      record {
        equal = (copy_stands xs).slip.is ∙ ap (λ (n : Node). slip_of (rows n)) a.equal ∙ sym (copy_stands ys).slip.is;
        good = copy_ours xs;
        known = λ p x e.
            let m = a.exactly.known p x (ap (λ (n : Node). tells H n p) (sym (copy_tree xs)) ∙ e) in
            let f = got_from H composed l xs m.0 m.1 in
            record { slip = f.slip; reached = f.reached; ours = f.our; here = ap (λ (n : Node). tells H n p) f.tree ∙ m.2 };
        told = λ p x m.
            ap (λ (n : Node). tells H n p) (copy_tree xs)
            ∙ a.exactly.kept p x (slip_tree m.slip, got_reached H composed l xs m.slip m.reached m.ours, m.here);
      }

  shown_bytes : (xs : List Arrival) → WasShown H (read H composed l) (fits H composed l) l xs → Shown H composed l xs
  shown_bytes xs w =
      let f = got_from H composed l w.before w.first w.got_first in
      let o = read_ours H composed l w.arrival w.second w.got_second in
      let t : slip_tree (copy H composed l w.before) ≡ tree_held w.before = copy_tree w.before in
      record {
        before = w.before;
        arrival = w.arrival;
        behind = w.behind;
        split = w.split;
        place = w.place;
        answered =
            (stepped H composed l (copy H composed l w.before) (tree_held w.before) w.arrival (copy_stands w.before)).clash_said w.place w.answered
            ∙ ap (λ (n : Node). clashed (number n w.place) (number (slip_tree w.arrival.slip) w.place)) (sym t);
        earlier = f.slip;
        reached = f.reached;
        ours_earlier = f.our;
        ours = o.0;
        held = ap (λ (n : Node). tells H n w.place) t ∙ w.held ∙ ap (λ (n : Node). tells H n w.place) (sym f.tree);
        collision = subst₂ (λ (n m : Node). Collision H (tells H n w.place) (tells H m w.place)) (sym f.tree) (sym o.1) w.collision;
      }

  -- a library that was shown two texts has answered 14
  pub shown_14 : (xs : List Arrival) → Shown H composed l xs → ever H composed clashes (start l) xs ≡ true
  shown_14 xs w =
      ap (ever H composed clashes (start l)) w.split
      ∙ ever_there H composed clashes w.before (start l) w.arrival w.behind (ap (λ (a : Answer). clashes a.number) w.answered)

  pub demand_3 : (xs ys : List Arrival) → Reaches xs ys → Reaches ys xs
      → ever H composed misfits (start l) xs ≡ false → ever H composed misfits (start l) ys ≡ false
      → Same H composed l xs ys ⊎ (Shown H composed l xs × Shown H composed l ys)
  demand_3 xs ys to from e f =
      go (Trees.demand_3 H (read H composed l) (fits H composed l) l (read_roots H composed l) xs ys (got xs ys to) (got ys xs from) (fitted xs e) (fitted ys f))
    where
      go : Agree H (read H composed l) (fits H composed l) l xs ys
          ⊎ (WasShown H (read H composed l) (fits H composed l) l xs × WasShown H (read H composed l) (fits H composed l) l ys)
          → Same H composed l xs ys ⊎ (Shown H composed l xs × Shown H composed l ys)
      go (inl a) = inl (same_bytes xs ys a)
      go (inr w) = inr (shown_bytes xs w.0, shown_bytes ys w.1)

  -- "Where slips are lost and an end has answered none of 11, 14 and 15, its copy is a pruning of the copy of an end that got all of them and
  -- answered none of these": here whatever the first end answered
  pub lost : (xs ys : List Arrival) → Reaches xs ys → ever H composed misfits (start l) ys ≡ false → ever H composed clashes (start l) ys ≡ false
      → Le H (slip_tree (copy H composed l xs)) (slip_tree (copy H composed l ys))
  lost xs ys to e f =
      subst₂ (Le H) (sym (copy_tree xs)) (sym (copy_tree ys))
      (Trees.lost H (read H composed l) (fits H composed l) l (read_roots H composed l) xs ys (got xs ys to) (unshown ys f) (fitted ys e))

  -- so the pruner makes the smaller copy of the larger: by some list, with room for it, it writes exactly its bytes and answers what they check as
  pub lost_prunes : (xs ys : List Arrival) → Reaches xs ys
      → ever H composed misfits (start l) ys ≡ false → ever H composed clashes (start l) ys ≡ false
      → (out : List ℕ) → length (copy H composed l xs) ≤ length out → PrunesTo H composed (copy H composed l ys) (copy H composed l xs) out
  lost_prunes xs ys to e f out room =
      le_prunes H composed (copy H composed l xs) (copy H composed l ys) out (tree_held xs) (tree_held ys) (copy_stands xs).slip (copy_stands ys).slip
      (Trees.lost H (read H composed l) (fits H composed l) l (read_roots H composed l) xs ys (got xs ys to) (unshown ys f) (fitted ys e)) room

-- the same with SHA-256 and composed text, as the join's contract has them
module _ (l : List ℕ) (long : length l ≡ label_bytes) (bytes : Below 256 l) where
  pub demand_3_sha256 : (xs ys : List Arrival) → Reaches Sha256.label composed_text l long bytes xs ys → Reaches Sha256.label composed_text l long bytes ys xs
      → ever Sha256.label composed_text misfits (start l) xs ≡ false → ever Sha256.label composed_text misfits (start l) ys ≡ false
      → Same Sha256.label composed_text l xs ys ⊎ (Shown Sha256.label composed_text l xs × Shown Sha256.label composed_text l ys)
  demand_3_sha256 = demand_3 Sha256.label composed_text l long bytes

  pub lost_sha256 : (xs ys : List Arrival) → Reaches Sha256.label composed_text l long bytes xs ys
      → ever Sha256.label composed_text misfits (start l) ys ≡ false → ever Sha256.label composed_text clashes (start l) ys ≡ false
      → Le Sha256.label (slip_tree (copy Sha256.label composed_text l xs)) (slip_tree (copy Sha256.label composed_text l ys))
  lost_sha256 = lost Sha256.label composed_text l long bytes

  pub lost_prunes_sha256 : (xs ys : List Arrival) → Reaches Sha256.label composed_text l long bytes xs ys
      → ever Sha256.label composed_text misfits (start l) ys ≡ false → ever Sha256.label composed_text clashes (start l) ys ≡ false
      → (out : List ℕ) → length (copy Sha256.label composed_text l xs) ≤ length out
      → PrunesTo Sha256.label composed_text (copy Sha256.label composed_text l ys) (copy Sha256.label composed_text l xs) out
  lost_prunes_sha256 = lost_prunes Sha256.label composed_text l long bytes
