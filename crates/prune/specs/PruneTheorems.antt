-- What document 01 says of pruning, over bytes.
use Rattle.std.specs.Prelude.{ℕ, zero, suc, ◌+◌, ◌≤◌, ◌<◌, Bool, ◌||◌, ◌≡◌, ltb, length, get_or}
use Rattle.std.proofs.Math.Bool.{true, false}
use Rattle.std.proofs.Common.{true≢false, sym, ap₂, ◌∙◌, subst, arith, length-append}
use mathlib.Core.List.{List, [], ◌∷◌, ◌++◌, map}
use Rattle.std.proofs.Math.Option.{some}
use Rattle.std.proofs.Math.Path.{refl, ap}
use borrow.Author.Tests.{eqb-true, eqb-false, le-ltb, ltb-true, ltb-false}
use Rattle.std.proofs.Math.Dec.{eqb}
use Rattle.lists.specs.Lists.{Below, same}
use Rattle.lists.specs.ListsLaws.{same_refl, same_true}
use Rattle.trees.specs.Nodes.{Node, Run, inner, label, blocks}
use Rattle.trees.specs.Rules.{label_bytes, WellFormed}
use Rattle.trees.proofs.RulesLaws.{le_all, le_size, le_well_formed}
use Rattle.trees.specs.Places.{Place, node_at, stays, Le, cut, EqualBut}
use Rattle.trees.proofs.PruneLaws.{cut_le, cut_label, cut_none, cut_agree, stays_above, equal_but_cut}
use Rattle.trees.specs.Rows.{Entry, node, tip, rows, number}
use Rattle.trees.specs.NumbersLaws.{number_inj}
use Rattle.outcomes.specs.Refusals.{accepted, no_room, bad_list}
use Rattle.tables.specs.Measure.{row_bits}
use Rattle.tables.specs.PruningList.{named, first_fault, pruned}
use Rattle.codec.specs.Writing.{entry_bits, all_bits, slip_of}
use Rattle.codec.specs.MeasureLaws.{node_long, dangling_long, pair_long, slip_bits_long, slip_bytes_long}
use Rattle.codec.specs.Proper.{AllProper}
use Rattle.tables.specs.Cells.{count_cell}
use Rattle.prune_rows.specs.Names.{InnerAt, CleanList, FaultyList}
use Rattle.prune_rows.specs.NamesLaws.{counts_of, le_listed}
use Rattle.prune_rows.specs.NamesLaws as Names
use Rattle.prune_rows.specs.PrunedLaws.{rows_pruned}
use Rattle.prune_rows.specs.Width.{width, pruned_narrow}
use Rattle.answers.specs.declared.Answer.{Answer}
use Rattle.answers.specs.Answers.{refused, taken}
use Rattle.slips.specs.Check.{check_of}
use Rattle.outcomes.specs.Outcome.{over, Output, still}
use Rattle.slips.specs.SlipTrees.{SlipOf, proper_formed, slip_rows, check_complete}
use Rattle.slips.specs.SlipTree.{slip_tree}
use Rattle.slips.specs.SlipTreeLaws.{slip_tree_lem}
use Rattle.send.specs.Sent.{sent, sent_tree}
use Rattle.slips.specs.ByteTrees.{OfBytes, proper_bytes, tree_proper, tree_slip, accepted_slip}
use Rattle.prune_tables.specs.Pruned.{pruned_of}
use Rattle.prune_tables.specs.CutLaws.{fault_none, list_clean}
use Rattle.prune.specs.Prune.{prune_of}
use Rattle.prune.specs.PruneCallLaws.{prune_accepted}

-- the bits that a slip's entries take
bits_width : (es : List Entry) → AllProper es → length (all_bits es) ≡ width es
unfolding all_bits row_bits
bits_width [] p = refl
bits_width (node k ∷ es) p = length-append (entry_bits (node k)) (all_bits es) ∙ ap₂ ◌+◌ (node_long k) (bits_width es p.1)
bits_width (tip zero v ∷ es) p =
    length-append (entry_bits (tip 0 v)) (all_bits es) ∙ ap₂ ◌+◌ (dangling_long v (eqb-true (length v) label_bytes p.0.form)) (bits_width es p.1)
bits_width (tip (suc t) v ∷ es) p = length-append (entry_bits (tip (suc t) v)) (all_bits es) ∙ ap₂ ◌+◌ (pair_long t v) (bits_width es p.1)

narrower : (x y : List Entry) → AllProper x → AllProper y → width x ≤ width y → length (slip_of x) ≤ length (slip_of y)
narrower x y p q h =
    omega (arith, slip_bytes_long x, slip_bytes_long y, slip_bits_long x, slip_bits_long y, bits_width x p, bits_width y q)

-- where a list's names are
abbrev f : List ℕ → Node → Place → Bool
f list n p = named list (number n p)

module _ (H : List ℕ → List ℕ) (composed : List ℕ → Bool) where
  -- an accepted slip and a list that keeps the rule: 11, or the slip of the pruned tree
  pub clean_sent : (s list out : List ℕ) (n : Node) → SlipOf H composed s n → CleanList n list
      → prune_of H composed s list out ≡ sent_tree H (pruned H list n) out
  clean_sent s list out n x clean =
      let good : (check_of H composed s).number ≡ accepted = ap (λ (a : Answer). a.number) (check_complete H composed s n x) in
      sym (prune_accepted H composed s list out good)
      ∙ ap₂ (λ (es : List Entry) (m : Node). pruned_of H (map count_cell es) list m out) (slip_rows H composed s n x) (slip_tree_lem H composed s n x)
      ∙ sym (list_clean H (counts_of n) list out n (omega (arith, Names.clean_list n (proper_formed (rows n) x.proper) list clean)))

  -- a slip with room for it is handed out as it is
  sent_whole : (s out : List ℕ) (n : Node) → SlipOf H composed s n → length s ≤ length out
      → sent_tree H n out ≡ record { answer = check_of H composed s; left = over s out }
  unfolding sent
  sent_whole s out n x room = rw (sym x.is, le-ltb (length out) (length s) room, check_complete H composed s n x) refl

  -- some list for which the pruner makes the slip u into the slip s
  pub record PrunesTo (u s out : List ℕ) : Type 0 where
    pub list : List ℕ
    pub outcome : prune_of H composed u list out ≡ record { answer = check_of H composed s; left = over s out }

  -- every slip of a pruning is what the pruner makes of the larger one
  pub le_prunes : (s u out : List ℕ) (a b : Node) → SlipOf H composed s a → SlipOf H composed u b → Le H a b → length s ≤ length out
      → PrunesTo u s out
  le_prunes s u out a b x y h room =
      let w = le_listed H a b (proper_formed (rows b) y.proper) h in
      record {
        list = w.list;
        outcome =
            clean_sent u w.list out b y w.clean
            ∙ ap (λ (m : Node). sent_tree H m out) w.gives
            ∙ sent_whole s out a x room;
      }

  whole : (n : Node) → pruned H [] n ≡ n
  unfolding named
  whole n = cut_none H n

  -- "An empty list returns the slip."
  pub prune_none : (s out : List ℕ) (n : Node) → SlipOf H composed s n → length s ≤ length out
      → prune_of H composed s [] out ≡ record { answer = check_of H composed s; left = over s out }
  prune_none s out n x room =
      clean_sent s [] out n x none_clean ∙ ap (λ (m : Node). sent_tree H m out) (whole n) ∙ sent_whole s out n x room
    where
      none_clean : CleanList n []
      none_clean = record { rising = λ a b h l. absurd (omega arith); inner = λ k h. absurd (omega arith) }

  -- "A name below another named node adds nothing."
  pub prune_below : (s list more out : List ℕ) (n : Node) → SlipOf H composed s n
      → CleanList n list → CleanList n more
      → (p : Place) (i : ℕ) (q : Place) (b : Node) → node_at n (p ++ (i ∷ q)) ≡ some b
      → named list (number n p) ≡ true → ((k : ℕ) → named more k ≡ (named list k || eqb (number n (p ++ (i ∷ q))) k))
      → prune_of H composed s more out ≡ prune_of H composed s list out
  prune_below s list more out n x clean clean' p i q b there over-it also =
      clean_sent s more out n x clean'
      ∙ ap (λ (m : Node). sent_tree H m out) (sym (cut_agree H (f list n) (f more n) n (λ y m at k. agree y (inner m) at k (f list n y) (eqb (number n (p ++ (i ∷ q))) (number n y)) refl refl ∙ sym (also (number n y)))))
      ∙ sym (clean_sent s list out n x clean)
    where
      agree : (y : Place) (m : Node) → node_at n y ≡ some m → stays (f list n) y ≡ true
          → (u v : Bool) → f list n y ≡ u → eqb (number n (p ++ (i ∷ q))) (number n y) ≡ v → u ≡ (u || v)
      agree y m at k true v d e = refl
      agree y m at k false false d e = refl
      agree y m at k false true d e =
          let same_place : p ++ (i ∷ q) ≡ y = number_inj n (p ++ (i ∷ q)) y b m there at (eqb-true _ _ e) in
          absurd (true≢false (sym over-it ∙ stays_above H (f list n) p i q (subst (λ (z : Place). stays (f list n) z ≡ true) (sym same_place) k)))

  -- a list of one internal node
  one_clean : (n : Node) (p : Place) (r : Run) → node_at n p ≡ some (inner r) → CleanList n (number n p ∷ [])
  one_clean n p r e = record { rising = λ a b h l. absurd (omega arith); inner = it }
    where
      it : (k : ℕ) → k < 1 → InnerAt n (get_or (number n p ∷ []) k 0)
      it zero h = record { place = p; run = r; found = e; numbered = refl }
      it (suc k) h = absurd (omega arith)

  one_name : (n : Node) (p : Place) (x : Node) → node_at n p ≡ some x → pruned H (number n p ∷ []) n ≡ cut H (same p) n
  unfolding named
  one_name n p x here = cut_agree H (f (number n p ∷ []) n) (same p) n (λ y m at k. agree y (inner m) at (eqb (number n p) (number n y)) (same p y) refl refl)
    where
      agree : (y : Place) (m : Node) → node_at n y ≡ some m → (u v : Bool) → eqb (number n p) (number n y) ≡ u → same p y ≡ v → (u || false) ≡ v
      agree y m at true true d e = refl
      agree y m at false false d e = refl
      agree y m at true false d e =
          absurd (true≢false (sym (same_refl p) ∙ ap (same p) (number_inj n p y x m here at (eqb-true _ _ d)) ∙ e))
      agree y m at false true d e = absurd (eqb-false _ _ d (ap (number n) (same_true p y e)))

  -- "Two accepted slips that are equal outside one place, and are both internal there with the same label, give equal bytes when pruned at
  -- that place alone."
  pub prune_equal_but : (s u out : List ℕ) (a b : Node) (p : Place) (r q : Run) → SlipOf H composed s a → SlipOf H composed u b
      → EqualBut a b p → node_at a p ≡ some (inner r) → node_at b p ≡ some (inner q) → label H (inner r) ≡ label H (inner q)
      → prune_of H composed s (number a p ∷ []) out ≡ prune_of H composed u (number b p ∷ []) out
  prune_equal_but s u out a b p r q x y but here there l =
      clean_sent s (number a p ∷ []) out a x (one_clean a p r here)
      ∙ ap (λ (m : Node). sent_tree H m out)
      (one_name a p (inner r) here ∙ equal_but_cut H a b p r q but here there l ∙ sym (one_name b p (inner q) there))
      ∙ sym (clean_sent u (number b p ∷ []) out b y (one_clean b p q there))

module _ (H : List ℕ → List ℕ) (composed : List ℕ → Bool) (long : (x : List ℕ) → length (H x) ≡ label_bytes) (bytes : (x : List ℕ) → Below 256 (H x)) where
  less : (list : List ℕ) (n : Node) → Le H (pruned H list n) n
  less list n = cut_le H (f list n) n

  -- the pruned tree of an accepted slip has a slip, which is never longer
  pub record PrunedSlip (s : List ℕ) (list : List ℕ) (n : Node) : Type 0 where
    pub output : SlipOf H composed (slip_of (rows (pruned H list n))) (pruned H list n)
    pub no_longer : length (slip_of (rows (pruned H list n))) ≤ length s

  pub pruned_slip : (s list : List ℕ) (n : Node) → SlipOf H composed s n → PrunedSlip s list n
  pruned_slip s list n x =
      let m : Node = pruned H list n in
      let well : WellFormed H composed m = le_well_formed H composed long m n (less list n) x.well in
      let whole : OfBytes H m = le_all H (λ hs. Unit {0}) (λ t v. Below 256 v) m n bytes (less list n) (proper_bytes H n x.proper) in
      let thin : width (rows m) ≤ width (rows n) =
      subst (λ (es : List Entry). width es ≤ width (rows n)) (sym (rows_pruned H list n)) (pruned_narrow H composed (named list) 0 n x.well.fit.rules) in
      let short : length (slip_of (rows m)) ≤ length s =
      subst (λ (u : List ℕ). length (slip_of (rows m)) ≤ length u) (sym x.is)
      (narrower (rows m) (rows n) (tree_proper H composed m well whole) x.proper thin) in
      record {
        output = tree_slip H composed m well whole (omega (arith, le_size H m n (less list n), x.few)) (omega (arith, short, x.long));
        no_longer = short;
      }

  -- what an accepted pruning of the slip of n has answered and written
  pub record PrunedFrom (s list out : List ℕ) (n : Node) : Type 0 where
    pub slip : SlipOf H composed s n
    pub tree : PrunedSlip s list n
    pub clean : CleanList n list
    pub outcome :
        prune_of H composed s list out
        ≡ record {
          answer = taken (length (slip_of (rows (pruned H list n)))) (blocks H (pruned H list n)) (label H n);
          left = over (slip_of (rows (pruned H list n))) out;
        }

  abbrev pub PrunedAs : List ℕ → List ℕ → List ℕ → Type 0
  PrunedAs s list out = PrunedFrom s list out (slip_tree s)

  -- how the pruning of a slip by a list goes: refused as the slip is, by 12 at the first faulty index, by 11, or the slip of the tree cut at the
  -- internal nodes that the list names, with that slip's length and blocks and the same label
  pub data Goes (s list out : List ℕ) : Type 0 where
    slip : ((check_of H composed s).number ≡ accepted → ⊥) → prune_of H composed s list out ≡ still (check_of H composed s) out → Goes s list out
    faulty :
        (n : Node)
        → SlipOf H composed s n
        → (k : ℕ)
        → FaultyList n list k
        → prune_of H composed s list out ≡ still (refused bad_list k) out
        → Goes s list out
    roomless :
        (n : Node)
        → SlipOf H composed s n
        → CleanList n list
        → length out < length (slip_of (rows (pruned H list n)))
        → prune_of H composed s list out ≡ still (refused no_room 0) out
        → Goes s list out
    prunes : (n : Node) → PrunedFrom s list out n → Goes s list out

  module _ (s list out : List ℕ) where
    by_room : (n : Node) → SlipOf H composed s n → CleanList n list → prune_of H composed s list out ≡ sent_tree H (pruned H list n) out
        → (t : Bool) → ltb (length out) (length (slip_of (rows (pruned H list n)))) ≡ t → Goes s list out
    unfolding sent
    by_room n x c e true t = roomless n x c (ltb-true _ _ t) (e ∙ rw t)
    by_room n x c e false t =
        let m : Node = pruned H list n in
        prunes n
        (record {
          slip = x;
          tree = pruned_slip s list n x;
          clean = c;
          outcome =
              e
              ∙ rw t
              (ap (λ (l : List ℕ). record { answer = taken (length (slip_of (rows m))) (blocks H m) l; left = over (slip_of (rows m)) out }) (cut_label H (f list n) n));
        })

    by_list : (n : Node) → SlipOf H composed s n → prune_of H composed s list out ≡ pruned_of H (counts_of n) list n out
        → (t : Bool) → ltb (first_fault (counts_of n) 0 0 list) (length list) ≡ t → Goes s list out
    unfolding pruned_of
    by_list n x e true t =
        faulty n x (first_fault (counts_of n) 0 0 list) (Names.list_faulty n (proper_formed (rows n) x.proper) list _ (ltb-true _ _ t) refl) (e ∙ rw t)
    by_list n x e false t =
        by_room n x (Names.list_clean n (proper_formed (rows n) x.proper) list (fault_none (counts_of n) list (ltb-false _ _ t))) (e ∙ rw t) _ refl

    by_check : Below 256 s → (t : Bool) → eqb (check_of H composed s).number accepted ≡ t → Goes s list out
    unfolding prune_of
    by_check below false t = slip (eqb-false _ _ t) (rw t)
    by_check below true t =
        let x = accepted_slip H composed s below (eqb-true _ _ t) in
        by_list (slip_tree s) x
        (rw t (ap (λ (es : List Entry). pruned_of H (map count_cell es) list (slip_tree s) out) (slip_rows H composed s (slip_tree s) x))) _ refl

    pub prune_goes : Below 256 s → Goes s list out
    prune_goes below = by_check below _ refl

  -- "Pruning keeps the root label, and replaces each chosen subtree by its label only": the slip of the tree cut at the named nodes
  pub prune_told : (s list out : List ℕ) → Below 256 s → (prune_of H composed s list out).answer.number ≡ accepted → PrunedAs s list out
  prune_told s list out below e = go (prune_goes s list out below)
    where
      number_is : (p : Output Answer) → prune_of H composed s list out ≡ p → p.answer.number ≡ accepted
      number_is p d = ap (λ (q : Output Answer). q.answer.number) (sym d) ∙ e

      go : Goes s list out → PrunedAs s list out
      go (slip bad d) = absurd (bad (number_is _ d))
      go (faulty n x k h d) = absurd (omega (arith, number_is _ d))
      go (roomless n x c h d) = absurd (omega (arith, number_is _ d))
      go (prunes n p) = subst (PrunedFrom s list out) (sym (slip_tree_lem H composed s n p.slip)) p

  -- the slip written checks, with the length, blocks and label reported
  pub prune_checks : (s list out : List ℕ) → Below 256 s → (prune_of H composed s list out).answer.number ≡ accepted
      → check_of H composed (slip_of (rows (pruned H list (slip_tree s)))) ≡ (prune_of H composed s list out).answer
  prune_checks s list out below e =
      let x = prune_told s list out below e in
      let m : Node = pruned H list (slip_tree s) in
      check_complete H composed (slip_of (rows m)) m x.tree.output
      ∙ ap (taken (length (slip_of (rows m))) (blocks H m)) (cut_label H (f list (slip_tree s)) (slip_tree s))
      ∙ sym (ap (λ (p : Output Answer). p.answer) x.outcome)
