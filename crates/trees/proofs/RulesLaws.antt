-- The join keeps every rule that both inputs keep, and a pruning keeps the rules of a well-formed tree.
use Rattle.std.specs.Prelude.{◌≡◌, refl, Bool, true, false, cond, List, [], ℕ, ◌≤◌, max, length}
use Rattle.std.proofs.Common.{sym, ◌∙◌, subst, subst₂, arith, eq-eqb}
use Rattle.lists.specs.Lists.{same}
use Rattle.lists.specs.ListsLaws.{same_true}
use Rattle.trees.specs.Nodes.{Node, Run, inner, leaf, nil, cons, Head, prelabel, label, heads, height, highest, size, sizes}
use Rattle.trees.proofs.NodesLaws.{prelabel_inj}
use Rattle.trees.specs.Rules.{All, AllIn, label_bytes, NodeRules, LeafRules, WellFormed}
use Rattle.trees.specs.Places.{Le, LeIn}
use Rattle.trees.proofs.OrderLaws.{le_heads, le_type}
use Rattle.trees.specs.Join.{Joint, ok, clash, JointRun, ok_run, clash_at, wrap, both, join, join_run, Alike}
use Rattle.trees.proofs.JoinLaws.{GoodRun, join_run_good, join_ok}

-- where there is a joined tree, it has the property
abbrev pub On : (Node → Type 0) → Joint → Type 0
On P (ok c) = P c
On P (clash p) = Unit {0}

-- the same of a run
abbrev pub OnRun : (Run → Type 0) → JointRun → Type 0
OnRun P (ok_run t) = P t
OnRun P (clash_at i p) = Unit {0}

module _ (H : List ℕ → List ℕ) (P : List Head → Type 0) (Q : ℕ → List ℕ → Type 0) where
  wrap_all : (r s : Run) (k : JointRun) → P (heads H r) → GoodRun H r s k → OnRun (AllIn H P Q) k → On (All H P Q) (wrap k)
  wrap_all r s (ok_run t) p g h = (subst P (le_heads H r t g.left) p, h)
  wrap_all r s (clash_at i q) p g h = tt

  both_all : (j : Joint) (k : JointRun) → On (All H P Q) j → OnRun (AllIn H P Q) k → OnRun (AllIn H P Q) (both j k)
  both_all (ok c) (ok_run t) f g = (f, g)
  both_all (ok c) (clash_at i p) f g = tt
  both_all (clash p) k f g = tt

  gate_all : (r s : Run) (b : Bool) → same (prelabel (heads H r)) (prelabel (heads H s)) ≡ b → P (heads H r)
      → (heads H r ≡ heads H s → OnRun (AllIn H P Q) (join_run H r s)) → On (All H P Q) (cond b (wrap (join_run H r s)) (clash []))
  gate_all r s true e p g =
      let q : heads H r ≡ heads H s = prelabel_inj (heads H r) (heads H s) (same_true (prelabel (heads H r)) (prelabel (heads H s)) e) in
      wrap_all r s (join_run H r s) p (join_run_good H r s q) (g q)
  gate_all r s false e p g = tt

  -- any rule on the heads of internal nodes and on the leaves
  mutual
    pub join_all : (a b : Node) → All H P Q a → All H P Q b → On (All H P Q) (join H a b)
    join_all (inner r) (inner s) h k =
        gate_all r s (same (prelabel (heads H r)) (prelabel (heads H s))) refl h.0 (λ e. join_run_all r s h.1 k.1)
    join_all (inner r) (leaf u m) h k = h
    join_all (leaf t l) (inner s) h k = k
    join_all (leaf t l) (leaf u m) h k = h

    pub join_run_all : (r s : Run) → AllIn H P Q r → AllIn H P Q s → OnRun (AllIn H P Q) (join_run H r s)
    join_run_all nil s h k = k
    join_run_all (cons n r) nil h k = h
    join_run_all (cons n r) (cons m s) h k =
        both_all (join H n m) (join_run H r s) (join_all n m h.0 k.0) (join_run_all r s h.1 k.1)

  -- a pruning has the rule too, where every dangling label that pruning makes keeps the leaves' rule
  mutual
    pub le_all : (a b : Node) → ((x : List ℕ) → Q 0 (H x)) → Le H a b → All H P Q b → All H P Q a
    le_all (inner r) (inner s) q h k = (subst P (sym (le_heads H r s h)) k.0, le_in_all r s q h k.1)
    le_all (inner r) (leaf u m) q h k = absurd h
    le_all (leaf t l) (inner s) q h k = subst₂ Q (sym h.0) (sym h.1) (q (prelabel (heads H s)))
    le_all (leaf t l) (leaf u m) q h k = subst₂ Q (sym h.0) (sym h.1) k

    pub le_in_all : (r s : Run) → ((x : List ℕ) → Q 0 (H x)) → LeIn H r s → AllIn H P Q s → AllIn H P Q r
    le_in_all nil s q h k = tt
    le_in_all (cons n r) nil q h k = absurd h
    le_in_all (cons n r) (cons m s) q h k = (le_all n m q h.0 k.0, le_in_all r s q h.1 k.1)

module _ (H : List ℕ → List ℕ) where
  gate_height : (r s : Run) (b : Bool) (k : JointRun) → OnRun (λ t. highest t ≤ max (highest r) (highest s)) k
      → On (λ c. height c ≤ max (height (inner r)) (height (inner s))) (cond b (wrap k) (clash []))
  gate_height r s true (ok_run t) h = omega arith
  gate_height r s true (clash_at i p) h = tt
  gate_height r s false k h = tt

  both_height : (n m : Node) (r s : Run) (j : Joint) (k : JointRun) → On (λ c. height c ≤ max (height n) (height m)) j
      → OnRun (λ t. highest t ≤ max (highest r) (highest s)) k
      → OnRun (λ t. highest t ≤ max (highest (cons n r)) (highest (cons m s))) (both j k)
  both_height n m r s (ok c) (ok_run t) f g = omega arith
  both_height n m r s (ok c) (clash_at i p) f g = tt
  both_height n m r s (clash p) k f g = tt

  -- a join is no higher than the higher of the two
  mutual
    pub join_height : (a b : Node) → On (λ c. height c ≤ max (height a) (height b)) (join H a b)
    join_height (inner r) (inner s) =
        gate_height r s (same (prelabel (heads H r)) (prelabel (heads H s))) (join_run H r s) (join_run_height r s)
    join_height (inner r) (leaf u m) = omega arith
    join_height (leaf t l) (inner s) = omega arith
    join_height (leaf t l) (leaf u m) = omega arith

    pub join_run_height : (r s : Run) → OnRun (λ t. highest t ≤ max (highest r) (highest s)) (join_run H r s)
    join_run_height nil s = omega arith
    join_run_height (cons n r) nil = omega arith
    join_run_height (cons n r) (cons m s) = both_height n m r s (join H n m) (join_run H r s) (join_height n m) (join_run_height r s)

  -- a pruning is no higher
  mutual
    pub le_height : (a b : Node) → Le H a b → height a ≤ height b
    le_height (inner r) (inner s) h = let k : highest r ≤ highest s = le_in_height r s h in omega arith
    le_height (inner r) (leaf u m) h = absurd h
    le_height (leaf t l) (inner s) h = omega arith
    le_height (leaf t l) (leaf u m) h = omega arith

    pub le_in_height : (r s : Run) → LeIn H r s → highest r ≤ highest s
    le_in_height nil s h = omega arith
    le_in_height (cons n r) nil h = absurd h
    le_in_height (cons n r) (cons m s) h =
        let f : height n ≤ height m = le_height n m h.0 in
        let g : highest r ≤ highest s = le_in_height r s h.1 in
        omega arith

  -- a pruning has no more nodes
  mutual
    pub le_size : (a b : Node) → Le H a b → size a ≤ size b
    le_size (inner r) (inner s) h = let k : sizes r ≤ sizes s = le_in_size r s h in omega arith
    le_size (inner r) (leaf u m) h = absurd h
    le_size (leaf t l) (inner s) h = omega arith
    le_size (leaf t l) (leaf u m) h = omega arith

    pub le_in_size : (r s : Run) → LeIn H r s → sizes r ≤ sizes s
    le_in_size nil s h = omega arith
    le_in_size (cons n r) nil h = absurd h
    le_in_size (cons n r) (cons m s) h =
        let f : size n ≤ size m = le_size n m h.0 in
        let g : sizes r ≤ sizes s = le_in_size r s h.1 in
        omega arith

-- a dangling label of 32 bytes keeps the leaves' rules
pub dangling_rules : (composed : List ℕ → Bool) (x : List ℕ) → length x ≡ label_bytes → LeafRules composed 0 x
dangling_rules composed x e = record { form = eq-eqb (length x) label_bytes e; words = refl }

module _ (H : List ℕ → List ℕ) (composed : List ℕ → Bool) where
  -- the join of two well-formed trees with one root label is well-formed
  pub join_well_formed : (a b c : Node) → WellFormed H composed a → WellFormed H composed b → label H a ≡ label H b → join H a b ≡ ok c
      → WellFormed H composed c
  join_well_formed a b c f g l e =
      let like : Alike H a b = record { types = f.root ∙ sym g.root; labels = l } in
      let low : height c ≤ max (height a) (height b) = subst (On (λ c. height c ≤ max (height a) (height b))) e (join_height H a b) in
      let kept : On (All H NodeRules (LeafRules composed)) (join H a b) =
      join_all H NodeRules (LeafRules composed) a b f.fit.rules g.fit.rules in
      record {
        root = sym (le_type H a c (join_ok H a b c like e).left) ∙ f.root;
        fit = record { low = omega (arith, f.fit.low, g.fit.low); rules = subst (On (All H NodeRules (LeafRules composed))) e kept };
      }

  -- "its label is 32 bytes": where H gives 32 bytes, a pruning of a well-formed tree is well-formed
  pub le_well_formed : ((x : List ℕ) → length (H x) ≡ label_bytes) → (a b : Node) → Le H a b → WellFormed H composed b → WellFormed H composed a
  le_well_formed long a b h f =
      let low : height a ≤ height b = le_height H a b h in
      record {
        root = le_type H a b h ∙ f.root;
        fit = record {
          low = omega (arith, f.fit.low);
          rules = le_all H NodeRules (LeafRules composed) a b (λ x. dangling_rules composed (H x) (long x)) h f.fit.rules;
        };
      }
