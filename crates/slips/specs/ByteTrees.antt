-- Trees of bytes, and the slip of a tree.
use Rattle.std.specs.Prelude.{ℕ, ◌≤◌, Bool, true, List, [], ◌∷◌, ◌++◌, ◌≡◌, refl, length}
use Rattle.std.proofs.Common.{sym, subst}
use Rattle.lists.specs.Lists.{Below}
use Rattle.trees.specs.Nodes.{Node, Run, inner, leaf, nil, cons, count, size}
use Rattle.trees.specs.Rules.{max_nodes, max_bytes, count_fits, All, AllIn, NodeRules, LeafRules, WellFormed}
use Rattle.trees.specs.Rows.{Entry, node, rows, rows_in}
use Rattle.trees.proofs.StackLaws.{length_heads}
use Rattle.outcomes.specs.Refusals.{accepted}
use Rattle.codec.specs.Writing.{slip_of}
use Rattle.codec.specs.Proper.{AllProper}
use Rattle.slips.specs.Check.{check_of}
use Rattle.slips.specs.SlipTrees.{SlipOf, check_sound}
use Rattle.slips.specs.SlipTree.{slip_tree}
use Rattle.slips.specs.SlipTreeLaws.{slip_tree_lem}

proper_append : (x y : List Entry) → AllProper x → AllProper y → AllProper (x ++ y)
proper_append [] y p q = q
proper_append (e ∷ x) y p q = (p.0, proper_append x y p.1 q)

proper_front : (x y : List Entry) → AllProper (x ++ y) → AllProper x
proper_front [] y p = tt
proper_front (e ∷ x) y p = (p.0, proper_front x y p.1)

pub proper_back : (x y : List Entry) → AllProper (x ++ y) → AllProper y
proper_back [] y p = p
proper_back (e ∷ x) y p = proper_back x y p.1

module _ (H : List ℕ → List ℕ) where
  -- every value and every dangling label is bytes
  abbrev pub OfBytes : Node → Type 0
  OfBytes n = All H (λ hs. Unit {0}) (λ t v. Below 256 v) n

  abbrev OfBytesIn : Run → Type 0
  OfBytesIn r = AllIn H (λ hs. Unit {0}) (λ t v. Below 256 v) r

  mutual
    pub proper_bytes : (n : Node) → AllProper (rows n) → OfBytes n
    proper_bytes (inner r) p = (tt, proper_bytes_in r (proper_front (rows_in r) (node (count r) ∷ []) p))
    proper_bytes (leaf t v) p = p.0.bytes

    proper_bytes_in : (r : Run) → AllProper (rows_in r) → OfBytesIn r
    proper_bytes_in nil p = tt
    proper_bytes_in (cons n r) p = (proper_bytes n (proper_front (rows n) (rows_in r) p), proper_bytes_in r (proper_back (rows n) (rows_in r) p))

  module _ (composed : List ℕ → Bool) where
    mutual
      rows_proper : (n : Node) → All H NodeRules (LeafRules composed) n → OfBytes n → AllProper (rows n)
      rows_proper (inner r) k b =
          proper_append (rows_in r) (node (count r) ∷ []) (rows_in_proper r k.1 b.1)
          (record { form = subst (λ (m : ℕ). count_fits m ≡ true) (length_heads H r) k.0.children; bytes = tt }, tt)
      rows_proper (leaf t v) k b = (record { form = k.form; bytes = b }, tt)

      rows_in_proper : (r : Run) → AllIn H NodeRules (LeafRules composed) r → OfBytesIn r → AllProper (rows_in r)
      rows_in_proper nil k b = tt
      rows_in_proper (cons n r) k b = proper_append (rows n) (rows_in r) (rows_proper n k.0 b.0) (rows_in_proper r k.1 b.1)

    -- a well-formed tree of bytes has entries that a slip can hold
    pub tree_proper : (n : Node) → WellFormed H composed n → OfBytes n → AllProper (rows n)
    tree_proper n w b = rows_proper n w.fit.rules b

    -- and within the limits it has a slip
    pub tree_slip : (n : Node) → WellFormed H composed n → OfBytes n → size n ≤ max_nodes → length (slip_of (rows n)) ≤ max_bytes
        → SlipOf H composed (slip_of (rows n)) n
    tree_slip n w b few long = record { well = w; proper = tree_proper n w b; is = refl; few = few; long = long }

    -- an accepted slip of bytes is that of its tree
    pub accepted_slip : (s : List ℕ) → Below 256 s → (check_of H composed s).number ≡ accepted → SlipOf H composed s (slip_tree s)
    accepted_slip s bytes e =
        let x = check_sound H composed s bytes e in
        subst (SlipOf H composed s) (sym (slip_tree_lem H composed s x.0 x.1)) x.1
