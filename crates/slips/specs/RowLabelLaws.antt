-- The labels that the engine leaves are those of the tree's nodes, row by row.
use Rattle.std.specs.Prelude.{ℕ, ◌*◌, ◌≤◌, ◌<◌, Bool, ◌≡◌, take, drop}
use mathlib.Core.List.{List, [], ◌∷◌, ◌++◌, map, append_assoc, append-nil}
use Rattle.std.proofs.Common.{sym, ◌∙◌, arith}
use Rattle.std.proofs.Math.Path.{ap}
use Rattle.std.proofs.Math.ListN.{length, get_or}
use Rattle.trees.specs.Nodes.{Node, Run, inner, leaf, nil, cons, count, height, highest, label}
use Rattle.trees.specs.Rules.{max_height, label_bytes, All, AllIn, NodeRules, LeafRules, WellFormed}
use Rattle.trees.specs.Rows.{Entry, node, rows, rows_in, Tag, Step, tag_of}
use Rattle.trees.specs.RowsLaws.{nodes_of}
use Rattle.trees.specs.RowLabels.{labels_of, labels_in}
use Rattle.trees.proofs.StackLaws.{node_step}
use Rattle.engine.specs.Engine.{top_of, tops, RowsLabelled}
use Rattle.engine.proofs.Noting.{last_is}

module _ (H : List ℕ → List ℕ) (composed : List ℕ → Bool) where
  mutual
    tops_rows : (n : Node) → height n ≤ max_height → All H NodeRules (LeafRules composed) n → (es : List Entry) (st : List Tag)
        → tops H composed st (rows n ++ es) ≡ labels_of H n ++ tops H composed (st ++ (tag_of H n ∷ [])) es
    tops_rows (inner r) low k es st =
        ap (tops H composed st) (append_assoc (rows_in r) (node (count r) ∷ []) es)
        ∙ tops_rows_in r (omega arith) k.1 (node (count r) ∷ es) st
        ∙ ap (λ (s : Step). labels_in H r ++ top_of s (λ z. tops H composed z es)) (node_step H composed st r low k.0.salt)
        ∙ ap (λ (l : List ℕ). labels_in H r ++ (l ∷ tops H composed (st ++ (tag_of H (inner r) ∷ [])) es)) (last_is st (tag_of H (inner r)))
        ∙ sym (append_assoc (labels_in H r) (label H (inner r) ∷ []) (tops H composed (st ++ (tag_of H (inner r) ∷ [])) es))
    tops_rows (leaf t v) low k es st =
        rw k.words
        (ap (λ (l : List ℕ). l ∷ tops H composed (st ++ (tag_of H (leaf t v) ∷ [])) es) (last_is st (tag_of H (leaf t v))))

    tops_rows_in : (r : Run) → highest r ≤ max_height → AllIn H NodeRules (LeafRules composed) r → (es : List Entry) (st : List Tag)
        → tops H composed st (rows_in r ++ es) ≡ labels_in H r ++ tops H composed (st ++ map (tag_of H) (nodes_of r)) es
    tops_rows_in nil low k es st = ap (λ (z : List Tag). tops H composed z es) (sym (append-nil st))
    tops_rows_in (cons n r) low k es st =
        ap (tops H composed st) (append_assoc (rows n) (rows_in r) es)
        ∙ tops_rows n (omega arith) k.0 (rows_in r ++ es) st
        ∙ ap (λ (l : List (List ℕ)). labels_of H n ++ l) (tops_rows_in r (omega arith) k.1 es (st ++ (tag_of H n ∷ [])))
        ∙ sym (append_assoc (labels_of H n) (labels_in H r) (tops H composed ((st ++ (tag_of H n ∷ [])) ++ map (tag_of H) (nodes_of r)) es))
        ∙ ap (λ (z : List Tag). (labels_of H n ++ labels_in H r) ++ tops H composed z es)
        (append_assoc st (tag_of H n ∷ []) (map (tag_of H) (nodes_of r)))

  pub tops_tree : (n : Node) → WellFormed H composed n → tops H composed [] (rows n) ≡ labels_of H n
  tops_tree n w =
      ap (tops H composed []) (sym (append-nil (rows n)))
      ∙ tops_rows n w.fit.low w.fit.rules [] []
      ∙ append-nil (labels_of H n)

  -- each internal row's 32 bytes in the area are its node's label: what a table that holds a tree is asked for
  pub labelled_tree : (n : Node) (counts area : List ℕ) → WellFormed H composed n → RowsLabelled H composed (rows n) counts area
      → (k : ℕ) → k < length (labels_of H n) → 0 < get_or counts k 0 → take label_bytes (drop (label_bytes * k) area) ≡ get_or (labels_of H n) k []
  unfolding RowsLabelled
  labelled_tree n counts area w l k here inner-row =
      let e = tops_tree n w in
      let there : k < length (tops H composed [] (rows n)) = omega (arith, ap length e) in
      l k there inner-row ∙ ap (λ (x : List (List ℕ)). get_or x k []) e
