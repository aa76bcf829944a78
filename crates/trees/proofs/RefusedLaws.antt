-- The verdict refuses with k at entry i exactly where entry i breaks rule k on the trees before it, and 9 is that of scattered trees.
use Rattle.std.specs.Prelude.{◌≡◌, Bool, true, List, [], ◌∷◌, ◌++◌, map, ℕ, ◌+◌, ◌≤◌, length}
use Rattle.std.proofs.Common.{sym, ap, ap₂, ◌∙◌, append_assoc, append-nil, add-zero, zero-add, arith, length-append, lt-ltb, le-ltb}
use Rattle.std.proofs.lemmas.List.{length-map}
use Rattle.lists.specs.Lists.{all}
use Rattle.trees.specs.Nodes.{Node, size, highest, heads, blocks}
use Rattle.outcomes.specs.Refusals.{children_missing, not_composed}
use Rattle.trees.specs.Rules.{max_height}
use Rattle.trees.specs.Rows.{Entry, node, formed, rows, kids, below, Tag, head_of, highest_of, Step, fault, faulty, left, onward, tag_of, hashed, step_of, judged, verdict, grown}
use Rattle.trees.specs.RowsLaws.{length_rows}
use Rattle.trees.proofs.StackLaws.{hashed_tags, complete}
use Rattle.trees.specs.Forest.{rows_all, last_run, blocks_all, AllFit}
use Rattle.trees.specs.Refused.{Breaks, missing, high, unsalted, wrong, Broken, Scattered}
use Rattle.trees.proofs.StackSound.{tags_below, tags_kids, Stands, verdict_sound}

module _ (H : List ℕ → List ℕ) (composed : List ℕ → Bool) where
  -- a rule that an entry can break is one of 5 to 8
  pub breaks_number : {ns : List Node} {e : Entry} {k : ℕ} → Breaks H composed ns e k → (children_missing ≤ k) × (k ≤ not_composed)
  breaks_number (missing h) = (omega arith, omega arith)
  breaks_number (high h g) = (omega arith, omega arith)
  breaks_number (unsalted h g s) = (omega arith, omega arith)
  breaks_number (wrong w) = (omega arith, omega arith)

  -- the hash step over the last c trees
  node_hashed : (ns : List Node) (c : ℕ) → c ≤ length ns
      → step_of H composed (map (tag_of H) ns) (node c) ≡ hashed H (map (tag_of H) (below c ns)) (highest (last_run c ns)) (heads H (last_run c ns))
  node_hashed ns c h =
      rw (le-ltb (length (map (tag_of H) ns)) c (omega (arith, length-map ns (tag_of H))))
      (ap₂ (λ (x y : List Tag). hashed H x (highest_of y) (map head_of y)) (tags_below H composed c ns) (tags_kids H composed c ns)
      ∙ hashed_tags H (map (tag_of H) (below c ns)) (kids c ns))

  -- an entry that breaks a rule is refused with its number
  breaks_step : (ns : List Node) {e : Entry} {k : ℕ} → Breaks H composed ns e k → step_of H composed (map (tag_of H) ns) e ≡ fault k
  breaks_step ns (missing {c = c} h) = rw (lt-ltb (length (map (tag_of H) ns)) c (omega (arith, length-map ns (tag_of H))))
  breaks_step ns (high {c = c} h g) = node_hashed ns c h ∙ rw (lt-ltb max_height (highest (last_run c ns) + 1) g)
  breaks_step ns (unsalted {c = c} h g s) = node_hashed ns c h ∙ rw (le-ltb max_height (highest (last_run c ns) + 1) g, s)
  breaks_step ns (wrong w) = rw w

  -- the rows of trees that keep the rules, on any stack and before any rest, push their tags and add their blocks
  complete_all : (ns : List Node) → AllFit H composed ns → (es : List Entry) (i : ℕ) (st : List Tag) (b : ℕ)
      → judged H composed (rows_all ns ++ es) i st b
      ≡ judged H composed es (i + length (rows_all ns)) (st ++ map (tag_of H) ns) (b + blocks_all H ns)
  complete_all [] f es i st b = rw (append-nil st, add-zero i, add-zero b)
  complete_all (n ∷ ns) f es i st b =
      let places : i + size n + length (rows_all ns) ≡ i + length (rows n ++ rows_all ns) = omega (arith, length-append (rows n) (rows_all ns), length_rows n) in
      let sums : b + blocks H n + blocks_all H ns ≡ b + (blocks H n + blocks_all H ns) = omega arith in
      ap (λ (l : List Entry). judged H composed l i st b) (append_assoc (rows n) (rows_all ns) es)
      ∙ complete H composed n f.0.low f.0.rules (rows_all ns ++ es) i st b
      ∙ complete_all ns f.1 es (i + size n) (st ++ (tag_of H n ∷ [])) (b + blocks H n)
      ∙ rw (append_assoc st (tag_of H n ∷ []) (map (tag_of H) ns), places, sums)

  -- refused at an entry, exactly where it breaks the rule on the trees before it
  pub refused_broken : (es : List Entry) (k i : ℕ) → all formed es ≡ true → verdict H composed es ≡ faulty k i → Broken H composed es k i
  refused_broken es k i form e = rw e at (verdict_sound H composed es form)

  pub broken_refused : (es : List Entry) (k i : ℕ) → Broken H composed es k i → verdict H composed es ≡ faulty k i
  broken_refused es k i x =
      ap (verdict H composed) (sym x.split)
      ∙ complete_all x.trees x.fits (x.entry ∷ x.rest) 0 [] 0
      ∙ ap (λ (s : Step). onward s (0 + length (rows_all x.trees)) (λ z c. judged H composed x.rest (0 + length (rows_all x.trees) + 1) z (0 + blocks_all H x.trees + c)))
      (breaks_step x.trees x.breaks)
      ∙ ap (faulty k) (zero-add (length (rows_all x.trees)) ∙ sym x.place)

  -- entries that leave no one tag of type 0 are scattered, and scattered entries leave none
  pub left_scattered : (es : List Entry) (st : List Tag) (b : ℕ) → all formed es ≡ true → verdict H composed es ≡ left st b
      → ((g : Tag) → st ≡ g ∷ [] → g.kind ≡ 0 → ⊥) → Scattered H composed es
  left_scattered es st b form e never =
      let s : Stands H composed es (grown es []) st b = rw e at (verdict_sound H composed es form) in
      record {
        trees = grown es [];
        exact = s.exact;
        fits = s.fits;
        other = λ n one root. never (tag_of H n) (s.tags ∙ ap (map (tag_of H)) one) root;
      }

  pub scattered_left : (es : List Entry) (x : Scattered H composed es) → verdict H composed es ≡ left (map (tag_of H) x.trees) (blocks_all H x.trees)
  scattered_left es x =
      ap (verdict H composed) (sym (append-nil (rows_all x.trees) ∙ x.exact))
      ∙ complete_all x.trees x.fits [] 0 [] 0
      ∙ ap (left (map (tag_of H) x.trees)) (zero-add (blocks_all H x.trees))
