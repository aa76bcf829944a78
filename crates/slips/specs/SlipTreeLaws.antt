-- An accepted slip reads as its tree.
use Rattle.std.specs.Prelude.{ℕ, Bool, true, false, List, [], ◌∷◌, ◌≡◌, refl, eqb, length, drop}
use Rattle.std.proofs.Math.Path.{sym, ap}
use Rattle.std.proofs.Common.{◌∙◌, subst}
use borrow.Author.Tests.{eq-eqb, eqb-true, eqb-false}
use Rattle.bits.specs.Bits.{bits_of}
use Rattle.lists.specs.ListsLaws.{below_drop}
use Rattle.bits.specs.ByteLaws.{below_bits_of}
use Rattle.trees.specs.Nodes.{Node, type_of, label, blocks}
use Rattle.trees.specs.Rules.{WellFormed}
use Rattle.trees.specs.Rows.{rows, tag_of, left, verdict}
use Rattle.trees.specs.RowsLaws.{grown_tree}
use Rattle.trees.proofs.StackLaws.{complete_tree}
use Rattle.trees.proofs.StackSound.{sound_one, built_well_formed}
use Rattle.outcomes.specs.Refusals.{accepted}
use Rattle.codec.specs.Reading.{Reading}
use Rattle.tables.specs.Limits.{header_bits}
use Rattle.codec.specs.RoundTrip.{read_all_was}
use Rattle.answers.specs.declared.Answer.{Answer}
use Rattle.answers.specs.Answers.{taken}
use Rattle.slips.specs.SlipTree.{first_tree, tree_of, slip_tree}
use Rattle.slips.specs.Check.{count_of, reading_of, padding_fits, settled, header_of, body_of, check_of}
use Rattle.slips.specs.HeaderLaws.{check_refused, check_body}
use Rattle.slips.specs.Verdicts.{verdict_refuses}
use Rattle.slips.specs.SlipTrees.{settled_told_by, proper_formed, SlipOf, slip_rows}

pub tree_rows : (n : Node) → tree_of (rows n) ≡ n
tree_rows n = ap first_tree (grown_tree n)

module _ (H : List ℕ → List ℕ) (composed : List ℕ → Bool) where
  -- the bytes s behind a header that is taken read as the well-formed tree n, and are accepted with its blocks and label
  pub record ReadsAs (s : List ℕ) (n : Node) : Type 0 where
    pub rows_are : (reading_of s).rows ≡ rows n
    pub well : WellFormed H composed n
    pub answer : body_of H composed s ≡ taken (length s) (blocks H n) (label H n)

  settles : (k : ℕ) (r : Reading) (n : Node) → r.whole ≡ true → padding_fits r.rest ≡ true → type_of n ≡ 0
      → settled k r (left (tag_of H n ∷ []) (blocks H n)) ≡ taken k (blocks H n) (label H n)
  unfolding settled
  settles k r n w p root = rw (w, eq-eqb (type_of n) 0 root, p)

  reads : (s : List ℕ) → (body_of H composed s).number ≡ accepted → (n : Node) × ReadsAs s n
  unfolding body_of
  reads s e =
      let r : Reading = reading_of s in
      let t = settled_told_by (length s) r (verdict H composed r.rows) (verdict_refuses H composed r.rows) e in
      let was = read_all_was (count_of s) (drop header_bits (bits_of s)) (below_drop 2 header_bits (bits_of s) (below_bits_of s)) in
      let built = sound_one H composed r.rows t.root t.compressed (proper_formed r.rows was.proper) t.verdict_is in
      let n : Node = built.tree in
      let well = built_well_formed H composed r.rows t.root t.compressed built t.kind in
      let exact : r.rows ≡ rows n = sym built.exact in
      let said : verdict H composed r.rows ≡ left (tag_of H n ∷ []) (blocks H n) = ap (verdict H composed) exact ∙ complete_tree H composed n well in (
        n,
        record {
          rows_are = exact;
          well = well;
          answer = ap (settled (length s) r) said ∙ settles (length s) r n t.whole t.padding well.root;
        },
      )

  -- an accepted slip reads as its tree
  pub body_tree : (s : List ℕ) → (body_of H composed s).number ≡ accepted → ReadsAs s (slip_tree s)
  body_tree s e =
      let x = reads s e in
      subst (ReadsAs s) (sym (tree_rows x.0) ∙ ap tree_of (sym x.1.rows_are)) x.1

  pub record AcceptedSlip (s : List ℕ) : Type 0 where
    pub reads_as : ReadsAs s (slip_tree s)
    pub check_is : check_of H composed s ≡ taken (length s) (blocks H (slip_tree s)) (label H (slip_tree s))

  pub check_tree : (s : List ℕ) → (check_of H composed s).number ≡ accepted → AcceptedSlip s
  check_tree s e = by_header (eqb (header_of s).number accepted) refl
    where
      by_header : (b : Bool) → eqb (header_of s).number accepted ≡ b → AcceptedSlip s
      by_header false f =
          let h = eqb-false (header_of s).number accepted f in
          absurd (h (ap (λ (a : Answer). a.number) (check_refused H composed s h) ∙ e))
      by_header true f =
          let h = eqb-true (header_of s).number accepted f in
          let is = check_body H composed s h in
          let t = body_tree s (ap (λ (a : Answer). a.number) is ∙ e) in
          record { reads_as = t; check_is = sym is ∙ t.answer }

  -- the slip of a tree has that tree
  pub slip_tree_lem : (s : List ℕ) (n : Node) → SlipOf H composed s n → slip_tree s ≡ n
  slip_tree_lem s n x = ap tree_of (slip_rows H composed s n x) ∙ tree_rows n
