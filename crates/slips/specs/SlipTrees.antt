-- The check accepts exactly the slips of well-formed trees, each of one tree, with that tree's label and blocks.
use Prim.Native.Nat.{ℕ, ◌*◌, ◌≤◌, ◌<◌}
use Rattle.std.specs.Prelude.{Bool, ◌≡◌, ltb}
use Rattle.std.proofs.Math.Bool.{true, false}
use Rattle.std.proofs.Common.{true≢false, ◌∙◌, arith, pow_pos}
use mathlib.Core.List.{List, [], ◌∷◌}
use Rattle.std.proofs.Math.Path.{refl, sym, ap, ap₂, subst}
use borrow.Author.Tests.{eq-eqb, eqb-true, eqb-false, lt-ltb, ltb-true, not-false}
use Rattle.std.proofs.Math.Dec.{eqb}
use Rattle.std.proofs.Math.ListN.{length, drop, replicate}
use Rattle.std.proofs.lemmas.List.{length-replicate}
use Rattle.outcomes.specs.ChainLaws.{chain_each}
use Rattle.bits.specs.Bits.{bits_in, bits_of, num_of}
use Rattle.lists.specs.Lists.{Below, all}
use Rattle.lists.specs.ListsLaws.{below_drop}
use Rattle.bits.specs.FieldLaws.{bits_num, bits_zero, num_field}
use Rattle.bits.specs.ByteLaws.{length_bits_of, below_bits_of}
use Rattle.lists.specs.TestsLaws.{and_left, and_right, and_both}
use Rattle.trees.specs.Nodes.{Node, leaf, type_of, size, label, blocks}
use Rattle.trees.proofs.NodesLaws.{some_size}
use Rattle.trees.specs.Rules.{max_nodes, max_bytes, WellFormed}
use Rattle.trees.specs.Rows.{Entry, formed, rows, Tag, tag_of, Verdict, faulty, left, verdict}
use Rattle.trees.specs.RowsLaws.{length_rows, rows_inj}
use Rattle.trees.proofs.StackLaws.{complete_tree}
use Rattle.trees.proofs.StackSound.{Built, sound_one, built_well_formed}
use Rattle.outcomes.specs.Refusals.{accepted}
use Rattle.codec.specs.Writing.{slip_of}
use Rattle.codec.specs.Reading.{Reading, read_all}
use Rattle.tables.specs.Limits.{header_bits}
use Rattle.codec.specs.Proper.{AllProper}
use Rattle.codec.specs.RoundTrip.{Was, read_all_was}
use Rattle.codec.specs.SlipLaws.{Reads, slip_reads, reads_slip, slip_unique}
use Rattle.engine.specs.Engine.{one_tree, root_label}
use Rattle.answers.specs.declared.Answer.{Answer}
use Rattle.answers.specs.Answers.{taken}
use Rattle.slips.specs.Check.{count_of, reading_of, padding_fits, settled_tests, settled, header_of, body_of, check_of}
use Rattle.slips.specs.HeaderLaws.{header_counted, header_told, header_edition_is, check_refused, check_body}
use Rattle.slips.specs.Verdicts.{Refuses, verdict_refuses}

-- zero bits read as 0
num_zeros : (n : ℕ) → num_of (replicate n 0) ≡ 0
num_zeros n = ap num_of (sym (bits_zero n)) ∙ num_field n (pow_pos n)

padding_zeros : (n : ℕ) → n < 8 → padding_fits (replicate n 0) ≡ true
unfolding padding_fits
padding_zeros n h =
    and_both (ltb (length (replicate {A = ℕ} n 0)) 8) (eqb (num_of (replicate n 0)) 0)
    (lt-ltb (length (replicate {A = ℕ} n 0)) 8 (omega (arith, length-replicate {A = ℕ} n 0)))
    (eq-eqb (num_of (replicate n 0)) 0 (num_zeros n))

-- and bits that fit as padding are zeros, fewer than 8
padding_told : (rest : List ℕ) → Below 2 rest → padding_fits rest ≡ true → (length rest < 8) × (rest ≡ replicate (length rest) 0)
unfolding padding_fits
padding_told rest below e =
    let few = ltb-true (length rest) 8 (and_left (ltb (length rest) 8) (eqb (num_of rest) 0) e) in
    let zero = eqb-true (num_of rest) 0 (and_right (ltb (length rest) 8) (eqb (num_of rest) 0) e) in
    (few, sym (bits_num rest below) ∙ ap (bits_in (length rest)) zero ∙ bits_zero (length rest))

-- what an accepted verdict has been: one tag of type 0, all read, and padding
pub record Settled (r : Reading) (v : Verdict) : Type 0 where
  pub root : Tag
  pub compressed : ℕ
  pub verdict_is : v ≡ left (root ∷ []) compressed
  pub kind : root.kind ≡ 0
  pub whole : r.whole ≡ true
  pub padding : padding_fits r.rest ≡ true

one_told : (n : ℕ) (r : Reading) (st : List Tag) (b : ℕ) → (r.whole ≡ true) × (one_tree st ≡ true) × (padding_fits r.rest ≡ true)
    → Settled r (left st b)
one_told n r [] b t = absurd (true≢false (sym t.1))
one_told n r (g ∷ []) b t =
    record {
      root = g;
      compressed = b;
      verdict_is = refl;
      kind = eqb-true g.kind 0 t.1;
      whole = t.0;
      padding = t.2;
    }
one_told n r (g ∷ (h ∷ gs)) b t = absurd (true≢false (sym t.1))

pub settled_told_by : (n : ℕ) (r : Reading) (v : Verdict) → Refuses v → (settled n r v).number ≡ accepted → Settled r v
unfolding settled
settled_told_by n r (faulty k i) p e = absurd (p e)
settled_told_by n r (left st b) p e =
    chain_each (λ a. a.number ≡ accepted → Settled r (left st b)) (settled_tests r st) (taken n b (root_label st)) (
      λ c a. absurd (omega (arith, a)),
      λ whole. (
        λ c a. absurd (omega (arith, a)),
        λ one. (
          λ c a. absurd (omega (arith, a)),
          λ pad a. one_told n r st b (not-false r.whole whole, not-false (one_tree st) one, not-false (padding_fits r.rest) pad),
        ),
      ),
    )
    e

pub proper_formed : (es : List Entry) → AllProper es → all formed es ≡ true
proper_formed [] p = refl
proper_formed (e ∷ es) p = and_both (formed e) (all formed es) p.0.form (proper_formed es p.1)

module _ (H : List ℕ → List ℕ) (composed : List ℕ → Bool) where
  -- s is the slip of the well-formed tree n, whose values are bytes, within a slip's limits
  pub record SlipOf (s : List ℕ) (n : Node) : Type 0 where
    pub well : WellFormed H composed n
    pub proper : AllProper (rows n)
    pub is : s ≡ slip_of (rows n)
    pub few : size n ≤ max_nodes
    pub long : length s ≤ max_bytes

  -- the answer of one tag of type 0 with all read and padding behind
  one_settles : (s : List ℕ) (pad : ℕ) (es : List Entry) (n : Node) → pad < 8 → type_of n ≡ 0
      → settled (length s) (record { rows = es; rest = replicate pad 0; whole = true }) (left (tag_of H n ∷ []) (blocks H n))
      ≡ taken (length s) (blocks H n) (label H n)
  unfolding settled
  one_settles s pad es n few root = rw (eq-eqb (type_of n) 0 root, padding_zeros pad few)

  -- what is read of the slip of a tree is its rows
  pub slip_rows : (s : List ℕ) (n : Node) → SlipOf s n → (reading_of s).rows ≡ rows n
  slip_rows s n x =
      let count : length (rows n) ≤ max_nodes = omega (arith, length_rows n, x.few) in
      let r : Reads s (length (rows n)) (rows n) =
      subst (λ (t : List ℕ). Reads t (length (rows n)) (rows n)) (sym x.is) (slip_reads (rows n) x.proper count) in
      ap (λ (y : Reading). y.rows) (ap (λ (k : ℕ). read_all k (drop header_bits (bits_of s))) r.count_is ∙ r.rows)

  -- "check accepts .. the slips of well-formed trees .. with that tree's label and blocks"
  pub check_complete : (s : List ℕ) (n : Node) → SlipOf s n → check_of H composed s ≡ taken (length s) (blocks H n) (label H n)
  unfolding body_of
  check_complete s n x =
      let count : length (rows n) ≤ max_nodes = omega (arith, length_rows n, x.few) in
      let r : Reads s (length (rows n)) (rows n) =
      subst (λ (t : List ℕ). Reads t (length (rows n)) (rows n)) (sym x.is) (slip_reads (rows n) x.proper count) in
      let head : header_bits ≤ 8 * length s = omega (arith, r.head, length_bits_of s) in
      let some : count_of s ≡ 0 → ⊥ = λ e. omega (arith, r.count_is, length_rows n, some_size n) in
      let h = header_counted s x.long head r.edition_is some in
      let reading : reading_of s ≡ record { rows = rows n; rest = replicate r.pad 0; whole = true } =
      ap (λ (k : ℕ). read_all k (drop header_bits (bits_of s))) r.count_is ∙ r.rows in
      sym (check_body H composed s (sym (ap (λ y. y.number) h)))
      ∙ rw (reading, complete_tree H composed n x.well)
      (one_settles s r.pad (rows n) n r.few x.well.root)

  -- "The label of a dangling root is the label it carries", and nothing is hashed
  pub dangling_root : (s l : List ℕ) → SlipOf s (leaf 0 l) → check_of H composed s ≡ taken (length s) 0 l
  dangling_root s l x = check_complete s (leaf 0 l) x

  from_body : (s : List ℕ) → Below 256 s → (header_of s).number ≡ accepted → (body_of H composed s).number ≡ accepted → (n : Node) × SlipOf s n
  unfolding body_of
  from_body s bytes h e =
      let r : Reading = reading_of s in
      let bits : List ℕ = drop header_bits (bits_of s) in
      let t : Settled r (verdict H composed r.rows) =
      settled_told_by (length s) r (verdict H composed r.rows) (verdict_refuses H composed r.rows) e in
      let was : Was (count_of s) bits r = read_all_was (count_of s) bits (below_drop 2 header_bits (bits_of s) (below_bits_of s)) in
      let form = proper_formed r.rows was.proper in
      let built : Built H composed r.rows t.root t.compressed = sound_one H composed r.rows t.root t.compressed form t.verdict_is in
      let pad = padding_told r.rest was.below t.padding in
      let c = header_told s h in
      let reads : Reads s (count_of s) r.rows =
      record {
        head = omega (arith, c.head, length_bits_of s);
        edition_is = header_edition_is s h;
        count_is = refl;
        pad = length r.rest;
        few = pad.0;
        rows = ap₂ (λ (x : List ℕ) (y : Bool). record { rows = r.rows; rest = x; whole = y }) pad.1 t.whole;
      } in
      let is = reads_slip s (count_of s) r.rows bytes reads in
      let exact : r.rows ≡ rows built.tree = sym built.exact in (
        built.tree,
        record {
          well = built_well_formed H composed r.rows t.root t.compressed built t.kind;
          proper = subst AllProper exact is.1;
          is = is.0 ∙ ap slip_of exact;
          few = omega (arith, length_rows built.tree, ap length exact, is.2, c.few, c.counted);
          long = c.long;
        },
      )

  -- and only those: an accepted slip of bytes is that of a well-formed tree
  pub check_sound : (s : List ℕ) → Below 256 s → (check_of H composed s).number ≡ accepted → (n : Node) × SlipOf s n
  unfolding body_of
  check_sound s bytes e = taken_header (eqb (header_of s).number accepted) refl
    where
      taken_header : (b : Bool) → eqb (header_of s).number accepted ≡ b → (n : Node) × SlipOf s n
      taken_header false f =
          let h = eqb-false (header_of s).number accepted f in
          absurd (h (ap (λ (a : Answer). a.number) (check_refused H composed s h) ∙ e))
      taken_header true f =
          let h = eqb-true (header_of s).number accepted f in
          from_body s bytes h (ap (λ (a : Answer). a.number) (check_body H composed s h) ∙ e)

  -- each of exactly one tree
  pub check_unique : (s : List ℕ) (n m : Node) → SlipOf s n → SlipOf s m → n ≡ m
  check_unique s n m x y =
      let a : length (rows n) ≤ max_nodes = omega (arith, length_rows n, x.few) in
      let b : length (rows m) ≤ max_nodes = omega (arith, length_rows m, y.few) in
      rows_inj n m (slip_unique (rows n) (rows m) x.proper y.proper a b (sym x.is ∙ y.is))

  -- "Two accepted slips with the same tree are the same bytes."
  pub same_tree : (s u : List ℕ) (n : Node) → SlipOf s n → SlipOf u n → s ≡ u
  same_tree s u n x y = x.is ∙ sym y.is
