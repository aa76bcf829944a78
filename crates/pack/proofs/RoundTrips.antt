-- "A table packed and unpacked is the same table, and a slip unpacked and packed is the same slip."
use Rattle.std.specs.Prelude.{ℕ, ◌≤◌, Bool, ◌≡◌, take, drop}
use mathlib.Core.List.{List}
use Rattle.std.proofs.Math.Path.{refl, sym, ap}
use Rattle.std.proofs.Common.{◌∙◌, subst, arith}
use Rattle.std.proofs.Math.ListN.{length}
use Rattle.std.proofs.lemmas.List.{length-map}
use Rattle.std.proofs.Math.Seq.{take_at}
use Rattle.lists.specs.Lists.{Below}
use Rattle.trees.specs.Nodes.{Node, label, blocks}
use Rattle.trees.specs.Rules.{max_nodes}
use Rattle.trees.specs.Rows.{Entry, rows}
use Rattle.trees.specs.RowsLaws.{length_rows}
use Rattle.trees.proofs.StackLaws.{rows_formed}
use Rattle.outcomes.specs.Refusals.{accepted}
use Rattle.tables.specs.Tables.{Table, Formed}
use Rattle.codec.specs.Writing.{slip_of}
use Rattle.codec.specs.Proper.{AllProper}
use Rattle.codec.specs.ProperLaws.{table_proper}
use Rattle.codec.specs.SlipLaws.{Reads, slip_reads}
use Rattle.answers.specs.declared.Answer.{Answer}
use Rattle.answers.specs.Answers.{taken}
use Rattle.slips.specs.Check.{count_of, reading_of, check_of}
use Rattle.outcomes.specs.Outcome.{Output, over, Outcome}
use Rattle.slips.specs.SlipTrees.{SlipOf, check_complete, slip_rows}
use Rattle.slips.specs.SlipTree.{slip_tree}
use Rattle.slips.specs.ByteTrees.{accepted_slip}
use Rattle.tables.specs.Cells.{type_cell}
use Rattle.handing.specs.Handing.{over_all}
use Rattle.handing.specs.HandingLaws.{Room, handed_out, handed_told}
use Rattle.unpack.specs.Unpack.{table_in, table_of, unpack_of}
use Rattle.unpack.specs.UnpackLaws.{in_over}
use Rattle.pack.specs.Pack.{rows_of, answer_of, pack_of}
use Rattle.pack.proofs.PackTrees.{table_of_formed, TableOf, table_rows, pack_complete, pack_outcome, pack_sound}

-- what an accepted call has written: "writes exactly its length"
abbrev pub written : Output Answer → List ℕ
written p = take p.answer.length p.left

-- the table t was packed with the outcome p, unpacked over the buffers b with the outcome u, and stands in them
pub record Again (t b : Table) (p : Output Answer) (u : Outcome Answer Table) : Type 0 where
  pub outcome : u ≡ record { answer = p.answer; left = over_all t b }
  pub holds : table_in (length t.types) u.left ≡ t

module _ (H : List ℕ → List ℕ) (composed : List ℕ → Bool) where
  -- a tree's table has the form
  formed_table : (t : Table) (n : Node) → TableOf H composed t n → Formed t
  formed_table t n x =
      subst Formed (sym x.is) (table_of_formed (rows n) (rows_formed H composed n x.well.fit.rules) (omega (arith, length_rows n, x.few)))

  -- a tree's table of bytes has its slip
  table_slip : (t : Table) (n : Node) → TableOf H composed t n → Below 256 t.values → SlipOf H composed (slip_of (rows n)) n
  table_slip t n x bytes =
      let f = formed_table t n x in
      let proper : AllProper (rows_of t) =
      table_proper 0 t.types t.counts t.lengths t.values (f.rows ∙ omega arith) (omega (arith, f.area)) bytes in
      record { well = x.well; proper = subst AllProper (table_rows H composed t n x) proper; is = refl; few = x.few; long = x.long }

  -- what the packer accepts the check accepts, with the same answer
  pub packed_checks : (t : Table) (room : ℕ) → Below 256 t.values → (answer_of H composed t room).number ≡ accepted
      → check_of H composed (slip_of (rows_of t)) ≡ answer_of H composed t room
  packed_checks t room bytes e =
      let s = pack_sound H composed t room e in
      let n = s.0 in
      let x = s.1 in
      ap (λ (es : List Entry). check_of H composed (slip_of es)) (table_rows H composed t n x)
      ∙ check_complete H composed (slip_of (rows n)) n (table_slip t n x bytes)
      ∙ sym (pack_complete H composed t n room x s.2)

  -- what it has written is the table's slip
  pub packed_written : (t : Table) (out : List ℕ) → (pack_of H composed t out).answer.number ≡ accepted
      → written (pack_of H composed t out) ≡ slip_of (rows_of t)
  unfolding pack_of
  packed_written t out e =
      let s = pack_sound H composed t (length out) e in
      let n = s.0 in
      let x = s.1 in
      ap written (pack_outcome H composed t n out x s.2)
      ∙ take_at (slip_of (rows n)) (drop (length (slip_of (rows n))) out) (length (slip_of (rows n))) refl
      ∙ sym (ap slip_of (table_rows H composed t n x))

  -- so that checks
  pub written_checks : (t : Table) (out : List ℕ) → Below 256 t.values → (pack_of H composed t out).answer.number ≡ accepted
      → check_of H composed (written (pack_of H composed t out)) ≡ (pack_of H composed t out).answer
  unfolding pack_of
  written_checks t out bytes e = ap (check_of H composed) (packed_written t out e) ∙ packed_checks t (length out) bytes e

  -- "A table packed and unpacked is the same table": what the packer writes, unpacked into buffers with room
  pub table_again : (t : Table) (out : List ℕ) → Below 256 t.values → (pack_of H composed t out).answer.number ≡ accepted
      → (b : Table) → Room t b → Again t b (pack_of H composed t out) (unpack_of H composed (written (pack_of H composed t out)) b)
  unfolding pack_of unpack_of
  table_again t out bytes e b room =
      let s = pack_sound H composed t (length out) e in
      let n = s.0 in
      let x = s.1 in
      let slip = table_slip t n x bytes in
      let same : written (pack_of H composed t out) ≡ slip_of (rows n) = packed_written t out e ∙ ap slip_of (table_rows H composed t n x) in
      let checks = written_checks t out bytes e in
      let table : table_of (reading_of (written (pack_of H composed t out))).rows ≡ t =
      ap (λ (w : List ℕ). table_of (reading_of w).rows) same ∙ ap table_of (slip_rows H composed (slip_of (rows n)) n slip) ∙ sym x.is in
      let out_is : unpack_of H composed (written (pack_of H composed t out)) b ≡ record { answer = (pack_of H composed t out).answer; left = over_all t b } =
      rw (checks, table) (handed_out (pack_of H composed t out).answer t b e room) in
      record { outcome = out_is; holds = ap (λ (u : Outcome Answer Table). table_in (length t.types) u.left) out_is ∙ in_over t b (formed_table t n x) }

  -- the table of a slip's tree
  slip_table : (s : List ℕ) (n : Node) → SlipOf H composed s n → TableOf H composed (table_of (rows n)) n
  slip_table s n x = record { well = x.well; is = refl; few = x.few; long = omega (arith, ap length x.is, x.long) }

  -- a slip names as many nodes as its tree has
  slip_count : (s : List ℕ) (n : Node) → SlipOf H composed s n → count_of s ≡ length (rows n)
  slip_count s n x =
      let few : length (rows n) ≤ max_nodes = omega (arith, length_rows n, x.few) in
      (subst (λ (w : List ℕ). Reads w (length (rows n)) (rows n)) (sym x.is) (slip_reads (rows n) x.proper few)).count_is

  -- what the unpacker leaves of an accepted slip: in the first rows, as many as the slip names, stands the table of its tree
  pub unpacked_table : (s : List ℕ) → Below 256 s → (b : Table) → (unpack_of H composed s b).answer.number ≡ accepted
      → table_in (count_of s) (unpack_of H composed s b).left ≡ table_of (rows (slip_tree s))
  unfolding unpack_of
  unpacked_table s bytes b e =
      let h = handed_told (check_of H composed s) (table_of (reading_of s).rows) b e in
      let n = slip_tree s in
      let x = accepted_slip H composed s bytes h.taken in
      let t : Table = table_of (rows n) in
      let count : count_of s ≡ length t.types = slip_count s n x ∙ sym (length-map (rows n) type_cell) in
      ap (λ (u : Outcome Answer Table). table_in (count_of s) u.left) h.is
      ∙ ap (λ (es : List Entry). table_in (count_of s) (over_all (table_of es) b)) (slip_rows H composed s n x)
      ∙ ap (λ (k : ℕ). table_in k (over_all t b)) count
      ∙ in_over t b (formed_table t n (slip_table s n x))

  -- "a slip unpacked and packed is the same slip": the table that the unpacker leaves, packed where the slip has room
  pub slip_again : (s : List ℕ) → Below 256 s → (b : Table) → (unpack_of H composed s b).answer.number ≡ accepted
      → (out : List ℕ) → length s ≤ length out
      → pack_of H composed (table_in (count_of s) (unpack_of H composed s b).left) out
      ≡ record { answer = (unpack_of H composed s b).answer; left = over s out }
  unfolding unpack_of
  slip_again s bytes b e out fits =
      let h = handed_told (check_of H composed s) (table_of (reading_of s).rows) b e in
      let n = slip_tree s in
      let x = accepted_slip H composed s bytes h.taken in
      let is : s ≡ slip_of (rows n) = x.is in
      let answers : (unpack_of H composed s b).answer ≡ taken (length s) (blocks H n) (label H n) =
      ap (λ (u : Outcome Answer Table). u.answer) h.is ∙ check_complete H composed s n x in
      ap (λ (t : Table). pack_of H composed t out) (unpacked_table s bytes b e)
      ∙ pack_outcome H composed (table_of (rows n)) n out (slip_table s n x) (omega (arith, ap length is))
      ∙ ap (λ (w : List ℕ). record { answer = taken (length w) (blocks H n) (label H n); left = over w out }) (sym is)
      ∙ ap (λ (a : Answer). record { answer = a; left = over s out }) (sym answers)
