-- What is written is read back, and what is read was written: entries and their bits are one to one.
use Rattle.std.specs.Prelude.{◌≡◌, refl, true, leb, length, take}
use Rattle.std.proofs.Common.{sym, subst, ◌∙◌, leb-true, eqb-true, le-leb, eq-eqb, length-append, take_at, drop_at, length-take-le}
use Rattle.std.proofs.Math.Path.{ap, ap₂}
use Rattle.std.proofs.lemmas.Bool.{false≢true}
use mathlib.Core.List.{List, [], ◌∷◌, ◌++◌, append_assoc}
use Prim.Native.Nat.{ℕ, zero, suc, ◌+◌, ◌-◌, ◌*◌, ◌^◌, ◌≤◌, ◌<◌}
use native.Mathlib.Omega.{arith}
use Rattle.std.proofs.Math.ListN.{drop, take-append-drop}
use Rattle.lists.specs.Lists.{Below}
use Rattle.lists.specs.ListsLaws.{below_take, below_drop}
use Rattle.bits.specs.Bits.{bits_in, bits_of, num_of, octets}
use Rattle.bits.specs.FieldLaws.{length_bits_in, num_small, num_field, bits_num}
use Rattle.bits.specs.ByteLaws.{length_bits_of, length_octets, below_octets, octets_bits_of, bits_of_octets}
use Rattle.trees.specs.Rules.{max_type, max_value, max_children, label_bytes, leaf_fits}
use Rattle.trees.specs.Rows.{Entry, node, tip}
use Rattle.lists.specs.TestsLaws.{and_left, and_right, and_both}
use Rattle.tables.specs.Limits.{child_bits, type_bits, length_bits}
use Rattle.codec.specs.Writing.{leaf_bits, entry_bits, all_bits}
use Rattle.codec.specs.Reading.{Read, short, got, read_value, read_leaf, read_rest, read_one, Reading, add, after, read_all}
use Rattle.codec.specs.ReadingLaws.{with_enough, with_either}
use Rattle.codec.specs.Proper.{Proper, AllProper}

-- ---- what is written is read back

-- a field at the head of a run
module _ (n v : ℕ) (z : List ℕ) where
  pub field_there : n ≤ length (bits_in n v ++ z)
  field_there = subst (λ (k : ℕ). n ≤ k) (sym (length-append (bits_in n v) z)) (omega (arith, length_bits_in n v))

  pub field_value : v < 2 ^ n → num_of (take n (bits_in n v ++ z)) ≡ v
  field_value h = ap num_of (take_at (bits_in n v) z n (length_bits_in n v)) ∙ num_field n h

  pub field_rest : drop n (bits_in n v ++ z) ≡ z
  field_rest = drop_at (bits_in n v) z n (length_bits_in n v)

value_written : (t : ℕ) (v z : List ℕ) → Below 256 v → read_value t (length v) (bits_of v ++ z) ≡ got (tip t v) z
unfolding read_value
value_written t v z h =
    let b : List ℕ = bits_of v ++ z in
    with_enough (8 * length v) b (got (tip t (octets (length v) b)) (drop (8 * length v) b)) (subst (λ (k : ℕ). 8 * length v ≤ k) (sym (length-append (bits_of v) z)) (omega (arith, length_bits_of v)))
    ∙ ap₂ (λ (w r : List ℕ). got (tip t w) r) (octets_bits_of v z h) (drop_at (bits_of v) z (8 * length v) (length_bits_of v))

leaf_written : (t : ℕ) (v z : List ℕ) → leaf_fits t v ≡ true → Below 256 v → read_leaf t (leaf_bits t v ++ z) ≡ got (tip t v) z
unfolding read_leaf leaf_bits
leaf_written zero v z f h =
    ap (λ (n : ℕ). read_value 0 n (bits_of v ++ z)) (sym (eqb-true (length v) label_bytes f)) ∙ value_written 0 v z h
leaf_written (suc t) v z f h =
    let n : ℕ = length v in
    let b : List ℕ = bits_in length_bits n ++ (bits_of v ++ z) in
    let small : n ≤ max_value = leb-true n max_value (and_right (leb (suc t) max_type) (leb n max_value) f) in
    ap (read_leaf (suc t)) (append_assoc (bits_in length_bits n) (bits_of v) z)
    ∙ with_enough length_bits b (read_value (suc t) (num_of (take length_bits b)) (drop length_bits b)) (field_there length_bits n (bits_of v ++ z))
    ∙ ap₂ (read_value (suc t)) (field_value length_bits n (bits_of v ++ z) (omega arith)) (field_rest length_bits n (bits_of v ++ z))
    ∙ value_written (suc t) v z h

type_small : (t : ℕ) (v : List ℕ) → leaf_fits t v ≡ true → t < 2 ^ type_bits
type_small zero v f = omega arith
type_small (suc t) v f = omega (arith, leb-true (suc t) max_type (and_left (leb (suc t) max_type) (leb (length v) max_value) f))

pub read_one_written : (e : Entry) (z : List ℕ) → Proper e → read_one (entry_bits e ++ z) ≡ got e z
unfolding read_one read_rest entry_bits
read_one_written (node k) z p =
    let b : List ℕ = bits_in child_bits (k - 1) ++ z in
    let low : 1 ≤ k = leb-true 1 k (and_left (leb 1 k) (leb k max_children) p.form) in
    let few : k ≤ max_children = leb-true k max_children (and_right (leb 1 k) (leb k max_children) p.form) in
    let back : k - 1 + 1 ≡ k = omega arith in
    with_enough child_bits b (got (node (num_of (take child_bits b) + 1)) (drop child_bits b)) (field_there child_bits (k - 1) z)
    ∙ ap₂ (λ (m : ℕ) (r : List ℕ). got (node (m + 1)) r) (field_value child_bits (k - 1) z (omega arith)) (field_rest child_bits (k - 1) z)
    ∙ ap (λ (m : ℕ). got (node m) z) back
read_one_written (tip t v) z p =
    let w : List ℕ = leaf_bits t v ++ z in
    let b : List ℕ = bits_in type_bits t ++ w in
    ap (read_rest 0) (append_assoc (bits_in type_bits t) (leaf_bits t v) z)
    ∙ with_enough type_bits b (read_leaf (num_of (take type_bits b)) (drop type_bits b)) (field_there type_bits t w)
    ∙ ap₂ read_leaf (field_value type_bits t w (type_small t v p.form)) (field_rest type_bits t w)
    ∙ leaf_written t v z p.form p.bytes

-- entries that were written are read back, with the bits behind them
pub read_all_written : (es : List Entry) (z : List ℕ) → AllProper es → read_all (length es) (all_bits es ++ z) ≡ record { rows = es; rest = z; whole = true }
unfolding read_all all_bits
read_all_written [] z p = refl
read_all_written (e ∷ es) z p =
    let b : List ℕ = (entry_bits e ++ all_bits es) ++ z in
    ap (λ (x : Read). after x b (λ r. read_all (length es) r))
    (ap read_one (append_assoc (entry_bits e) (all_bits es) z) ∙ read_one_written e (all_bits es ++ z) p.0)
    ∙ ap (add e) (read_all_written es z p.1)

-- ---- what is read was written

-- a field is the bits that it was read from
pub field_back : (n : ℕ) (b : List ℕ) → Below 2 b → n ≤ length b → bits_in n (num_of (take n b)) ++ drop n b ≡ b
field_back n b h l =
    ap (λ (k : ℕ). bits_in k (num_of (take n b)) ++ drop n b) (sym (length-take-le n b l))
    ∙ ap (λ (w : List ℕ). w ++ drop n b) (bits_num (take n b) (below_take 2 n b h))
    ∙ take-append-drop n b

field_small : (n : ℕ) (b : List ℕ) → n ≤ length b → num_of (take n b) < 2 ^ n
field_small n b l = subst (λ (k : ℕ). num_of (take n b) < 2 ^ k) (length-take-le n b l) (num_small (take n b))

-- what holds of `short`, and of each leaf that the bits b are, holds of what is read
module _ (P : Read → Type 0) (none : P short) where
  value_was : (t n : ℕ) (b : List ℕ) → Below 2 b → ((v z : List ℕ) → length v ≡ n → bits_of v ++ z ≡ b → Below 256 v → Below 2 z → P (got (tip t v) z)) → P (read_value t n b)
  unfolding read_value
  value_was t n b h f =
      with_either P (8 * n) b (got (tip t (octets n b)) (drop (8 * n) b)) none
      (λ l.
      f (octets n b) (drop (8 * n) b) (length_octets n b)
      (ap (λ (w : List ℕ). w ++ drop (8 * n) b) (bits_of_octets n b h l) ∙ take-append-drop (8 * n) b) (below_octets n b) (below_drop 2 (8 * n) b h))

  leaf_was : (t : ℕ) (b : List ℕ) → t ≤ max_type → Below 2 b
      → ((v z : List ℕ) → leaf_fits t v ≡ true → leaf_bits t v ++ z ≡ b → Below 256 v → Below 2 z → P (got (tip t v) z)) → P (read_leaf t b)
  unfolding read_leaf leaf_bits
  leaf_was zero b g h f = value_was 0 label_bytes b h (λ v z n. f v z (eq-eqb (length v) label_bytes n))
  leaf_was (suc t) b g h f =
      let m : ℕ = num_of (take length_bits b) in
      with_either P length_bits b (read_value (suc t) m (drop length_bits b)) none
      (λ l.
      value_was (suc t) m (drop length_bits b) (below_drop 2 length_bits b h)
      (λ v z n e.
      f v z
      (and_both (leb (suc t) max_type) (leb (length v) max_value) (le-leb (suc t) max_type g) (le-leb (length v) max_value (omega (arith, n, field_small length_bits b l))))
      (append_assoc (bits_in length_bits (length v)) (bits_of v) z
      ∙ ap₂ (λ (k : ℕ) (w : List ℕ). bits_in length_bits k ++ w) n e
      ∙ field_back length_bits b h l)))

  pub one_was : (b : List ℕ) → Below 2 b → ((e : Entry) (z : List ℕ) → entry_bits e ++ z ≡ b → Proper e → Below 2 z → P (got e z)) → P (read_one b)
  unfolding read_one read_rest entry_bits
  one_was [] h f = none
  one_was (zero ∷ b) h f =
      let t : ℕ = num_of (take type_bits b) in
      let g : Below 2 b = λ i. h (suc i) in
      with_either P type_bits b (read_leaf t (drop type_bits b)) none
      (λ l.
      leaf_was t (drop type_bits b) (omega (arith, field_small type_bits b l)) (below_drop 2 type_bits b g)
      (λ v z form e bytes.
      f (tip t v) z
      (ap (λ (w : List ℕ). 0 ∷ w) (append_assoc (bits_in type_bits t) (leaf_bits t v) z ∙ ap (λ (w : List ℕ). bits_in type_bits t ++ w) e ∙ field_back type_bits b g l))
      (record { form = form; bytes = bytes })))
  one_was (suc zero ∷ b) h f =
      let m : ℕ = num_of (take child_bits b) in
      let g : Below 2 b = λ i. h (suc i) in
      with_either P child_bits b (got (node (m + 1)) (drop child_bits b)) none
      (λ l.
      let small : m < 2 ^ child_bits = field_small child_bits b l in
      let back : m + 1 - 1 ≡ m = omega arith in
      f (node (m + 1)) (drop child_bits b)
      (ap (λ (w : List ℕ). 1 ∷ w) (ap (λ (k : ℕ). bits_in child_bits k ++ drop child_bits b) back ∙ field_back child_bits b g l))
      (record { form = and_both (leb 1 (m + 1)) (leb (m + 1) max_children) (le-leb 1 (m + 1) (omega arith)) (le-leb (m + 1) max_children (omega arith)); bytes = tt })
      (below_drop 2 child_bits b g))
  one_was (suc (suc x) ∷ b) h f = absurd (omega (arith, h 0))

-- what was read of the bits b
pub record Was (n : ℕ) (b : List ℕ) (x : Reading) : Type 0 where
  pub bits : all_bits x.rows ++ x.rest ≡ b
  pub proper : AllProper x.rows
  pub count : x.whole ≡ true → length x.rows ≡ n
  pub below : Below 2 x.rest

-- entries that were read are written as the bits that they were read from
pub read_all_was : (n : ℕ) (b : List ℕ) → Below 2 b → Was n b (read_all n b)
unfolding read_all all_bits
read_all_was zero b h = record { bits = refl; proper = tt; count = λ e. refl; below = h }
read_all_was (suc n) b h =
    one_was (λ x. Was (suc n) b (after x b (λ r. read_all n r))) (record { bits = refl; proper = tt; count = λ e. absurd (false≢true e); below = h }) b h
    (λ e z bits proper below.
    let w : Was n z (read_all n z) = read_all_was n z below in
    record {
      bits = append_assoc (entry_bits e) (all_bits (read_all n z).rows) (read_all n z).rest ∙ ap (λ (l : List ℕ). entry_bits e ++ l) w.bits ∙ bits;
      proper = (proper, w.proper);
      count = λ g. ap suc (w.count g);
      below = w.below;
    })
