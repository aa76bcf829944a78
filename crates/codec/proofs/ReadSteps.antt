-- The steps of reading an entry, at bits of a slip.
use mathlib.Core.Path.{◌≡◌, sym, ap, ap₂, ◌∙◌}
use mathlib.Core.Bool.{true}
use mathlib.Core.List.{List, ◌∷◌}
use Prim.Native.Nat.{ℕ, zero, suc, ◌+◌, ◌-◌, ◌*◌, ◌^◌, ◌≤◌, ◌<◌}
use native.Mathlib.Nat.{add-zero, le_trans}
use native.Mathlib.Numerals.{add-one}
use native.Mathlib.Omega.{arith}
use Rattle.std.specs.Prelude.{Option, None, Some}
use lib.ListN.{length, take, drop, get_or, length-drop, drop_of_length-le}
use lib.Seq.{drop-drop}
use Rattle.bits.specs.Bits.{bits_of, num_of, octets}
use Rattle.bits.specs.ByteLaws.{length_bits_of, below_bits_of}
use Rattle.trees.specs.Rules.{label_bytes}
use Rattle.trees.specs.Rows.{node, tip}
use Rattle.tables.specs.Limits.{child_bits, type_bits, length_bits}
use Rattle.tables.specs.Tables.{entry_of, row_fits}
use Rattle.codec.specs.Reading.{Read, short, got, read_value, read_leaf, read_rest, read_one}
use Rattle.codec.specs.ReadingLaws.{with_short, with_enough}
use Rattle.codec.specs.TableLaws.{fits_internal, column_off}
use Rattle.codec.specs.Reader.{RowIs, RowGives}
use Rattle.codec.specs.declared.row.Row.{Row}

-- what is read from a later bit
pub gives_from : (s : List ℕ) (at later : ℕ) (x y : Read) (r : Option Row) → at ≤ later → x ≡ y → RowGives s later y r → RowGives s at x r
gives_from s at later x y None h e g = e ∙ g
gives_from s at later x y (Some r) h e i =
    record { entry = e ∙ i.entry; form = i.form; onward = le_trans h i.onward; fits = i.fits }

-- what is read n bits on, of the same slip
pub gives_on : (s s' : List ℕ) (at on n : ℕ) (x : Read) (f : List ℕ → Read) (r : Option Row) → s' ≡ s → on ≡ at + n
    → x ≡ f (drop (at + n) (bits_of s)) → RowGives s' on (f (drop on (bits_of s'))) r → RowGives s at x r
gives_on s s' at on n x f r e h g k = gives_from s at (at + n) x (f (drop (at + n) (bits_of s))) r (omega arith) g (rw (e, h) at k)

module _ (s : List ℕ) (at : ℕ) where
  -- the bits from `at` on, and how many they are
  abbrev rest : List ℕ
  rest = drop at (bits_of s)

  rest_long : length rest ≡ 8 * length s - at
  rest_long = length-drop at (bits_of s) ∙ ap (λ (k : ℕ). k - at) (length_bits_of s)

  few : (n : ℕ) → 8 * length s < at + n → at ≤ 8 * length s → length rest < n
  few n h g = omega (arith, rest_long)

  enough : (n : ℕ) → at + n ≤ 8 * length s → n ≤ length rest
  enough n h = omega (arith, rest_long)

  pub valued_short : (t n : ℕ) → at ≤ 8 * length s → 8 * length s < at + 8 * n → read_value t n rest ≡ short
  unfolding read_value
  valued_short t n g h = with_short (8 * n) rest (got (tip t (octets n rest)) (drop (8 * n) rest)) (few (8 * n) h g)

  pub valued_is : (t n : ℕ) → at + 8 * n ≤ 8 * length s → row_fits t 0 n ≡ true
      → RowIs s at (read_value t n rest) (record { kind = t; count = 0; length = n; from = at })
  unfolding read_value
  valued_is t n h f =
      record {
        entry =
            with_enough (8 * n) rest (got (tip t (octets n rest)) (drop (8 * n) rest)) (enough (8 * n) h)
            ∙ ap (got (tip t (octets n rest))) (drop-drop (8 * n) at (bits_of s));
        form = f;
        onward = omega arith;
        fits = h;
      }

  -- "the length in 9 bits and the value"
  pub pair_short : (t : ℕ) → 1 ≤ t → at ≤ 8 * length s → 8 * length s < at + length_bits → read_leaf t rest ≡ short
  unfolding read_leaf
  pair_short zero k g h = absurd (omega arith)
  pair_short (suc t) k g h = with_short length_bits rest _ (few length_bits h g)

  pub pair_is : (t m : ℕ) → 1 ≤ t → at + length_bits ≤ 8 * length s → m ≡ num_of (take length_bits rest)
      → read_leaf t rest ≡ read_value t m (drop (at + length_bits) (bits_of s))
  unfolding read_leaf
  pair_is zero m k h e = absurd (omega arith)
  pair_is (suc t) m k h e =
      with_enough length_bits rest (read_value (suc t) (num_of (take length_bits rest)) (drop length_bits rest)) (enough length_bits h)
      ∙ ap₂ (read_value (suc t)) (sym e) (drop-drop length_bits at (bits_of s))

  -- "type in 10 bits"
  pub leaf_short : at ≤ 8 * length s → 8 * length s < at + type_bits → read_rest 0 rest ≡ short
  unfolding read_rest
  leaf_short g h = with_short type_bits rest (read_leaf (num_of (take type_bits rest)) (drop type_bits rest)) (few type_bits h g)

  pub leaf_is : (t : ℕ) → at + type_bits ≤ 8 * length s → t ≡ num_of (take type_bits rest) → read_rest 0 rest ≡ read_leaf t (drop (at + type_bits) (bits_of s))
  unfolding read_rest
  leaf_is t h e =
      with_enough type_bits rest (read_leaf (num_of (take type_bits rest)) (drop type_bits rest)) (enough type_bits h)
      ∙ ap₂ read_leaf (sym e) (drop-drop type_bits at (bits_of s))

  -- "for type 0 the 256 bits of its label"
  pub dangling_is : (t : ℕ) → t ≡ 0 → read_leaf t rest ≡ read_value t label_bytes rest
  unfolding read_leaf
  dangling_is t e = ap (λ (k : ℕ). read_leaf k rest) e ∙ ap (λ (k : ℕ). read_value k label_bytes rest) (sym e)

  -- "children minus 1 in 5 bits"
  pub internal_short : at ≤ 8 * length s → 8 * length s < at + child_bits → read_rest 1 rest ≡ short
  unfolding read_rest
  internal_short g h = with_short child_bits rest (got (node (num_of (take child_bits rest) + 1)) (drop child_bits rest)) (few child_bits h g)

  pub internal_is : (m : ℕ) → at + child_bits ≤ 8 * length s → m ≡ num_of (take child_bits rest) → m < 2 ^ child_bits
      → RowIs s at (read_rest 1 rest) (record { kind = 0; count = m + 1; length = 0; from = at + child_bits })
  unfolding read_rest
  internal_is m h e small =
      let v : List ℕ = octets 0 (drop (at + child_bits) (bits_of s)) in
      let k : entry_of 0 (m + 1) v ≡ node (m + 1) = ap (λ (j : ℕ). entry_of 0 j v) (add-one m) ∙ ap node (sym (add-one m)) in
      let b : drop (at + child_bits + 8 * 0) (bits_of s) ≡ drop child_bits rest =
      ap (λ (j : ℕ). drop j (bits_of s)) (add-zero (at + child_bits)) ∙ sym (drop-drop child_bits at (bits_of s)) in
      record {
        entry =
            with_enough child_bits rest (got (node (num_of (take child_bits rest) + 1)) (drop child_bits rest)) (enough child_bits h)
            ∙ ap (λ (j : ℕ). got (node (j + 1)) (drop child_bits rest)) (sym e)
            ∙ ap₂ got (sym k) (sym b);
        form = fits_internal (m + 1) (omega arith) (omega arith);
        onward = omega arith;
        fits = omega arith;
      }

  -- the entry's first bit
  pub none_left : 8 * length s < at + 1 → read_one rest ≡ short
  unfolding read_one
  none_left h = ap read_one (drop_of_length-le (bits_of s) {i = at} (omega (arith, length_bits_of s)))

  pub first_is : (x y : ℕ) → at + 1 ≤ 8 * length s → x ≡ num_of (take 1 rest) → x ≡ y → read_one rest ≡ read_rest y (drop (at + 1) (bits_of s))
  unfolding read_one num_of
  first_is x y h e f =
      let off : rest ≡ get_or (bits_of s) at 0 ∷ drop (at + 1) (bits_of s) = column_off (bits_of s) at (omega (arith, length_bits_of s)) in
      let same : x ≡ get_or (bits_of s) at 0 = e ∙ ap (λ (l : List ℕ). num_of (take 1 l)) off ∙ omega (arith, below_bits_of s at) in
      ap read_one off ∙ ap (λ (k : ℕ). read_rest k (drop (at + 1) (bits_of s))) (sym same ∙ f)
