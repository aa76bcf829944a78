-- The size of a slip is that of its table.
use Rattle.std.specs.Prelude.{◌≡◌, refl, List, [], ◌∷◌, ◌++◌, ℕ, zero, suc, ◌+◌, ◌-◌, ◌*◌, ◌/◌, ◌≤◌, ◌<◌, length, take, drop, get_or}
use Rattle.std.proofs.Common.{ap, ap₂, ◌∙◌, arith, length-append, length-drop, drop_of_length-le, length-take-le}
use Rattle.bits.specs.Bits.{bits_in, bits_of}
use Rattle.bits.specs.FieldLaws.{length_bits_in}
use Rattle.bits.specs.ByteLaws.{length_bits_of, length_packed}
use Rattle.trees.specs.Rules.{label_bytes}
use Rattle.trees.specs.Rows.{Entry, node, tip}
use Rattle.tables.specs.Limits.{edition, edition_bits, count_bits, header_bits, child_bits, type_bits, length_bits}
use Rattle.tables.specs.Measure.{row_bits, rows_bits, table_bits}
use Rattle.tables.specs.Tables.{entry_of, entries, sum}
use Rattle.codec.specs.Writing.{leaf_bits, entry_bits, all_bits, slip_bits, slip_of}
use Rattle.codec.specs.TableLaws.{column_off}

-- "An entry takes 6, 267 or 20 + 8 × length bits."
pub node_long : (k : ℕ) → length (entry_bits (node k)) ≡ 6
unfolding entry_bits
node_long k = ap suc (length_bits_in child_bits (k - 1))

pub dangling_long : (v : List ℕ) → length v ≡ label_bytes → length (entry_bits (tip 0 v)) ≡ 267
unfolding entry_bits leaf_bits
dangling_long v h =
    omega (arith, length-append (bits_in type_bits 0) (bits_of v), length_bits_in type_bits 0, length_bits_of v)

pub pair_long : (t : ℕ) (v : List ℕ) → length (entry_bits (tip (suc t) v)) ≡ 20 + 8 * length v
unfolding entry_bits leaf_bits
pair_long t v =
    omega (
      arith,
      length-append (bits_in type_bits (suc t)) (bits_in length_bits (length v) ++ bits_of v),
      length-append (bits_in length_bits (length v)) (bits_of v),
      length_bits_in type_bits (suc t),
      length_bits_in length_bits (length v),
      length_bits_of v,
    )

-- the same over the cells of a row
pub entry_long : (t c : ℕ) (v : List ℕ) → length (entry_bits (entry_of t c v)) ≡ row_bits t c (length v)
unfolding entry_bits leaf_bits row_bits
entry_long t (suc c) v = node_long (suc c)
entry_long zero zero v =
    omega (arith, length-append (bits_in type_bits 0) (bits_of v), length_bits_in type_bits 0, length_bits_of v)
entry_long (suc t) zero v = pair_long t v ∙ omega arith

pub rows_long : (ts cs ls vs : List ℕ) → sum ls ≤ length vs → length (all_bits (entries ts cs ls vs)) ≡ rows_bits ts cs ls
unfolding sum all_bits rows_bits
rows_long [] cs ls vs h = refl
rows_long (t ∷ ts) [] ls vs h = refl
rows_long (t ∷ ts) (c ∷ cs) [] vs h = refl
rows_long (t ∷ ts) (c ∷ cs) (l ∷ ls) vs h =
    let v : List ℕ = take l vs in
    length-append (entry_bits (entry_of t c v)) (all_bits (entries ts cs ls (drop l vs)))
    ∙ ap₂ (λ (a b : ℕ). a + b) (entry_long t c v ∙ ap (row_bits t c) (length-take-le l vs (omega arith)))
    (rows_long ts cs ls (drop l vs) (omega (arith, length-drop l vs)))

-- the header's bits and the entries'
pub slip_bits_long : (es : List Entry) → length (slip_bits es) ≡ header_bits + length (all_bits es)
unfolding slip_bits
slip_bits_long es =
    omega (
      arith,
      length-append (bits_in edition_bits edition) (bits_in count_bits (length es) ++ all_bits es),
      length-append (bits_in count_bits (length es)) (all_bits es),
      length_bits_in edition_bits edition,
      length_bits_in count_bits (length es),
    )

-- a slip's bytes hold its bits
pub slip_bytes_long : (es : List Entry) → length (slip_of es) ≡ (length (slip_bits es) + 7) / 8
unfolding slip_of
slip_bytes_long es = length_packed (slip_bits es)

-- a table's slip has the table's bits
pub slip_measured : (ts cs ls vs : List ℕ) → sum ls ≤ length vs → length (slip_bits (entries ts cs ls vs)) ≡ table_bits ts cs ls
unfolding table_bits
slip_measured ts cs ls vs h =
    slip_bits_long (entries ts cs ls vs) ∙ ap (λ (k : ℕ). header_bits + k) (rows_long ts cs ls vs h)

pub slip_bytes_measured : (ts cs ls vs : List ℕ) → sum ls ≤ length vs → length (slip_of (entries ts cs ls vs)) ≡ (table_bits ts cs ls + 7) / 8
slip_bytes_measured ts cs ls vs h =
    slip_bytes_long (entries ts cs ls vs) ∙ ap (λ (k : ℕ). (k + 7) / 8) (slip_measured ts cs ls vs h)

-- a row's bits by its kind, and the rows' one by one
pub node_bits : (t c l : ℕ) → 0 < c → row_bits t c l ≡ 1 + child_bits
unfolding row_bits
node_bits t zero l h = absurd (omega arith)
node_bits t (suc c) l h = refl

pub dangling_bits : (t c l : ℕ) → c ≡ 0 → t ≡ 0 → row_bits t c l ≡ 1 + type_bits + 8 * l
unfolding row_bits
dangling_bits t c l e f = ap₂ (λ (x y : ℕ). row_bits x y l) f e

pub pair_bits : (t c l : ℕ) → c ≡ 0 → 0 < t → row_bits t c l ≡ 1 + type_bits + length_bits + 8 * l
unfolding row_bits
pair_bits zero c l e h = absurd (omega arith)
pair_bits (suc t) zero l e h = refl
pair_bits (suc t) (suc c) l e h = absurd (omega arith)

pub leaf_least : (t c l : ℕ) → c ≡ 0 → 1 + type_bits ≤ row_bits t c l
leaf_least zero c l e = omega (arith, dangling_bits 0 c l e refl)
leaf_least (suc t) c l e = omega (arith, pair_bits (suc t) c l e (omega arith))

pub rows_bits_off : (T C L : List ℕ) (i : ℕ) → length C ≡ length T → length L ≡ length T → i < length T
    → rows_bits (drop i T) (drop i C) (drop i L) ≡ row_bits (get_or T i 0) (get_or C i 0) (get_or L i 0) + rows_bits (drop (i + 1) T) (drop (i + 1) C) (drop (i + 1) L)
unfolding rows_bits
rows_bits_off T C L i a b h =
    λ j. rows_bits (column_off T i h j) (column_off C i (omega arith) j) (column_off L i (omega arith) j)

pub rows_bits_none : (T C L : List ℕ) (i : ℕ) → length T ≤ i → rows_bits (drop i T) (drop i C) (drop i L) ≡ 0
unfolding rows_bits
rows_bits_none T C L i h = ap (λ (l : List ℕ). rows_bits l (drop i C) (drop i L)) (drop_of_length-le T {i = i} h)

pub table_bits_start : (T C L : List ℕ) → header_bits + rows_bits T C L ≡ table_bits T C L
unfolding table_bits
table_bits_start T C L = refl
