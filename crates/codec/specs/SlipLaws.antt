-- Slips and lists of entries are one to one: a slip reads back, and what reads as a slip is the slip of its rows.
use Rattle.std.specs.Prelude.{◌≡◌, true, List, [], ◌∷◌, ◌++◌, ℕ, zero, suc, ◌+◌, ◌-◌, ◌/◌, ◌≤◌, ◌<◌, length, take, drop, replicate}
use Rattle.std.proofs.Common.{sym, ap, ap₂, subst, ◌∙◌, append_assoc, arith, length-append, length-drop, drop-drop}
use Rattle.lists.specs.Lists.{Below}
use Rattle.lists.specs.ListsLaws.{below_cons, below_append, below_drop}
use Rattle.bits.specs.Bits.{bits_in, bits_of, num_of, packed}
use Rattle.bits.specs.FieldLaws.{length_bits_in, below_bits_in}
use Rattle.bits.specs.ByteLaws.{padding, padding_few, below_bits_of, bits_of_packed, packed_is, below_octets}
use Rattle.trees.specs.Rules.{max_nodes}
use Rattle.trees.specs.Rows.{Entry, node, tip}
use Rattle.tables.specs.Limits.{edition, edition_bits, count_bits, child_bits, type_bits, length_bits, header_bits}
use Rattle.codec.specs.Writing.{leaf_bits, entry_bits, all_bits, slip_bits, slip_of}
use Rattle.codec.specs.Reading.{Reading, read_all}
use Rattle.codec.specs.Proper.{AllProper}
use Rattle.codec.specs.RoundTrip.{field_value, field_rest, field_back, read_all_written, Was, read_all_was}

-- ---- a slip's bits are bits, its bytes bytes

below_entry_bits : (e : Entry) → Below 2 (entry_bits e)
unfolding entry_bits leaf_bits
below_entry_bits (node k) = below_cons 2 (bits_in child_bits (k - 1)) (omega arith) (below_bits_in child_bits (k - 1))
below_entry_bits (tip zero v) =
    below_cons 2 (bits_in type_bits 0 ++ bits_of v) (omega arith) (below_append 2 (bits_in type_bits 0) (bits_of v) (below_bits_in type_bits 0) (below_bits_of v))
below_entry_bits (tip (suc t) v) =
    let l : List ℕ = bits_in length_bits (length v) in
    below_cons 2 (bits_in type_bits (suc t) ++ (l ++ bits_of v)) (omega arith)
    (below_append 2 (bits_in type_bits (suc t)) (l ++ bits_of v) (below_bits_in type_bits (suc t)) (below_append 2 l (bits_of v) (below_bits_in length_bits (length v)) (below_bits_of v)))

below_all_bits : (es : List Entry) → Below 2 (all_bits es)
unfolding all_bits
below_all_bits [] = λ i. omega arith
below_all_bits (e ∷ es) = below_append 2 (entry_bits e) (all_bits es) (below_entry_bits e) (below_all_bits es)

pub below_slip_bits : (es : List Entry) → Below 2 (slip_bits es)
unfolding slip_bits
below_slip_bits es =
    below_append 2 (bits_in edition_bits edition) (bits_in count_bits (length es) ++ all_bits es) (below_bits_in edition_bits edition)
    (below_append 2 (bits_in count_bits (length es)) (all_bits es) (below_bits_in count_bits (length es)) (below_all_bits es))

pub below_slip_of : (es : List Entry) → Below 256 (slip_of es)
unfolding slip_of packed
below_slip_of es = below_octets ((length (slip_bits es) + 7) / 8) (slip_bits es ++ replicate 7 0)

-- a slip's bits, and "0 to 7 zero bits to the byte's end" (`padding-few`)
pub bits_of_slip : (es : List Entry) → bits_of (slip_of es) ≡ slip_bits es ++ replicate (padding (length (slip_bits es))) 0
unfolding slip_of
bits_of_slip es = bits_of_packed (slip_bits es) (below_slip_bits es)

-- ---- bytes that read as a slip of n entries, with nothing but padding behind them

pub record Reads (s : List ℕ) (n : ℕ) (es : List Entry) : Type 0 where
  pub head : header_bits ≤ length (bits_of s)
  pub edition_is : num_of (take edition_bits (bits_of s)) ≡ edition
  pub count_is : num_of (take count_bits (drop edition_bits (bits_of s))) ≡ n
  pub pad : ℕ
  pub few : pad < 8
  pub rows : read_all n (drop header_bits (bits_of s)) ≡ record { rows = es; rest = replicate pad 0; whole = true }

-- the slip of proper entries reads back
pub slip_reads : (es : List Entry) → AllProper es → length es ≤ max_nodes → Reads (slip_of es) (length es) es
unfolding slip_of slip_bits
slip_reads es p few =
    let n : ℕ = length es in
    let k : ℕ = padding (length (slip_bits es)) in
    let z : List ℕ = replicate k 0 in
    let c : List ℕ = bits_in count_bits n ++ (all_bits es ++ z) in
    let b : bits_of (slip_of es) ≡ bits_in edition_bits edition ++ c =
    bits_of_slip es
    ∙ append_assoc (bits_in edition_bits edition) (bits_in count_bits n ++ all_bits es) z
    ∙ ap (λ (l : List ℕ). bits_in edition_bits edition ++ l) (append_assoc (bits_in count_bits n) (all_bits es) z) in
    let d : drop edition_bits (bits_of (slip_of es)) ≡ c = ap (drop edition_bits) b ∙ field_rest edition_bits edition c in
    let r : drop header_bits (bits_of (slip_of es)) ≡ all_bits es ++ z =
    sym (drop-drop count_bits edition_bits (bits_of (slip_of es))) ∙ ap (drop count_bits) d ∙ field_rest count_bits n (all_bits es ++ z) in
    record {
      head =
          subst (λ (l : List ℕ). header_bits ≤ length l) (sym b)
          (omega (
            arith,
            length-append (bits_in edition_bits edition) c,
            length-append (bits_in count_bits n) (all_bits es ++ z),
            length_bits_in edition_bits edition,
            length_bits_in count_bits n,
          ));
      edition_is = ap (λ (l : List ℕ). num_of (take edition_bits l)) b ∙ field_value edition_bits edition c (omega arith);
      count_is = ap (λ (l : List ℕ). num_of (take count_bits l)) d ∙ field_value count_bits n (all_bits es ++ z) (omega arith);
      pad = k;
      few = padding_few (length (slip_bits es));
      rows = ap (read_all n) r ∙ read_all_written es z p;
    }

-- bytes that read as a slip are the slip of the rows read, and those are proper and n
pub reads_slip : (s : List ℕ) (n : ℕ) (es : List Entry) → Below 256 s → Reads s n es → (s ≡ slip_of es) × AllProper es × (length es ≡ n)
unfolding slip_of slip_bits
reads_slip s n es bytes r =
    let b : List ℕ = bits_of s in
    let below : Below 2 b = below_bits_of s in
    let d : List ℕ = drop edition_bits b in
    let x : List ℕ = drop header_bits b in
    let was : Was n x (read_all n x) = read_all_was n x (below_drop 2 header_bits b below) in
    let rows : (read_all n x).rows ≡ es = ap (λ (y : Reading). y.rows) r.rows in
    let rest : (read_all n x).rest ≡ replicate r.pad 0 = ap (λ (y : Reading). y.rest) r.rows in
    let count : length es ≡ n = ap length (sym rows) ∙ was.count (ap (λ (y : Reading). y.whole) r.rows) in
    let z : List ℕ = replicate r.pad 0 in
    let tail : drop count_bits d ≡ all_bits es ++ z =
    drop-drop count_bits edition_bits b ∙ sym was.bits ∙ ap₂ (λ (l : List Entry) (m : List ℕ). all_bits l ++ m) rows rest in
    let c : d ≡ bits_in count_bits (length es) ++ (all_bits es ++ z) =
    sym (field_back count_bits d (below_drop 2 edition_bits b below) (omega (arith, length-drop edition_bits b, r.head)))
    ∙ ap₂ (λ (m : ℕ) (l : List ℕ). bits_in count_bits m ++ l) (r.count_is ∙ sym count) tail in
    let all : b ≡ slip_bits es ++ z =
    sym (field_back edition_bits b below (omega (arith, r.head)))
    ∙ ap₂ (λ (m : ℕ) (l : List ℕ). bits_in edition_bits m ++ l) r.edition_is c
    ∙ ap (λ (l : List ℕ). bits_in edition_bits edition ++ l) (sym (append_assoc (bits_in count_bits (length es)) (all_bits es) z))
    ∙ sym (append_assoc (bits_in edition_bits edition) (bits_in count_bits (length es) ++ all_bits es) z) in
    (packed_is s (slip_bits es) r.pad bytes r.few all, subst AllProper rows was.proper, count)

-- two lists of proper entries with one slip are one list
pub slip_unique : (es fs : List Entry) → AllProper es → AllProper fs → length es ≤ max_nodes → length fs ≤ max_nodes → slip_of es ≡ slip_of fs → es ≡ fs
slip_unique es fs p q h g e =
    let a : Reads (slip_of es) (length es) es = slip_reads es p h in
    let b : Reads (slip_of es) (length fs) fs = subst (λ (s : List ℕ). Reads s (length fs) fs) (sym e) (slip_reads fs q g) in
    let n : length es ≡ length fs = sym a.count_is ∙ b.count_is in
    ap (λ (y : Reading). y.rows)
    (sym a.rows ∙ ap (λ (k : ℕ). read_all k (drop header_bits (bits_of (slip_of es)))) n ∙ b.rows)
