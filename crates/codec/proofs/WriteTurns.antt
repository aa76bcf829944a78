-- The writer's loop: what holds at each turn, one turn, and the end.
use mathlib.Core.Path.{◌≡◌, refl, sym, ap, ap₂, subst, ◌∙◌}
use mathlib.Core.Bool.{true}
use mathlib.Core.List.{List, [], ◌∷◌, ◌++◌, append_assoc, append-nil}
use Prim.Native.Nat.{ℕ, ◌+◌, ◌-◌, ◌≤◌, ◌<◌}
use native.Mathlib.Omega.{arith}
use lib.ListN.{length, take, drop, get_or, length-append, length-drop, drop_of_length-le}
use lib.Seq.{drop-drop, length-take-le}
use Rattle.bits.specs.Bits.{bits_in, packed}
use Rattle.bits.specs.FieldLaws.{length_bits_in}
use Rattle.bits.specs.ByteLaws.{length_packed}
use Rattle.bits.specs.Ink.{ink, PenReady, PutAsks, PutGives, FinishGives}
use Rattle.bits.specs.InkLaws.{start, ink_start, ready_start, length_ink, rest_later, wrote_both, room_less, room_after}
use Rattle.bits.specs.declared.pen.Pen.{Pen}
use Rattle.trees.specs.Rows.{Entry}
use Rattle.tables.specs.Limits.{edition, edition_bits, count_bits, header_bits}
use Rattle.tables.specs.Tables.{entry_of, entries, row_fits, first_bad, sum, Columns, FormedIn}
use Rattle.tables.specs.TablesLaws.{length_entries}
use Rattle.codec.specs.Writing.{entry_bits, all_bits, slip_bits, slip_of}
use Rattle.codec.specs.TableLaws.{entries_off, form_off, sum_off}
use Rattle.codec.specs.MeasureLaws.{slip_bits_long, slip_bytes_long}
use Rattle.codec.specs.Writer.{WriteAsks, WriteGives}

-- the header's bits of n rows
abbrev head : ℕ → List ℕ
head n = bits_in edition_bits edition ++ bits_in count_bits n

-- from p and x on, the rows before i are written, and the values before `used`
pub record Penned (p : Pen) (x T C L W : List ℕ) (q : Pen) (y : List ℕ) (used i : ℕ) : Type 0 where
  pub done : List ℕ
  pub wrote : PutGives p x done q y
  pub left : done ++ all_bits (entries (drop i T) (drop i C) (drop i L) (drop used W)) ≡ all_bits (entries T C L W)
  pub filled : used + sum (drop i L) ≤ length W
  pub form : first_bad i (drop i T) (drop i C) (drop i L) ≡ length T
  pub few : i ≤ length T

-- the cells of row i
pub record Cells (T C L : List ℕ) (i t c l : ℕ) : Type 0 where
  pub within : i < length T
  pub type : t ≡ get_or T i 0
  pub count : c ≡ get_or C i 0
  pub size : l ≡ get_or L i 0

pub begun : (T C L W : List ℕ) (p : Pen) (x : List ℕ) → PenReady p x → FormedIn T C L W → Penned p x T C L W p x 0 0
begun T C L W p x r f =
    record {
      done = [];
      wrote = record { bits = sym (append-nil (ink p x)); ready = r; size = omega arith; rest = refl };
      left = refl;
      filled = omega (arith, f.area);
      form = f.rows;
      few = omega arith;
    }

module _ {T C L W : List ℕ} {p : Pen} {x : List ℕ} {q : Pen} {y : List ℕ} {used i : ℕ} (g : Penned p x T C L W q y used i) (cols : Columns T C L) where
  module _ {t c l : ℕ} (cells : Cells T C L i t c l) where
    -- the row's part of the values, as the code cuts it
    abbrev value : List ℕ
    value = take (used + l - used) (drop used W)

    -- the rows behind it
    abbrev behind : List Entry
    behind = entries (drop (i + 1) T) (drop (i + 1) C) (drop (i + 1) L) (drop (used + l) W)

    row_of_lengths : sum (drop i L) ≡ l + sum (drop (i + 1) L)
    row_of_lengths = sum_off L i (omega (arith, cells.within, cols.lengths_long)) ∙ ap (λ (k : ℕ). k + sum (drop (i + 1) L)) (sym cells.size)

    pub value_fits : used + l ≤ length W
    value_fits = omega (arith, g.filled, row_of_lengths)

    value_is : value ≡ take l (drop used W)
    value_is =
        let n : used + l - used ≡ l = omega arith in
        ap (λ (k : ℕ). take k (drop used W)) n

    value_long : length value ≡ l
    value_long = ap length value_is ∙ length-take-le l (drop used W) (omega (arith, length-drop used W, value_fits))

    -- the rows that remain are this one and those behind it
    remains : entries (drop i T) (drop i C) (drop i L) (drop used W) ≡ entry_of t c value ∷ behind
    remains =
        entries_off T C L i cols.counts_long cols.lengths_long cells.within (drop used W)
        ∙ (λ j.
        entry_of (sym cells.type j) (sym cells.count j) (take (sym cells.size j) (drop used W))
        ∷ entries (drop (i + 1) T) (drop (i + 1) C) (drop (i + 1) L) (drop (sym cells.size j) (drop used W)))
        ∙ (λ j. entry_of t c (sym value_is j) ∷ entries (drop (i + 1) T) (drop (i + 1) C) (drop (i + 1) L) (drop-drop l used W j))

    -- what is written of the table before the row, its entry, and those behind it
    split : g.done ++ (entry_bits (entry_of t c value) ++ all_bits behind) ≡ all_bits (entries T C L W)
    unfolding all_bits
    split = ap (λ (es : List Entry). g.done ++ all_bits es) (sym remains) ∙ g.left

    form : (row_fits (get_or T i 0) (get_or C i 0) (get_or L i 0) ≡ true) × (first_bad (i + 1) (drop (i + 1) T) (drop (i + 1) C) (drop (i + 1) L) ≡ length T)
    form = form_off T C L i cols.counts_long cols.lengths_long cells.within g.form

    pub row_form : row_fits t c (length value) ≡ true
    row_form = (λ j. row_fits (cells.type j) (cells.count j) ((value_long ∙ cells.size) j)) ∙ form.0

    pub row_room : PutAsks p (length (all_bits (entries T C L W))) x → length y ≡ length x → PutAsks q (length (entry_bits (entry_of t c value))) y
    row_room r same =
        let e : List ℕ = entry_bits (entry_of t c value) in
        let b : List ℕ = all_bits behind in
        let n : length (all_bits (entries T C L W)) ≡ length g.done + (length e + length b) =
        ap length (sym split) ∙ length-append g.done (e ++ b) ∙ ap (λ (k : ℕ). length g.done + k) (length-append e b) in
        room_less q (length e) (length e + length b) y (omega arith)
        (room_after p x g.done q y (length e + length b) (subst (λ (k : ℕ). PutAsks p k x) n r) g.wrote same)

    -- a turn
    pub turned : (q' : Pen) (y' : List ℕ) → PutGives q y (entry_bits (entry_of t c value)) q' y' → Penned p x T C L W q' y' (used + l) (i + 1)
    turned q' y' w =
        let e : List ℕ = entry_bits (entry_of t c value) in
        record {
          done = g.done ++ e;
          wrote = wrote_both p x g.done q y e q' y' g.wrote w;
          left = append_assoc g.done e (all_bits behind) ∙ split;
          filled = omega (arith, g.filled, row_of_lengths);
          form = form.1;
          few = omega (arith, cells.within);
        }

  -- the end
  pub closed : length T ≤ i → PutGives p x (all_bits (entries T C L W)) q y
  unfolding all_bits
  closed h =
      let none : drop i T ≡ [] = drop_of_length-le T {i = i} h in
      let e : g.done ≡ all_bits (entries T C L W) =
      sym (append-nil g.done)
      ∙ ap (λ (l : List ℕ). g.done ++ all_bits (entries l (drop i C) (drop i L) (drop used W))) (sym none)
      ∙ g.left in
      subst (λ (l : List ℕ). PutGives p x l q y) e g.wrote

module _ (T C L W out : List ℕ) (a : WriteAsks T C L W out) where
  pub all_room : PutAsks start (length (head (length T)) + length (all_bits (entries T C L W))) out
  all_room =
      let es : List Entry = entries T C L W in
      let n : ℕ = length T in
      record {
        ready = ready_start out;
        fits =
            omega (
              arith,
              a.room,
              slip_bytes_long es,
              slip_bits_long es,
              length-append (bits_in edition_bits edition) (bits_in count_bits n),
              length_bits_in edition_bits edition,
              length_bits_in count_bits n,
            );
      }

  pub head_room : PutAsks start header_bits out
  head_room =
      let n : ℕ = length T in
      room_less start header_bits (length (head n) + length (all_bits (entries T C L W))) out
      (omega (arith, length-append (bits_in edition_bits edition) (bits_in count_bits n), length_bits_in edition_bits edition, length_bits_in count_bits n))
      all_room

  pub rows_room : (p : Pen) (x : List ℕ) → PutGives start out (head (length T)) p x → length x ≡ length out → PutAsks p (length (all_bits (entries T C L W))) x
  rows_room p x w same = room_after start out (head (length T)) p x (length (all_bits (entries T C L W))) all_room w same

  pub written : (p : Pen) (x : List ℕ) (q : Pen) (y : List ℕ) (r : ℕ) (z : List ℕ) → PutGives start out (head (length T)) p x
      → PutGives p x (all_bits (entries T C L W)) q y → FinishGives q y r z → WriteGives T C L W out r z
  unfolding slip_of slip_bits
  written p x q y r z v w f =
      let es : List Entry = entries T C L W in
      let n : ℕ = length T in
      let both : PutGives start out (head n ++ all_bits es) q y = wrote_both start out (head n) p x (all_bits es) q y v w in
      let rows : length es ≡ n = length_entries T C L W a.form.columns.counts_long a.form.columns.lengths_long in
      let all : ink q y ≡ slip_bits es =
      both.bits
      ∙ ap (λ (l : List ℕ). l ++ (head n ++ all_bits es)) (ink_start out)
      ∙ append_assoc (bits_in edition_bits edition) (bits_in count_bits n) (all_bits es)
      ∙ ap (λ (k : ℕ). bits_in edition_bits edition ++ (bits_in count_bits k ++ all_bits es)) (sym rows) in
      let later : q.at ≤ r = omega (arith, f.size, length_packed (ink q y), length_ink q y both.ready.within) in
      record {
        bytes =
            f.bytes
            ∙ ap₂ (λ (k l : List ℕ). packed k ++ l) all (rest_later q.at r y out later both.rest);
        size = f.size ∙ ap (λ (l : List ℕ). length (packed l)) all;
      }
