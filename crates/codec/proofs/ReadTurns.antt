-- The reader's loop: what holds at each turn, one turn, and its two ends.
use mathlib.Core.Path.{◌≡◌, refl, sym, ap, subst, ◌∙◌}
use mathlib.Core.List.{List, [], ◌∷◌, ◌++◌, append_assoc, append-nil}
use Prim.Native.Nat.{ℕ, suc, ◌+◌, ◌-◌, ◌*◌, ◌≤◌, ◌<◌}
use native.Mathlib.Numerals.{add-one}
use native.Mathlib.Omega.{arith}
use Rattle.std.specs.Prelude.{Result, Ok, Err, is_ok}
use lib.ListN.{length, take, drop, set, length-append, length-drop}
use lib.Seq.{take-suc-set, take_at, length-take-le, append_snoc}
use Rattle.bits.specs.Bits.{bits_of, octets}
use Rattle.bits.specs.ByteLaws.{length_octets}
use Rattle.trees.specs.Rows.{Entry}
use Rattle.tables.specs.Tables.{entry_of, entries, first_bad, sum}
use Rattle.tables.specs.TablesLaws.{length_entries}
use Rattle.codec.specs.Reading.{Read, short, read_one, Reading, add, after, read_all}
use Rattle.codec.specs.TableLaws.{entries_snoc, sum_snoc, form_snoc}
use Rattle.tables.specs.Limits.{header_bits}
use Rattle.codec.specs.Reader.{RowIs, stop, FillAsks, FillGives}
use Rattle.codec.specs.declared.row.Row.{Row}

-- rows read before
abbrev adds : List Entry → Reading → Reading
adds es x = record { rows = es ++ x.rows; rest = x.rest; whole = x.whole }

-- the rows so far, with what the bits from `at` on still give, are what the whole gives
pub record Going (s : List ℕ) (n : ℕ) (T C L W : List ℕ) (at used i : ℕ) : Type 0 where
  pub left : read_all n (drop header_bits (bits_of s)) ≡ adds (entries (take i T) (take i C) (take i L) (take used W)) (read_all (n - i) (drop at (bits_of s)))
  pub few : i ≤ n
  pub form : first_bad 0 (take i T) (take i C) (take i L) ≡ i
  pub sums : used ≡ sum (take i L)
  pub packed : 8 * used ≤ at
  pub within : at ≤ 8 * length s

pub started : (s : List ℕ) (n : ℕ) (T C L W : List ℕ) → FillAsks s n T C L W → Going s n T C L W header_bits 0 0
unfolding first_bad sum
started s n T C L W a =
    record {
      left = ap (λ (k : ℕ). read_all k (drop header_bits (bits_of s))) (omega arith);
      few = omega arith;
      form = refl;
      sums = refl;
      packed = omega arith;
      within = a.head;
    }

-- a cell is stored behind the first i
stored : (c : List ℕ) (i x : ℕ) → i < length c → take (i + 1) (set c i x) ≡ take i c ++ (x ∷ [])
stored c i x h = ap (λ (k : ℕ). take k (set c i x)) (add-one i) ∙ take-suc-set c i x h

module _ {s : List ℕ} {n : ℕ} {T C L W : List ℕ} {at used i : ℕ} (g : Going s n T C L W at used i) where
  -- a turn
  pub went : (r : Row) (part : List ℕ) → i < n → n ≤ length T → n ≤ length C → n ≤ length L → length s ≤ length W
      → RowIs s at (read_one (drop at (bits_of s))) r
      → part ≡ octets (length (take (used + r.length - used) (drop used W))) (drop r.from (bits_of s))
      → Going s n (set T i r.kind) (set C i r.count) (set L i r.length) (take used W ++ (part ++ drop (used + r.length - used) (drop used W)))
      (r.from + 8 * r.length) (used + r.length) (i + 1)
  unfolding read_all
  went r part h hT hC hL hW is e =
      let l : ℕ = r.length in
      let b : List ℕ = bits_of s in
      let next : List ℕ = drop (r.from + 8 * l) b in
      let v : List ℕ = octets l (drop r.from b) in
      let x : Entry = entry_of r.kind r.count v in
      let fits : used + l ≤ length W = omega (arith, g.packed, is.onward, is.fits) in
      let mid : length (take (used + l - used) (drop used W)) ≡ l =
      length-take-le (used + l - used) (drop used W) (omega (arith, length-drop used W)) ∙ omega arith in
      let p : part ≡ v = e ∙ ap (λ (k : ℕ). octets k (drop r.from b)) mid in
      let nu : length (take used W) ≡ used = length-take-le used W (omega arith) in
      let np : length part ≡ l = ap length p ∙ length_octets l (drop r.from b) in
      let W' : List ℕ = take used W ++ (part ++ drop (used + l - used) (drop used W)) in
      let t_w : take (used + l) W' ≡ take used W ++ v =
      ap (take (used + l)) (sym (append_assoc (take used W) part (drop (used + l - used) (drop used W))))
      ∙ take_at (take used W ++ part) (drop (used + l - used) (drop used W)) (used + l) (length-append (take used W) part ∙ omega arith)
      ∙ ap (λ (w : List ℕ). take used W ++ w) p in
      let t_t : take (i + 1) (set T i r.kind) ≡ take i T ++ (r.kind ∷ []) = stored T i r.kind (omega arith) in
      let t_c : take (i + 1) (set C i r.count) ≡ take i C ++ (r.count ∷ []) = stored C i r.count (omega arith) in
      let t_l : take (i + 1) (set L i l) ≡ take i L ++ (l ∷ []) = stored L i l (omega arith) in
      let l_t : length (take i T) ≡ i = length-take-le i T (omega arith) in
      let l_c : length (take i C) ≡ length (take i T) = length-take-le i C (omega arith) ∙ sym l_t in
      let l_l : length (take i L) ≡ length (take i T) = length-take-le i L (omega arith) ∙ sym l_t in
      let rows : entries (take (i + 1) (set T i r.kind)) (take (i + 1) (set C i r.count)) (take (i + 1) (set L i l)) (take (used + l) W')
      ≡ entries (take i T) (take i C) (take i L) (take used W) ++ (x ∷ []) =
      (λ j. entries (t_t j) (t_c j) (t_l j) (t_w j))
      ∙ entries_snoc (take i T) (take i C) (take i L) (take used W) r.kind r.count l v l_c l_l (sym g.sums ∙ sym nu) (length_octets l (drop r.from b)) in
      let count : n - i ≡ suc (n - (i + 1)) = omega arith in
      let one : read_all (n - i) (drop at b) ≡ add x (read_all (n - (i + 1)) next) =
      ap (λ (k : ℕ). read_all k (drop at b)) count
      ∙ ap (λ (y : Read). after y (drop at b) (λ z. read_all (n - (i + 1)) z)) is.entry in
      let before : List Entry = entries (take i T) (take i C) (take i L) (take used W) in
      let more : Reading = read_all (n - (i + 1)) next in
      record {
        left =
            g.left
            ∙ ap (adds before) one
            ∙ (λ j. record { rows = sym (append_snoc before x more.rows) j; rest = more.rest; whole = more.whole })
            ∙ ap (λ (es : List Entry). adds es more) (sym rows);
        few = omega arith;
        form =
            (λ j. first_bad 0 (t_t j) (t_c j) (t_l j))
            ∙ form_snoc 0 (take i T) (take i C) (take i L) r.kind r.count l l_c l_l (g.form ∙ omega arith) is.form
            ∙ omega arith;
        sums = sym (ap sum t_l ∙ sum_snoc (take i L) l ∙ ap (λ (k : ℕ). k + l) (sym g.sums));
        packed = omega (arith, g.packed, is.onward);
        within = is.fits;
      }

  -- the end, where the bits from `at` on give nothing more
  ended : (r : Result ℕ ℕ) → stop r ≡ at → n ≤ length T → n ≤ length C → n ≤ length L → length s ≤ length W
      → read_all (n - i) (drop at (bits_of s)) ≡ record { rows = []; rest = drop at (bits_of s); whole = is_ok r }
      → FillGives s n (read_all n (drop header_bits (bits_of s))) (record { rows = i; used = used; rest = r }) T C L W
  ended r here hT hC hL hW e =
      let before : List Entry = entries (take i T) (take i C) (take i L) (take used W) in
      let x : Reading = read_all n (drop header_bits (bits_of s)) in
      let end : x ≡ record { rows = before ++ []; rest = drop at (bits_of s); whole = is_ok r } = g.left ∙ ap (adds before) e in
      let rows : before ≡ x.rows = sym (ap (λ (y : Reading). y.rows) end ∙ append-nil before) in
      let l_t : length (take i T) ≡ i = length-take-le i T (omega (arith, g.few)) in
      let l_c : length (take i C) ≡ i = length-take-le i C (omega (arith, g.few)) in
      let l_l : length (take i L) ≡ i = length-take-le i L (omega (arith, g.few)) in
      record {
        rows = rows;
        count = sym (ap length (sym rows) ∙ length_entries (take i T) (take i C) (take i L) (take used W) (l_c ∙ sym l_t) (l_l ∙ sym l_t) ∙ l_t);
        few = g.few;
        whole = sym (ap (λ (y : Reading). y.whole) end);
        rest = ap (λ (k : ℕ). drop k (bits_of s)) here ∙ sym (ap (λ (y : Reading). y.rest) end);
        within = omega (arith, g.within);
        form = g.form;
        used = g.sums;
        packed = omega (arith, g.packed);
        room = omega (arith, g.packed, g.within);
      }

  -- all that were asked for are read
  pub ended_whole : n ≤ i → n ≤ length T → n ≤ length C → n ≤ length L → length s ≤ length W
      → FillGives s n (read_all n (drop header_bits (bits_of s))) (record { rows = n; used = used; rest = Ok at }) T C L W
  unfolding read_all
  ended_whole h hT hC hL hW =
      let all : i ≡ n = omega (arith, g.few) in
      let none : n - i ≡ 0 = omega arith in
      subst (λ (k : ℕ). FillGives s n (read_all n (drop header_bits (bits_of s))) (record { rows = k; used = used; rest = Ok at }) T C L W) all
      (ended (Ok at) refl hT hC hL hW (ap (λ (k : ℕ). read_all k (drop at (bits_of s))) none))

  -- the bits end inside an entry
  pub ended_short : i < n → read_one (drop at (bits_of s)) ≡ short → n ≤ length T → n ≤ length C → n ≤ length L → length s ≤ length W
      → FillGives s n (read_all n (drop header_bits (bits_of s))) (record { rows = i; used = used; rest = Err at }) T C L W
  unfolding read_all
  ended_short h e hT hC hL hW =
      let count : n - i ≡ suc (n - (i + 1)) = omega arith in
      ended (Err at) refl hT hC hL hW
      (ap (λ (k : ℕ). read_all k (drop at (bits_of s))) count
      ∙ ap (λ (y : Read). after y (drop at (bits_of s)) (λ z. read_all (n - (i + 1)) z)) e)
