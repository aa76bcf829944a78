-- Writing: what a pen holds, one byte more, a run of bytes, and the end.
use mathlib.Core.Path.{◌≡◌, sym, ap, ap₂, subst, ◌∙◌}
use mathlib.Core.List.{List, [], ◌∷◌, ◌++◌, append_assoc, append-nil}
use Prim.Native.Nat.{ℕ, ◌+◌, ◌-◌, ◌*◌, ◌/◌, ◌%◌, ◌^◌, ◌≤◌, ◌<◌}
use native.Mathlib.Nat.{add_comm, mod-lt, lt_of_lt_of_le}
use native.Mathlib.Numerals.{add-one}
use native.Mathlib.Omega.{arith}
use lib.Pow.{pow_pos, pow_mono, shl_lt, shl_exact}
use lib.ListN.{length, take, drop, get_or, set, replicate, length-append, length-drop, take-append-drop}
use lib.Seq.{take-suc-set, take-suc, drop-set-lt, drop-drop, length-take-le, take_at, drop_at}
use Rattle.lists.specs.Lists.{Below}
use Rattle.lists.specs.ListsLaws.{below_take}
use Rattle.bits.specs.Bits.{bits_in, bits_of, packed}
use Rattle.bits.specs.FieldLaws.{length_bits_in, bits_mod, bits_split, bits_join, bits_zero}
use Rattle.bits.specs.ByteLaws.{length_bits_of, bits_of_append, packed_is}
use Rattle.bits.specs.Ink.{ink, PutAsks, PutGives, FinishGives}
use Rattle.bits.specs.declared.pen.Pen.{Pen}
use Rattle.bits.proofs.Windows.{one_shl}

-- the bits of a list of bytes with one more at its end
bits_of_snoc : (s : List ℕ) (x : ℕ) → bits_of (s ++ (x ∷ [])) ≡ bits_of s ++ bits_in 8 x
unfolding bits_of
bits_of_snoc s x = bits_of_append s (x ∷ []) ∙ ap (λ (l : List ℕ). bits_of s ++ l) (append-nil (bits_in 8 x))

-- the bits of the first bytes after a store behind them
pub stored : (out : List ℕ) (at w k : ℕ) → at < length out → bits_of (take (at + 1) (set out at (w / 2 ^ k % 256))) ++ bits_in k w ≡ bits_of (take at out) ++ bits_in (8 + k) w
stored out at w k h =
    let x : ℕ = w / 2 ^ k % 256 in
    ap (λ (j : ℕ). bits_of (take j (set out at x)) ++ bits_in k w) (add-one at)
    ∙ ap (λ (l : List ℕ). bits_of l ++ bits_in k w) (take-suc-set out at x h)
    ∙ ap (λ (l : List ℕ). l ++ bits_in k w) (bits_of_snoc (take at out) x)
    ∙ append_assoc (bits_of (take at out)) (bits_in 8 x) (bits_in k w)
    ∙ ap (λ (l : List ℕ). bits_of (take at out) ++ (l ++ bits_in k w)) (bits_mod 8 (w / 2 ^ k))
    ∙ ap (λ (l : List ℕ). bits_of (take at out) ++ l) (sym (bits_split 8 k w))

-- what a pen holds and a field behind it are one number, which fits a word
pub word_small : (acc v held n : ℕ) → acc < 2 ^ held → v < 2 ^ n → held < 8 → n ≤ 16 → acc * 2 ^ n + v < 2 ^ 24
word_small acc v held n ha hv few h =
    let a : acc < 2 ^ 7 = lt_of_lt_of_le ha (pow_mono {j = 7} (omega arith)) in
    let e : 2 ^ n ≤ 2 ^ 16 = pow_mono h in
    let b : acc * 2 ^ n < 2 ^ (7 + 16) = lt_of_lt_of_le (shl_lt 7 n a) (pow_mono {j = 7 + 16} (omega arith)) in
    omega arith

-- the shift loses nothing
pub word_shl : (acc held n : ℕ) → acc < 2 ^ held → held < 8 → n ≤ 16 → acc * 2 ^ n % 2 ^ 64 ≡ acc * 2 ^ n
word_shl acc held n h few g = shl_exact held n 64 h (omega arith)

-- a turn of the loop that empties the word into bytes
pub emptied : (out : List ℕ) (at w held : ℕ) (b : List ℕ) → 8 ≤ held → at < length out → bits_of (take at out) ++ bits_in held w ≡ b
    → bits_of (take (at + 1) (set out at (w / 2 ^ (held - 8) % 256))) ++ bits_in (held - 8) w ≡ b
emptied out at w held b h within e =
    let k : 8 + (held - 8) ≡ held = omega arith in
    stored out at w (held - 8) within ∙ ap (λ (j : ℕ). bits_of (take at out) ++ bits_in j w) k ∙ e

-- a store leaves what is behind it as it was
pub rest_more : (out₀ out : List ℕ) (at x : ℕ) → drop at out ≡ drop at out₀ → drop (at + 1) (set out at x) ≡ drop (at + 1) out₀
rest_more out₀ out at x e =
    drop-set-lt (at + 1) out at x (omega arith) ∙ sym (drop-drop 1 at out) ∙ ap (drop 1) e ∙ drop-drop 1 at out₀

-- a field is written
pub field_written : (pen : Pen) (v n : ℕ) (out out' : List ℕ) (held at : ℕ) → PutAsks pen n out → n ≤ 16 → v < 2 ^ n
    → (let w : ℕ = pen.acc * 2 ^ n % 2 ^ 64 + v in
    bits_of (take at out') ++ bits_in held w ≡ bits_of (take pen.at out) ++ bits_in (pen.held + n) w)
    → held < 8 → 8 * at + held ≡ 8 * pen.at + (pen.held + n) → length out' ≡ length out → drop at out' ≡ drop at out
    → PutGives pen out (bits_in n v) (record { acc = (pen.acc * 2 ^ n % 2 ^ 64 + v) % (1 * 2 ^ held % 2 ^ 64); held = held; at = at }) out'
unfolding ink
field_written pen v n out out' held at room h small e few size same rest =
    let w : ℕ = pen.acc * 2 ^ n % 2 ^ 64 + v in
    let shl : w ≡ pen.acc * 2 ^ n + v = ap (λ (k : ℕ). k + v) (word_shl pen.acc pen.held n room.ready.small room.ready.few h) in
    let low : w % (1 * 2 ^ held % 2 ^ 64) ≡ w % 2 ^ held = ap (λ (k : ℕ). w % k) (one_shl held (omega arith)) in
    record {
      bits =
          ap (λ (k : ℕ). bits_of (take at out') ++ bits_in held k) low
          ∙ ap (λ (l : List ℕ). bits_of (take at out') ++ l) (bits_mod held w)
          ∙ e
          ∙ ap (λ (k : ℕ). bits_of (take pen.at out) ++ bits_in (pen.held + n) k) shl
          ∙ ap (λ (l : List ℕ). bits_of (take pen.at out) ++ l) (bits_join pen.held n pen.acc small)
          ∙ sym (append_assoc (bits_of (take pen.at out)) (bits_in pen.held pen.acc) (bits_in n v));
      ready = record {
        few = few;
        small = subst (λ (k : ℕ). k < 2 ^ held) (sym low) (mod-lt w (pow_pos held));
        within = omega (arith, room.fits);
      };
      size = omega (arith, length_bits_in n v);
      rest = rest;
    }

-- no byte is shifted yet
pub nothing_shifted : (acc held : ℕ) → bits_of [] ++ bits_in held acc ≡ bits_in held acc ++ bits_of []
unfolding bits_of
nothing_shifted acc held = sym (append-nil (bits_in held acc))

-- a turn of the loop that shifts a run of bytes
pub shifted_in : (acc held : ℕ) (src dst : List ℕ) (j rest x : ℕ) → held < 8 → j < length src → j < length dst → x ≡ get_or src j 0 → x < 256
    → bits_of (take j dst) ++ bits_in held rest ≡ bits_in held acc ++ bits_of (take j src)
    → bits_of (take (j + 1) (set dst j ((rest * 256 + x) / 2 ^ held % 256))) ++ bits_in held ((rest * 256 + x) % (1 * 2 ^ held % 2 ^ 64))
    ≡ bits_in held acc ++ bits_of (take (j + 1) src)
shifted_in acc held src dst j rest x few hs hd ex small e =
    let w : ℕ = rest * 256 + x in
    let d : List ℕ = bits_of (take (j + 1) (set dst j (w / 2 ^ held % 256))) in
    ap (λ (k : ℕ). d ++ bits_in held (w % k)) (one_shl held (omega arith))
    ∙ ap (λ (l : List ℕ). d ++ l) (bits_mod held w)
    ∙ stored dst j w held hd
    ∙ ap (λ (k : ℕ). bits_of (take j dst) ++ bits_in k w) (add_comm 8 held)
    ∙ ap (λ (l : List ℕ). bits_of (take j dst) ++ l) (bits_join held 8 rest small)
    ∙ sym (append_assoc (bits_of (take j dst)) (bits_in held rest) (bits_in 8 x))
    ∙ ap (λ (l : List ℕ). l ++ bits_in 8 x) e
    ∙ append_assoc (bits_in held acc) (bits_of (take j src)) (bits_in 8 x)
    ∙ ap (λ (l : List ℕ). bits_in held acc ++ l)
    (sym (bits_of_snoc (take j src) x)
    ∙ ap (λ (k : ℕ). bits_of (take j src ++ (k ∷ []))) ex
    ∙ ap bits_of (sym (take-suc src j 0 hs) ∙ ap (λ (k : ℕ). take k src) (sym (add-one j))))

-- a run is written into a part of out
pub run_written : (pen : Pen) (acc : ℕ) (src out part : List ℕ) → PutAsks pen (8 * length src) out → length part ≡ length src → acc < 2 ^ pen.held
    → bits_of part ++ bits_in pen.held acc ≡ bits_in pen.held pen.acc ++ bits_of src
    → PutGives pen out (bits_of src) (record { acc = acc; held = pen.held; at = pen.at + length src })
    (take pen.at out ++ (part ++ drop (pen.at + length src - pen.at) (drop pen.at out)))
unfolding ink
run_written pen acc src out part room long small e =
    let at : ℕ = pen.at in
    let end : ℕ = at + length src in
    let a : List ℕ = take at out in
    let out' : List ℕ = a ++ (part ++ drop (end - at) (drop at out)) in
    let na : length a ≡ at = length-take-le at out room.ready.within in
    let n : length (a ++ part) ≡ end = length-append a part ∙ omega arith in
    let back : at + (end - at) ≡ end = omega arith in
    let g : out' ≡ (a ++ part) ++ drop end out =
    sym (append_assoc a part (drop (end - at) (drop at out)))
    ∙ ap (λ (l : List ℕ). (a ++ part) ++ l) (drop-drop (end - at) at out ∙ ap (λ (k : ℕ). drop k out) back) in
    let t : take end out' ≡ a ++ part = ap (take end) g ∙ take_at (a ++ part) (drop end out) end n in
    let whole : length out' ≡ length out = ap length g ∙ length-append (a ++ part) (drop end out) ∙ omega (arith, length-drop end out, room.fits) in
    record {
      bits =
          ap (λ (l : List ℕ). bits_of l ++ bits_in pen.held acc) t
          ∙ ap (λ (l : List ℕ). l ++ bits_in pen.held acc) (bits_of_append a part)
          ∙ append_assoc (bits_of a) (bits_of part) (bits_in pen.held acc)
          ∙ ap (λ (l : List ℕ). bits_of a ++ l) e
          ∙ sym (append_assoc (bits_of a) (bits_in pen.held pen.acc) (bits_of src));
      ready = record { few = room.ready.few; small = small; within = omega (arith, room.fits) };
      size = omega (arith, length_bits_of src);
      rest = ap (drop end) g ∙ drop_at (a ++ part) (drop end out) end n;
    }

-- where the pen holds nothing, the part is the run itself
pub run_aligned : (held acc : ℕ) (src part : List ℕ) → held ≡ 0 → part ≡ src
    → bits_of part ++ bits_in held acc ≡ bits_in held acc ++ bits_of src
unfolding bits_in
run_aligned held acc src part none p =
    ap (λ (k : ℕ). bits_of part ++ bits_in k acc) none
    ∙ append-nil (bits_of part)
    ∙ ap bits_of p
    ∙ ap (λ (k : ℕ). bits_in k acc ++ bits_of src) (sym none)

-- where the last byte is filled with zero bits, what was written is packed
pub finished : (pen : Pen) (out : List ℕ) (last : Pen) (out' : List ℕ) → pen.held < 8 → Below 256 out'
    → PutGives pen out (bits_in ((8 - pen.held) % 8) 0) last out' → FinishGives pen out last.at out'
unfolding ink bits_in
finished pen out last out' few bytes w =
    let g : ℕ = (8 - pen.held) % 8 in
    let r : ℕ = last.at in
    let empty : last.held ≡ 0 = omega (arith, w.size, w.ready.few, length_bits_in g 0) in
    let e : bits_of (take r out') ≡ ink pen out ++ replicate g 0 =
    sym (append-nil (bits_of (take r out')))
    ∙ ap (λ (k : ℕ). bits_of (take r out') ++ bits_in k last.acc) (sym empty)
    ∙ w.bits
    ∙ ap (λ (l : List ℕ). ink pen out ++ l) (bits_zero g) in
    let p : take r out' ≡ packed (ink pen out) = packed_is (take r out') (ink pen out) g (below_take 256 r out' bytes) (omega arith) e in
    record {
      bytes = sym (take-append-drop r out') ∙ ap₂ (λ (a b : List ℕ). a ++ b) p w.rest;
      size = sym (length-take-le r out' w.ready.within) ∙ ap length p;
    }
