-- The bits of a row, field by field, as the writer puts them.
use mathlib.Core.Path.{◌≡◌, refl, sym, ap, ap₂, subst, ◌∙◌}
use mathlib.Core.List.{List, ◌∷◌, ◌++◌}
use Prim.Native.Nat.{ℕ, zero, suc, ◌+◌, ◌-◌, ◌*◌, ◌/◌, ◌%◌, ◌^◌, ◌≤◌, ◌<◌}
use native.Mathlib.Nat.{div-eq_of_lt, one-mul}
use native.Mathlib.Omega.{arith}
use lib.ListN.{length, length-append}
use lib.Pow.{high}
use Rattle.bits.specs.Bits.{bits_in, bits_of}
use Rattle.bits.specs.FieldLaws.{bits_low, length_bits_in}
use Rattle.bits.specs.ByteLaws.{length_bits_of}
use Rattle.bits.specs.Ink.{PutAsks, PutGives}
use Rattle.bits.specs.InkLaws.{wrote_both, room_less, room_after}
use Rattle.bits.specs.declared.pen.Pen.{Pen}
use Rattle.tables.specs.Limits.{child_bits, type_bits, length_bits}
use mathlib.Core.Bool.{true}
use Rattle.tables.specs.Tables.{entry_of, row_fits}
use Rattle.codec.specs.TableLaws.{row_small}
use Rattle.codec.specs.Writing.{leaf_bits, entry_bits}

-- a field with a first bit 0, or 1
lead_zero : (n v : ℕ) → v < 2 ^ n → bits_in (suc n) v ≡ 0 ∷ bits_in n v
unfolding bits_in
lead_zero n v h = ap (λ (k : ℕ). k % 2 ∷ bits_in n v) (div-eq_of_lt h)

lead_one : (n v : ℕ) → v < 2 ^ n → bits_in (suc n) (2 ^ n + v) ≡ 1 ∷ bits_in n v
unfolding bits_in
lead_one n v h =
    let e : 2 ^ n + v ≡ 1 * 2 ^ n + v = ap (λ (k : ℕ). k + v) (sym (one-mul (2 ^ n))) in
    ap₂ (λ (k : ℕ) (l : List ℕ). k % 2 ∷ l) (ap (λ (k : ℕ). k / 2 ^ n) e ∙ high 1 n h) (ap (bits_in n) e ∙ bits_low n 1 v)

pub node_bits : (t c : ℕ) (v : List ℕ) → 1 ≤ c → c ≤ 32 → bits_in (1 + child_bits) (2 ^ child_bits + (c - 1)) ≡ entry_bits (entry_of t c v)
unfolding entry_bits
node_bits t zero v h g = absurd (omega arith)
node_bits t (suc c) v h g = lead_one child_bits (suc c - 1) (omega arith)

-- a leaf's type goes first, then what its kind asks for
leaf_split : (t c : ℕ) (v : List ℕ) → c ≡ 0 → t < 2 ^ type_bits → bits_in (1 + type_bits) t ++ leaf_bits t v ≡ entry_bits (entry_of t c v)
unfolding entry_bits
leaf_split t (suc c) v e h = absurd (omega arith)
leaf_split t zero v e h = ap (λ (l : List ℕ). l ++ leaf_bits t v) (lead_zero type_bits t h)

pub leaf_parts : (t c : ℕ) (v : List ℕ) → row_fits t c (length v) ≡ true → c ≤ 0 → bits_in (1 + type_bits) t ++ leaf_bits t v ≡ entry_bits (entry_of t c v)
leaf_parts t c v f h = leaf_split t c v (omega arith) (omega (arith, (row_small t c (length v) f).type))

pub dangling_behind : (t : ℕ) (v : List ℕ) → t ≡ 0 → bits_of v ≡ leaf_bits t v
unfolding leaf_bits
dangling_behind zero v e = refl
dangling_behind (suc t) v e = absurd (omega arith)

pub pair_behind : (t : ℕ) (v : List ℕ) → 0 < t → bits_in length_bits (length v) ++ bits_of v ≡ leaf_bits t v
unfolding leaf_bits
pair_behind zero v h = absurd (omega arith)
pair_behind (suc t) v h = refl

-- a field that is all of the bits bs
pub room_field : {p : Pen} {bs out : List ℕ} (n v : ℕ) → bits_in n v ≡ bs → PutAsks p (length bs) out → PutAsks p n out
room_field {p} {bs} {out} n v e a = subst (λ (k : ℕ). PutAsks p k out) (ap length (sym e) ∙ length_bits_in n v) a

pub room_bytes : {p : Pen} {bs out : List ℕ} (v : List ℕ) → bits_of v ≡ bs → PutAsks p (length bs) out → PutAsks p (8 * length v) out
room_bytes {p} {bs} {out} v e a = subst (λ (k : ℕ). PutAsks p k out) (ap length (sym e) ∙ length_bits_of v) a

-- bits in two parts: room for the first, and behind it for the second
module _ (bs cs : List ℕ) {es : List ℕ} (e : bs ++ cs ≡ es) where
  long : length bs + length cs ≡ length es
  long = sym (length-append bs cs) ∙ ap length e

  pub room_first : {p : Pen} {out : List ℕ} → PutAsks p (length es) out → PutAsks p (length bs) out
  room_first {p} {out} a = room_less p (length bs) (length es) out (omega (arith, long)) a

  pub room_second : {p q : Pen} {out mid : List ℕ} → PutAsks p (length es) out → PutGives p out bs q mid → length mid ≡ length out → PutAsks q (length cs) mid
  room_second {p} {q} {out} {mid} a w same =
      room_after p out bs q mid (length cs) (subst (λ (k : ℕ). PutAsks p k out) (sym long) a) w same

  pub wrote_parts : {p q r : Pen} {out mid end : List ℕ} → PutGives p out bs q mid → PutGives q mid cs r end → PutGives p out es r end
  wrote_parts {p} {q} {r} {out} {mid} {end} w x =
      subst (λ (l : List ℕ). PutGives p out l r end) e (wrote_both p out bs q mid cs r end w x)
