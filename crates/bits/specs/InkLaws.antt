-- Laws of a pen: a new one, the length of what is written, and one call after the other.
use Rattle.std.specs.Prelude.{◌≡◌, refl, List, [], ◌++◌, ℕ, ◌+◌, ◌-◌, ◌*◌, ◌≤◌, length, take, drop}
use Rattle.std.proofs.Common.{sym, ap, ◌∙◌, append_assoc, arith, length-append, length-take-le, drop-drop}
use Rattle.bits.specs.Bits.{bits_in, bits_of}
use Rattle.bits.specs.FieldLaws.{length_bits_in}
use Rattle.bits.specs.ByteLaws.{length_bits_of}
use Rattle.bits.specs.Ink.{ink, PenReady, PutAsks, PutGives}
use Rattle.bits.specs.declared.pen.Pen.{Pen}

-- a pen that has written nothing
abbrev pub start : Pen
start = record { acc = 0; held = 0; at = 0 }

pub ink_start : (out : List ℕ) → ink start out ≡ []
unfolding ink bits_of bits_in
ink_start out = refl

pub ready_start : (out : List ℕ) → PenReady start out
ready_start out = record { few = omega arith; small = omega arith; within = omega arith }

pub length_ink : (pen : Pen) (out : List ℕ) → pen.at ≤ length out → length (ink pen out) ≡ 8 * pen.at + pen.held
unfolding ink
length_ink pen out h =
    length-append (bits_of (take pen.at out)) (bits_in pen.held pen.acc)
    ∙ omega (arith, length_bits_of (take pen.at out), length-take-le pen.at out h, length_bits_in pen.held pen.acc)

-- what is behind a later pen is behind an earlier one
pub rest_later : (a b : ℕ) (x y : List ℕ) → a ≤ b → drop a x ≡ drop a y → drop b x ≡ drop b y
rest_later a b x y h e =
    let n : a + (b - a) ≡ b = omega arith in
    ap (λ (k : ℕ). drop k x) (sym n)
    ∙ sym (drop-drop (b - a) a x)
    ∙ ap (drop (b - a)) e
    ∙ drop-drop (b - a) a y
    ∙ ap (λ (k : ℕ). drop k y) n

-- one call after the other
pub wrote_both : (p : Pen) (x a : List ℕ) (q : Pen) (y b : List ℕ) (r : Pen) (z : List ℕ) → PutGives p x a q y → PutGives q y b r z → PutGives p x (a ++ b) r z
wrote_both p x a q y b r z f g =
    record {
      bits = g.bits ∙ ap (λ (l : List ℕ). l ++ b) f.bits ∙ append_assoc (ink p x) a b;
      ready = g.ready;
      size = omega (arith, f.size, g.size, length-append a b);
      rest = g.rest ∙ rest_later q.at r.at y x (omega (arith, g.size, g.ready.few, f.ready.few)) f.rest;
    }

-- room for fewer bits, and what is left of it behind a call
pub room_less : (p : Pen) (m n : ℕ) (x : List ℕ) → m ≤ n → PutAsks p n x → PutAsks p m x
room_less p m n x h r = record { ready = r.ready; fits = omega (arith, r.fits) }

pub room_after : (p : Pen) (x bs : List ℕ) (q : Pen) (y : List ℕ) (m : ℕ) → PutAsks p (length bs + m) x → PutGives p x bs q y → length y ≡ length x → PutAsks q m y
room_after p x bs q y m r w same = record { ready = w.ready; fits = omega (arith, r.fits, w.size) }
