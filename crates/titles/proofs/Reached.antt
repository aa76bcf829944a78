-- Where a scan of a title stands: what its answer is from here on, and what it has written.
use Rattle.std.proofs.Common.{◌≡◌, refl, sym, ◌∙◌, ap, true, false, List, [], ◌∷◌, ◌++◌, append_assoc, append-nil, ℕ, ◌+◌, ◌-◌, ◌≤◌, ◌<◌, arith, eqb, length, take, drop, length-append, drop_of_length-le, take_at, ne_eqb}
use Rattle.std.proofs.Math.Seq.{length-take-le}
use borrow.Rule.Slice.PartMut.{put_mid}
use Rattle.nfc.specs.Utf8.{width, encode, encodes, front, decode}
use Rattle.nfc.specs.Repertoire.{plain}
use Rattle.nfc.specs.Joining.{joined, bad, clusters, outs, composed}
use Rattle.nfc.specs.BoundsLaws.{at_least, at_most, width_2}
use Rattle.nfc.proofs.DecodingLaws.{decode_end, length_encode}
use Rattle.nfc.proofs.PairsLaws.{joint}
use Rattle.titles.specs.Compose.{text, acceptance, answer_from}
use Rattle.titles.specs.ClustersLaws.{from, bad_at, one_at, two_at, next_fits, mark_fits, mark_width}

pub record Reached (s : List ℕ) (at n : ℕ) (room : List ℕ) : Type 0 where
  pub inside : at ≤ length s
  pub fits : n ≤ at
  pub answer : answer_from 0 0 (clusters (decode s)) ≡ answer_from at n (from s at)
  pub written : text s ≡ take n room ++ encodes (outs (from s at))

-- a turn at `at` writes w and goes on at `end`
pub record Turn (s : List ℕ) (at n w end : ℕ) : Type 0 where
  pub inside : end ≤ length s
  pub fits : n + width w ≤ end
  pub answer : answer_from at n (from s at) ≡ answer_from end (n + width w) (from s end)
  pub written : encodes (outs (from s at)) ≡ encode w ++ encodes (outs (from s end))

pub reached_start : (s room : List ℕ) → Reached s 0 0 room
unfolding text composed
reached_start s room = record { inside = omega arith; fits = omega arith; answer = refl; written = refl }

-- a joined letter's size
joined_width : (l m : ℕ) → 0 < joined l m → width (joined l m) ≡ 2
joined_width l m some =
    let h = (joint l m (ne_eqb (joined l m) 0 (λ q. omega arith))).whole in
    let lo = at_least 0xC0 0xFF (joined l m) h in
    let hi = at_most 0xC0 0xFF (joined l m) h in
    width_2 (joined l m) (omega arith) (omega arith)

module _ (s : List ℕ) (at n c : ℕ) (more : at < length s) (is : c ≡ front (drop at s)) where
  pub bad_answer : plain c ≡ false → answer_from at n (from s at) ≡ answer_from at n (bad c ∷ [])
  bad_answer e = ap (answer_from at n) (bad_at s at c more is e)

  module _ (e : plain c ≡ true) (low : n ≤ at) where
    pub turn_one : joined c (front (drop (at + width c) s)) ≡ 0 → Turn s at n c (at + width c)
    unfolding answer_from outs encodes
    turn_one none =
        let step = one_at s at c more is e none in
        record { inside = next_fits s at c more is e; fits = omega arith; answer = rw step; written = rw step }

    pub turn_two : (w : ℕ) → w ≡ joined c (front (drop (at + width c) s)) → 0 < w → Turn s at n w ((at + width c) + 2)
    unfolding answer_from outs encodes
    turn_two w ew some =
        let m = front (drop (at + width c) s) in
        let after = from s ((at + width c) + 2) in
        let joins : eqb (joined c m) 0 ≡ false = ne_eqb (joined c m) 0 (λ q. omega arith) in
        let step = two_at s at c more is e m refl joins in
        let wide : width w ≡ 2 = rw ew (joined_width c m (rw ew at some)) in
        let place : at + (width c + width m) ≡ (at + width c) + 2 = omega (arith, mark_width s at c more is e m refl joins) in
        record {
          inside = mark_fits s at c more is e m refl joins;
          fits = omega arith;
          answer =
              ap (answer_from at n) step
              ∙ ap (λ (p : ℕ). answer_from p (n + width (joined c m)) after) place
              ∙ ap (λ (q : ℕ). answer_from ((at + width c) + 2) (n + width q) after) (sym ew);
          written = ap (λ cs. encodes (outs cs)) step ∙ ap (λ (q : ℕ). encode q ++ encodes (outs after)) (sym ew);
        }

-- where the letter stands behind the first n bytes, the scan has gone on
pub reached_on :
    (s : List ℕ) (at n w end : ℕ) (room room' : List ℕ)
    → Reached s at n room
    → Turn s at n w end
    → take (n + width w) room' ≡ take n room ++ encode w
    → Reached s end (n + width w) room'
reached_on s at n w end room room' r t put =
    record {
      inside = t.inside;
      fits = t.fits;
      answer = r.answer ∙ t.answer;
      written = r.written ∙ rw (t.written, put, append_assoc);
    }

-- what is put behind the first n bytes stands there
pub put_front :
    (room : List ℕ) (n : ℕ) (part : List ℕ) (w : ℕ) (z : List ℕ)
    → n ≤ length room
    → part ≡ encode w ++ z
    → take (n + width w) (put_mid n (length room - n) room part) ≡ take n room ++ encode w
put_front room n part w z within e =
    let post : List ℕ = drop (length room - n) (drop n room) in
    let long : length (take n room ++ encode w) ≡ n + width w =
    length-append (take n room) (encode w) ∙ omega (arith, length-take-le n room within, length_encode w) in
    ap (λ (l : List ℕ). take (n + width w) (put_mid n (length room - n) room l)) e
    ∙ ap (λ (l : List ℕ). take (n + width w) (take n room ++ l)) (append_assoc (encode w) z post)
    ∙ ap (take (n + width w)) (sym (append_assoc (take n room) (encode w) (z ++ post)))
    ∙ take_at (take n room ++ encode w) (z ++ post) (n + width w) long

-- at the end nothing is left to judge or to write
pub reached_end : (s : List ℕ) (at n : ℕ) (room : List ℕ) → Reached s at n room → length s ≤ at → acceptance n ≡ answer_from 0 0 (clusters (decode s))
unfolding answer_from clusters
reached_end s at n room r end = sym (r.answer ∙ rw (drop_of_length-le s end, decode_end [] (omega arith)))

pub reached_all : (s : List ℕ) (at n : ℕ) (room : List ℕ) → Reached s at n room → length s ≤ at → take n room ≡ text s
unfolding outs encodes clusters
reached_all s at n room r end = sym (r.written ∙ rw (drop_of_length-le s end, decode_end [] (omega arith), append-nil))
