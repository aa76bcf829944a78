-- What a running digest holds, before and after a part, for every kind.
use Rattle.std.proofs.Common.{ℕ, suc, ◌+◌, ◌-◌, ◌*◌, ◌≤◌, ◌<◌, ◌≡◌, sym, ap, ◌∙◌, List, ◌++◌, append-nil, arith, length, take, drop, mul-suc, mul-add, mul-one, add-one, length-append, length-drop, drop_of_length-le, take_all, length-take-le, drop-drop, take_at}
use Rattle.std.proofs.Math.Seq.{take-append-le, drop-append-le, take-append-add, drop-append-add, paste, length-paste, take-paste}
use Rattle.words.specs.Kind.{Kind, size}
use Rattle.compression.specs.Compression.{chain}
use Rattle.sha256.specs.Running.{Held}
use Rattle.sha256.proofs.Chains.{chain_agree, chain_add}

module _ (s : Kind) {h tail t : List ℕ} {len : ℕ} (d : Held s h tail len t) (part : List ℕ) where
  -- t's whole blocks are those of t and the part
  chain_kept : h ≡ chain s s.start d.whole (t ++ part)
  chain_kept =
      let in_t : size s * d.whole ≤ length t = omega (arith, d.cut) in
      d.so_far ∙ chain_agree s s.start d.whole t (t ++ part) (sym (take-append-le (size s * d.whole) t part in_t))

  -- what is left of t, and the part
  left_more : drop (size s * d.whole) (t ++ part) ≡ take d.rest tail ++ part
  left_more =
      let in_t : size s * d.whole ≤ length t = omega (arith, d.cut) in
      drop-append-le (size s * d.whole) t part in_t ∙ ap (λ (l : List ℕ). l ++ part) (sym d.left)

  -- a part that doesn't fill the block
  pub held_short :
      (rest : ℕ) {last : List ℕ}
      → rest ≡ d.rest
      → rest + length part < size s
      → last ≡ paste tail rest part (length part)
      → Held s h last (len + length part) (t ++ part)
  held_short rest e few in_Tail =
      let at : rest ≤ length tail = omega (arith, d.room) in
      let fits : rest + length part ≤ length tail = omega (arith, d.room) in
      let all : length part ≤ length part = omega arith in
      record {
        whole = d.whole;
        rest = rest + length part;
        few = few;
        cut = omega (arith, length-append t part, d.cut);
        room = ap length in_Tail ∙ length-paste tail rest part (length part) fits all ∙ d.room;
        long = omega (arith, length-append t part, d.long);
        so_far = chain_kept;
        left =
            ap (take (rest + length part)) in_Tail
            ∙ take-paste tail rest part (length part) at all
            ∙ ap (λ (l : List ℕ). take rest tail ++ l) (take_all (length part) part all)
            ∙ ap (λ (n : ℕ). take n tail ++ part) e
            ∙ sym left_more;
      }

  -- a part that fills the block: its first `room` bytes do, w more blocks follow, and what is left goes to the tail's start
  module _ (rest room w : ℕ) {block last h₁ h₂ : List ℕ}
      (e : rest ≡ d.rest)
      (full : rest + room ≡ size s)
      (there : room ≤ length part)
      (blocks : room + size s * w ≤ length part)
      (over : length part < room + size s * w + size s)
      (in_block : block ≡ paste tail rest (take room part) room)
      (one : h₁ ≡ chain s h 1 block)
      (more : h₂ ≡ chain s h₁ w (drop room part))
      (in_Tail : last ≡ paste block 0 (drop (room + size s * w) part) (length (drop (room + size s * w) part)))
    where
      block_is : block ≡ take rest tail ++ take room part
      block_is =
          let n : length (take room part) ≡ room = length-take-le room part there in
          let none : length tail ≤ rest + room = omega (arith, d.room) in
          in_block
          ∙ rw (drop_of_length-le tail none, append-nil, take_all room (take room part) (omega arith))

      block_long : length block ≡ size s
      block_long =
          let n : length (take room part) ≡ room = length-take-le room part there in
          let m : length (take rest tail) ≡ rest = length-take-le rest tail (omega (arith, d.room)) in
          omega (arith, ap length block_is, length-append (take rest tail) (take room part))

      -- x is the text so far and the part
      abbrev x : List ℕ
      x = t ++ part

      rest_long : length (take d.rest tail) + room ≡ size s
      rest_long =
          let m : length (take d.rest tail) ≡ d.rest = length-take-le d.rest tail (omega (arith, d.room, d.few)) in
          omega arith

      block_at : block ≡ take (size s) (drop (size s * d.whole) x)
      block_at =
          block_is
          ∙ ap (λ (n : ℕ). take n tail ++ take room part) e
          ∙ sym
          (rw (left_more, ← rest_long) (take-append-add (take d.rest tail) part room))

      behind : drop (size s * suc d.whole) x ≡ drop room part
      behind =
          ap (λ (n : ℕ). drop n x) (mul-suc (size s) d.whole)
          ∙ sym (drop-drop (size s) (size s * d.whole) x)
          ∙ rw (left_more, ← rest_long) (drop-append-add (take d.rest tail) part room)

      one_more : h₁ ≡ chain s s.start (suc d.whole) x
      one_more =
          let y : List ℕ = drop (size s * d.whole) x in
          let same_block : take (size s * 1) block ≡ take (size s * 1) y =
          rw mul-one (take_all (size s) block (omega (arith, block_long)) ∙ block_at) in
          one
          ∙ chain_agree s h 1 block y same_block
          ∙ ap (λ (g : List ℕ). chain s g 1 y) chain_kept
          ∙ sym (chain_add s s.start d.whole 1 x)
          ∙ ap (λ (n : ℕ). chain s s.start n x) (add-one d.whole)

      all_more : h₂ ≡ chain s s.start (suc d.whole + w) x
      all_more = rw (chain_add s s.start (suc d.whole) w x, behind, ← one_more) more

      left_over : drop (size s * (suc d.whole + w)) x ≡ drop (room + size s * w) part
      left_over =
          ap (λ (n : ℕ). drop n x) (mul-add (size s) (suc d.whole) w)
          ∙ sym (drop-drop (size s * w) (size s * suc d.whole) x)
          ∙ ap (drop (size s * w)) behind
          ∙ drop-drop (size s * w) room part

      pub held_long : Held s h₂ last (len + length part) x
      held_long =
          let z : List ℕ = drop (room + size s * w) part in
          let n : length z ≡ length part - (room + size s * w) = length-drop (room + size s * w) part in
          let m : size s * (suc d.whole + w) ≡ size s * d.whole + size s + size s * w =
          mul-add (size s) (suc d.whole) w ∙ ap (λ (k : ℕ). k + size s * w) (mul-suc (size s) d.whole) in
          let fits : 0 + length z ≤ length block = omega (arith, block_long) in
          let all : length z ≤ length z = omega arith in
          record {
            whole = suc d.whole + w;
            rest = length z;
            few = omega arith;
            cut = omega (arith, length-append t part, d.cut);
            room = ap length in_Tail ∙ length-paste block 0 z (length z) fits all ∙ block_long;
            long = omega (arith, length-append t part, d.long);
            so_far = all_more;
            left =
                ap (take (length z)) in_Tail
                ∙ take_at (take (length z) z) (drop (0 + length z) block) (length z) (length-take-le (length z) z all)
                ∙ take_all (length z) z all
                ∙ sym left_over;
          }
