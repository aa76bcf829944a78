-- Demand 3 on bytes, computed, under "a label of 32 copies of prelabel length modulo 256": two libraries that end with the same bytes, and two
-- that are each shown two texts with one hash.
use Rattle.std.specs.Prelude.{ℕ, Bool, true, false, List, [], ◌∷◌, ◌⊎◌, ◌≡◌, refl, get_or, replicate}
use Rattle.std.proofs.Common.{true≢false, inl, inr, sym, ap, ◌∙◌, arith}
use Rattle.bits.specs.Bits.{bits_in, bits_of, num_of, octets, packed}
use Rattle.lists.specs.Lists.{Below}
use Rattle.lists.specs.ListsLaws.{below_replicate}
use Rattle.bits.specs.ByteLaws.{below_octets}
use Rattle.nfc.specs.Utf8.{width, within, low, high, tail, two_bytes, three_bytes, four_bytes, character, front, chars, decode}
use Rattle.nfc.specs.Repertoire.{member, marks, is_mark, plain, all_plain}
use Rattle.titles.specs.Compose.{composed_text}
use Rattle.codec.specs.Reading.{read_value, read_leaf, read_rest, read_one, read_all}
use Rattle.codec.specs.Writing.{leaf_bits, entry_bits, all_bits, slip_bits, slip_of}
use Rattle.slips.specs.Check.{padding_fits, settled, header_of, body_of, check_of}
use Rattle.send.specs.Sent.{sent}
use Rattle.join_tables.specs.Joined.{joined_of}
use Rattle.join.specs.Join.{join_of}
use Rattle.trees.specs.Examples.{length_label}
use Rattle.label_cases.specs.Values.{bytes, output}
use Rattle.demands.specs.Library.{Arrival, start, Reached, misfits, clashes, ever, Ours, copy, Shown, Same}
use Rattle.demands.proofs.Demand3.{Reaches, demand_3, shown_14}

-- the slip of n bytes that a number writes arrives, with room for 86
abbrev arrives : ℕ → ℕ → Arrival
arrives n v = record { slip = bytes n v; buffer = output 82; bytes = below_octets n _ }

-- how a library with the root label l ends: what it holds, no 11 and no 15 on the way, and whether it ever answered 14
pub record Ends (l : List ℕ) (xs : List Arrival) (held : List ℕ) (shown : Bool) : Type 0 where
  pub holds : copy length_label composed_text l xs ≡ held
  pub fitted : ever length_label composed_text misfits (start l) xs ≡ false
  pub clashed : ever length_label composed_text clashes (start l) xs ≡ shown

-- A root with two children, each a salt and a raw value: one slip shows the first child, one the second; beside them come bytes that are no
-- slip, and a slip of another root.
abbrev left : Arrival
left = arrives 75 0x04050022007070707070707070707070707070707070707070707070707070707070707074b001058400151515151515151515151515151515151515151515151515151515151515151542

abbrev right : Arrival
right = arrives 76 0x04050005252525252525252525252525252525252525252525252525252525252525252004400e0e0e0e0e0e0e0e0e0e0e0e0e0e0e0e0e0e0e0e0e0e0e0e0e0e0e0e0e0e0e0e964040c0d0c2

abbrev malformed : Arrival
malformed = arrives 2 0x0400

abbrev stranger : Arrival
stranger = arrives 36 0x040100002020202020202020202020202020202020202020202020202020202020202020

abbrev whole : List ℕ
whole = bytes 82 0x04070022007070707070707070707070707070707070707070707070707070707070707074b0010584008801c1c1c1c1c1c1c1c1c1c1c1c1c1c1c1c1c1c1c1c1c1c1c1c1c1c1c1c1c1c1c1d2c808181a1840

-- the root's prelabel has 72 bytes
abbrev root : List ℕ
root = replicate 32 72

abbrev one : List Arrival
one = left ∷ malformed ∷ right ∷ []

abbrev two : List Arrival
two = right ∷ stranger ∷ right ∷ left ∷ []

-- both hold the slip that shows both children
pub one_two : Ends root one whole false × Ends root two whole false
unfolding bits_in bits_of num_of octets width within low high tail two_bytes three_bytes four_bytes character front chars decode member marks is_mark plain all_plain composed_text read_value read_leaf read_rest read_one read_all padding_fits settled header_of body_of check_of leaf_bits entry_bits all_bits slip_bits slip_of packed sent joined_of join_of
one_two = (record { holds = refl; fitted = refl; clashed = refl }, record { holds = refl; fitted = refl; clashed = refl })

-- two arrivals are not ours
refused_4 : (check_of length_label composed_text malformed.slip).number ≡ 4
unfolding bits_in bits_of num_of octets read_value read_leaf read_rest read_one read_all padding_fits settled header_of body_of check_of
refused_4 = refl

other_root : (check_of length_label composed_text stranger.slip).label ≡ replicate 32 1
unfolding bits_in bits_of num_of octets read_value read_leaf read_rest read_one read_all padding_fits settled header_of body_of check_of
other_root = refl

module _ (s : List ℕ) (o : Ours length_label composed_text root s) where
  not_malformed : malformed.slip ≡ s → ⊥
  not_malformed e = omega (arith, sym refused_4 ∙ ap (λ (z : List ℕ). (check_of length_label composed_text z).number) e ∙ o.good)

  not_stranger : stranger.slip ≡ s → ⊥
  not_stranger e =
      let d : replicate 32 1 ≡ root = sym other_root ∙ ap (λ (z : List ℕ). (check_of length_label composed_text z).label) e ∙ o.root in
      omega (arith, ap (λ (z : List ℕ). get_or z 0 0) d)

  to : Reached one s → Reached two s
  to (inl e) = inr (inr (inr (inl e)))
  to (inr (inl e)) = absurd (not_malformed e)
  to (inr (inr (inl e))) = inl e
  to (inr (inr (inr e))) = absurd e

  from : Reached two s → Reached one s
  from (inl e) = inr (inr (inl e))
  from (inr (inl e)) = absurd (not_stranger e)
  from (inr (inr (inl e))) = inr (inr (inl e))
  from (inr (inr (inr (inl e)))) = inl e
  from (inr (inr (inr (inr e)))) = absurd e

root_bytes : Below 256 root
root_bytes = below_replicate 256 32 (omega arith)

-- demand 3 gives these two the same bytes
pub same_bytes : Same length_label composed_text root one two
same_bytes = go (demand_3 length_label composed_text root refl root_bytes one two to from one_two.0.fitted one_two.1.fitted)
  where
    go : Same length_label composed_text root one two ⊎ (Shown length_label composed_text root one × Shown length_label composed_text root two) → Same length_label composed_text root one two
    go (inl s) = s
    go (inr w) = absurd (true≢false (sym (shown_14 length_label composed_text root refl root_bytes one w.0) ∙ one_two.0.clashed))

-- "two roots, each a salt of 32 bytes and one raw value of type 600 (00 and 01)"; the prelabels have 41 bytes
abbrev zero : Arrival
zero = arrives 41 0x04030022007070707070707070707070707070707070707070707070707070707070707074b0010084

abbrev unit : Arrival
unit = arrives 41 0x04030022007070707070707070707070707070707070707070707070707070707070707074b0010184

abbrev clash_root : List ℕ
clash_root = replicate 32 41

abbrev three : List Arrival
three = zero ∷ unit ∷ []

abbrev four : List Arrival
four = unit ∷ zero ∷ unit ∷ []

-- each holds what it saw first, and has answered 14
pub three_four : Ends clash_root three zero.slip true × Ends clash_root four unit.slip true
unfolding bits_in bits_of num_of octets width within low high tail two_bytes three_bytes four_bytes character front chars decode member marks is_mark plain all_plain composed_text read_value read_leaf read_rest read_one read_all padding_fits settled header_of body_of check_of leaf_bits entry_bits all_bits slip_bits slip_of packed sent joined_of join_of
three_four = (record { holds = refl; fitted = refl; clashed = refl }, record { holds = refl; fitted = refl; clashed = refl })

-- byte 39 tells the two apart
apart : (get_or zero.slip 39 0 ≡ 0) × (get_or unit.slip 39 0 ≡ 1)
unfolding bits_in octets num_of
apart = (refl, refl)

-- demand 3 gives these two 14, each with the two texts
pub both_shown : Shown length_label composed_text clash_root three × Shown length_label composed_text clash_root four
both_shown =
    go (demand_3 length_label composed_text clash_root refl (below_replicate 256 32 (omega arith)) three four there back three_four.0.fitted three_four.1.fitted)
  where
    there : Reaches length_label composed_text clash_root refl (below_replicate 256 32 (omega arith)) three four
    there s o (inl e) = inr (inl e)
    there s o (inr (inl e)) = inl e
    there s o (inr (inr e)) = absurd e

    back : Reaches length_label composed_text clash_root refl (below_replicate 256 32 (omega arith)) four three
    back s o (inl e) = inr (inl e)
    back s o (inr (inl e)) = inl e
    back s o (inr (inr (inl e))) = inr (inl e)
    back s o (inr (inr (inr e))) = absurd e

    go : Same length_label composed_text clash_root three four ⊎ (Shown length_label composed_text clash_root three × Shown length_label composed_text clash_root four)
        → Shown length_label composed_text clash_root three × Shown length_label composed_text clash_root four
    go (inl s) =
        absurd (omega (arith, ap (λ (z : List ℕ). get_or z 39 0) (sym three_four.0.holds ∙ s.equal ∙ three_four.1.holds), apart.0, apart.1))
    go (inr w) = w
