-- The sample cases of the join under another label function, by computation: two slips, and behind them the answer expected.
use Rattle.std.specs.Prelude.{ℕ, List, [], ◌∷◌, map, ◌≡◌, refl, length, replicate}
use Rattle.bits.specs.Bits.{bits_in, bits_of, num_of, octets, packed}
use Rattle.nfc.specs.Utf8.{width, within, low, high, tail, two_bytes, three_bytes, four_bytes, character, front, chars, decode}
use Rattle.nfc.specs.Repertoire.{member, marks, is_mark, plain, all_plain}
use Rattle.titles.specs.Compose.{composed_text}
use Rattle.codec.specs.Reading.{read_value, read_leaf, read_rest, read_one, read_all}
use Rattle.codec.specs.Writing.{leaf_bits, entry_bits, all_bits, slip_bits, slip_of}
use Rattle.answers.specs.Answers.{taken, clashed}
use Rattle.slips.specs.Check.{padding_fits, settled, header_of, body_of, check_of}
use Rattle.outcomes.specs.Outcome.{over, Output, still}
use Rattle.answers.specs.declared.Answer.{Answer}
use Rattle.send.specs.Sent.{sent}
use Rattle.join_tables.specs.Joined.{joined_of}
use Rattle.join.specs.Join.{join_of}
use Rattle.trees.specs.Examples.{length_label}
use Rattle.label_cases.specs.Values.{bytes, output}

-- two slips and an output, and the outcome expected
pub record Case : Type 0 where
  first : List ℕ
  second : List ℕ
  room : List ℕ
  outcome : Output Answer

-- they are joined with b blocks and the label l, and the slip w is written
abbrev pub accepts : List ℕ → List ℕ → ℕ → List ℕ → List ℕ → Case
accepts s u b l w =
    record {
      first = s;
      second = u;
      room = output (length w);
      outcome = record { answer = taken (length w) b l; left = over w (output (length w)) };
    }

-- they clash at the entries i and j
abbrev pub clashing : List ℕ → List ℕ → ℕ → ℕ → Case
clashing s u i j = record { first = s; second = u; room = output 0; outcome = still (clashed i j) (output 0) }

abbrev pub cases : List Case
cases =
    clashing (bytes 81 0x0407002204001b08048de1d77cdc6b6d752b878b22669c338db5eb50cf92bdb894f7d97fa57801028400883487eee9d4e473322287b342aeae295b943c21cb9cce2eaa3d811af874d7da5992c004021840) (bytes 75 0x0405000525252525252525252525252525252525252525252525252525252525252525200441a43f774ea7239991143d9a1575714adca1e10e5ce6717551ec08d7c3a6bed2cc96002030c2) 5 3 ∷
    clashing (bytes 81 0x040800220d21fbba75391ccc88a1ecd0abab8a56e50f0872e7338baa8f6046be1d35f69664b00100860002204001b08048de1d77cdc6b6d752b878b22669c338db5eb50cf92bdb894f7d97fa5780102861) (bytes 81 0x040800220d21fbba75391ccc88a1ecd0abab8a56e50f0872e7338baa8f6046be1d35f69664b00101860002204001b08048de1d77cdc6b6d752b878b22669c338db5eb50cf92bdb894f7d97fa5780103861) 2 2 ∷
    accepts (bytes 75 0x0405000525252525252525252525252525252525252525252525252525252525252525200441a43f774ea7239991143d9a1575714adca1e10e5ce6717551ec08d7c3a6bed2cc96002010c2) (bytes 75 0x0405002204001b08048de1d77cdc6b6d752b878b22669c338db5eb50cf92bdb894f7d97fa578010284001494949494949494949494949494949494949494949494949494949494949494c2) 4 (replicate 32 0x48) (bytes 81 0x0407002204001b08048de1d77cdc6b6d752b878b22669c338db5eb50cf92bdb894f7d97fa57801028400883487eee9d4e473322287b342aeae295b943c21cb9cce2eaa3d811af874d7da5992c004021840) ∷
    clashing (bytes 76 0x040300220d21fbba75391ccc88a1ecd0abab8a56e50f0872e7338baa8f6046be1d35f69664b02461616161616161616161616161616161616161616161616161616161616161616161616184) (bytes 75 0x040400220d21fbba75391ccc88a1ecd0abab8a56e50f0872e7338baa8f6046be1d35f69664b0004b2206161616161616161616161616161616161616161616161616161616161616161880) 2 3 ∷
    clashing (bytes 41 0x040300220d21fbba75391ccc88a1ecd0abab8a56e50f0872e7338baa8f6046be1d35f69664b0010184) (bytes 41 0x040300220d21fbba75391ccc88a1ecd0abab8a56e50f0872e7338baa8f6046be1d35f69664b0010084) 2 2 ∷
    clashing (bytes 114 0x0408000525252525252525252525252525252525252525252525252525252525252525200441a43f774ea7239991143d9a1575714adca1e10e5ce6717551ec08d7c3a6bed2cc96002010801102000d840246f0ebbe6e35b6ba95c3c591334e19c6daf5a867c95edc4a7becbfd2bc00814310) (bytes 114 0x0408002204001b08048de1d77cdc6b6d752b878b22669c338db5eb50cf92bdb894f7d97fa578010284001494949494949494949494949494949494949494949494949494949494949494801102000d840246f0ebbe6e35b6ba95c3c591334e19c6daf5a867c95edc4a7becbfd2bc0081c310) 6 6 ∷
    clashing (bytes 81 0x040700220d21fbba75391ccc88a1ecd0abab8a56e50f0872e7338baa8f6046be1d35f69664b0010084008810006c201237875df371adb5d4ae1e2c899a70ce36d7ad433e4af6e253df65fe95e0040a1840) (bytes 81 0x040700220d21fbba75391ccc88a1ecd0abab8a56e50f0872e7338baa8f6046be1d35f69664b0010184008810006c201237875df371adb5d4ae1e2c899a70ce36d7ad433e4af6e253df65fe95e0040e1840) 2 2 ∷
    accepts (bytes 41 0x040300220d21fbba75391ccc88a1ecd0abab8a56e50f0872e7338baa8f6046be1d35f69664b0010084) (bytes 41 0x040300220d21fbba75391ccc88a1ecd0abab8a56e50f0872e7338baa8f6046be1d35f69664b0010084) 1 (replicate 32 0x29) (bytes 41 0x040300220d21fbba75391ccc88a1ecd0abab8a56e50f0872e7338baa8f6046be1d35f69664b0010084) ∷
    clashing (bytes 120 0x040b00220d21fbba75391ccc88a1ecd0abab8a56e50f0872e7338baa8f6046be1d35f69664b0010084008810006c201237875df371adb5d4ae1e2c899a70ce36d7ad433e4af6e253df65fe95e0040a184008810006c201237875df371adb5d4ae1e2c899a70ce36d7ad433e4af6e253df65fe95e0040a184) (bytes 120 0x040b00220d21fbba75391ccc88a1ecd0abab8a56e50f0872e7338baa8f6046be1d35f69664b0010084008810006c201237875df371adb5d4ae1e2c899a70ce36d7ad433e4af6e253df65fe95e0040e184008810006c201237875df371adb5d4ae1e2c899a70ce36d7ad433e4af6e253df65fe95e0040e184) 5 5 ∷
    clashing (bytes 38 0x040200220aa3c8b96f65c9d1c9bfbdfc36d26ca6fbf5978d15f0dd9a2d2a55ead892fcc52800) (bytes 37 0x0402001921baaf4bf01b3b9a0ecc87bb7ebd30b9d8c5eca40d10d4e7fa9474c37f4e8e3000) 1 1 ∷
    clashing (bytes 41 0x040300220d21fbba75391ccc88a1ecd0abab8a56e50f0872e7338baa8f6046be1d35f69664b0010084) (bytes 41 0x040300220d21fbba75391ccc88a1ecd0abab8a56e50f0872e7338baa8f6046be1d35f69664b0010184) 2 2 ∷
    clashing (bytes 81 0x0407002204001b08048de1d77cdc6b6d752b878b22669c338db5eb50cf92bdb894f7d97fa57801028400883487eee9d4e473322287b342aeae295b943c21cb9cce2eaa3d811af874d7da5992c004021840) (bytes 81 0x0407002204001b08048de1d77cdc6b6d752b878b22669c338db5eb50cf92bdb894f7d97fa57801028400883487eee9d4e473322287b342aeae295b943c21cb9cce2eaa3d811af874d7da5992c004061840) 5 5 ∷
    clashing (bytes 76 0x040500220dc20f35a6dc40b3a7deb5864d2f95ea033856cfc0a55720e306329fe7392c8f800220d21fbba75391ccc88a1ecd0abab8a56e50f0872e7338baa8f6046be1d35f69664b00100861) (bytes 76 0x040500220c4395b52dbc206bdf91b15c37baaed8bbd3b63804288a16d8cab8a191f59969300220d21fbba75391ccc88a1ecd0abab8a56e50f0872e7338baa8f6046be1d35f69664b00101861) 4 4 ∷
    clashing (bytes 75 0x0405000525252525252525252525252525252525252525252525252525252525252525200441a43f774ea7239991143d9a1575714adca1e10e5ce6717551ec08d7c3a6bed2cc96002010c2) (bytes 81 0x0407002204001b08048de1d77cdc6b6d752b878b22669c338db5eb50cf92bdb894f7d97fa57801028400883487eee9d4e473322287b342aeae295b943c21cb9cce2eaa3d811af874d7da5992c004061840) 3 5 ∷
    clashing (bytes 76 0x040600220d21fbba75391ccc88a1ecd0abab8a56e50f0872e7338baa8f6046be1d35f69664b00100860000525252525252525252525252525252525252525252525252525252525252525308) (bytes 71 0x0404000525252525252525252525252525252525252525252525252525252525252525300001111111111111111111111111111111111111111111111111111111111111111840) 5 3 ∷
    clashing (bytes 76 0x040600052525252525252525252525252525252525252525252525252525252525252530001102000d840246f0ebbe6e35b6ba95c3c591334e19c6daf5a867c95edc4a7becbfd2bc00814308) (bytes 81 0x040800220d21fbba75391ccc88a1ecd0abab8a56e50f0872e7338baa8f6046be1d35f69664b00101860002204001b08048de1d77cdc6b6d752b878b22669c338db5eb50cf92bdb894f7d97fa5780103861) 4 6 ∷
    []

pub cases_agree : map (λ (c : Case). join_of length_label composed_text c.first c.second c.room) cases ≡ map (λ (c : Case). c.outcome) cases
unfolding bits_in bits_of num_of octets width within low high tail two_bytes three_bytes four_bytes character front chars decode member marks is_mark plain all_plain composed_text read_value read_leaf read_rest read_one read_all padding_fits settled header_of body_of check_of leaf_bits entry_bits all_bits slip_bits slip_of packed sent joined_of join_of
cases_agree = refl
