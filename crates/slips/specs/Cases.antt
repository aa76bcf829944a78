-- Document 01's marked cases of slips, by computation, under any label function and any test of text.
use Rattle.std.specs.Prelude.{ℕ, Bool, List, [], ◌∷◌, ◌++◌, ◌≡◌, replicate}
use Rattle.std.proofs.Math.Path.{refl}
use Rattle.bits.specs.Bits.{bits_in, bits_of, num_of, octets}
use Rattle.codec.specs.Reading.{read_value, read_leaf, read_rest, read_one, read_all}
use Rattle.outcomes.specs.Refusals.{cut_short, other_edition, no_nodes, bad_padding}
use Rattle.answers.specs.Answers.{refused, taken}
use Rattle.slips.specs.Check.{padding_fits, settled, header_of, body_of, check_of}

-- "04 01 00 1f, then 31 bytes ff", and a last byte
abbrev pub bare : List ℕ → List ℕ
bare end = (4 ∷ 1 ∷ 0 ∷ 31 ∷ replicate 31 255) ++ end

module _ (H : List ℕ → List ℕ) (composed : List ℕ → Bool) where
  -- "The 36-byte slip above is accepted with 0 blocks"
  pub bare_accepted : check_of H composed (bare (224 ∷ [])) ≡ taken 36 0 (replicate 32 255)
  unfolding bits_in bits_of num_of octets read_value read_leaf read_rest read_one read_all padding_fits settled header_of body_of check_of
  bare_accepted = refl

  -- "with last byte e1: 10"
  pub bare_padding_set : check_of H composed (bare (225 ∷ [])) ≡ refused bad_padding 0
  unfolding bits_in bits_of num_of octets read_value read_leaf read_rest read_one read_all padding_fits settled header_of body_of check_of
  bare_padding_set = refl

  -- "without it: 2 at 0"
  pub bare_cut : check_of H composed (bare []) ≡ refused cut_short 0
  unfolding bits_in bits_of num_of octets read_value read_leaf read_rest read_one read_all padding_fits settled header_of body_of check_of
  bare_cut = refl

  -- "04 00: 4."
  pub no_nodes_lem : check_of H composed (4 ∷ 0 ∷ []) ≡ refused no_nodes 0
  unfolding bits_in bits_of num_of header_of check_of
  no_nodes_lem = refl

  -- "08 01: 3."
  pub other_edition_lem : check_of H composed (8 ∷ 1 ∷ []) ≡ refused other_edition 0
  unfolding bits_in bits_of num_of header_of check_of
  other_edition_lem = refl

  -- "No bytes: 2."
  pub no_bytes : check_of H composed [] ≡ refused cut_short 0
  unfolding header_of check_of
  no_bytes = refl
