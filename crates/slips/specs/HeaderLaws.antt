-- The header's tests, one after the other.
use Rattle.std.specs.Prelude.{Ok, Err, ℕ, ◌*◌, ◌^◌, ◌≤◌, ◌<◌, Bool, false, not, List, ◌≡◌, refl, ltb, eqb, take, drop}
use Rattle.std.proofs.Math.Path.{sym}
use Rattle.std.proofs.Common.{ap, ◌∙◌, subst, arith, lt_of_lt_of_le, pow_mono, length-take}
use borrow.Author.Tests.{lt-ltb, le-ltb, eq-eqb, ne_eqb, ltb-false, eqb-true, not-false}
use Rattle.std.proofs.Math.ListN.{length}
use Rattle.outcomes.specs.ChainLaws.{chain_each}
use Rattle.bits.specs.Bits.{bits_of}
use Rattle.bits.specs.FieldLaws.{num_small}
use Rattle.trees.specs.Rules.{max_bytes, max_nodes}
use Rattle.tables.specs.Limits.{edition, edition_bits, count_bits, header_bits}
use Rattle.outcomes.specs.Refusals.{accepted, too_long, cut_short, other_edition, no_nodes}
use Rattle.answers.specs.Answers.{refused, refusal_answer}
use Rattle.slips.specs.Check.{Header, header_seen, edition_of, count_of, header_tests, header_of, body_of, check_of}
use Rattle.slips.specs.Opening.{Counted}
use Rattle.outcomes.specs.RefusalsLaws.{numbered}
use Rattle.outcomes.specs.declared.numbers.Refusal.{Refusal}

module _ (s : List ℕ) where
  pub header_long : max_bytes < length s → record { number = too_long; count = 0 } ≡ header_of s
  unfolding header_of
  header_long h = sym (rw (lt-ltb max_bytes (length s) h))

  module _ (p : length s ≤ max_bytes) where
    pub header_short : 8 * length s < header_bits → record { number = cut_short; count = 0 } ≡ header_of s
    unfolding header_of
    header_short h = sym (rw (le-ltb max_bytes (length s) p, lt-ltb (8 * length s) header_bits h))

    module _ (q : header_bits ≤ 8 * length s) where
      pub header_edition : (edition_of s ≡ edition → ⊥) → record { number = other_edition; count = 0 } ≡ header_of s
      unfolding header_of
      header_edition h =
          sym (rw (le-ltb max_bytes (length s) p, le-ltb (8 * length s) header_bits q, ne_eqb (edition_of s) edition h))

      module _ (r : edition_of s ≡ edition) where
        pub header_none : count_of s ≡ 0 → record { number = no_nodes; count = 0 } ≡ header_of s
        unfolding header_of
        header_none h =
            sym
            (rw (
              le-ltb max_bytes (length s) p,
              le-ltb (8 * length s) header_bits q,
              eq-eqb (edition_of s) edition r,
              eq-eqb (count_of s) 0 h,
            ))

        pub header_counted : (count_of s ≡ 0 → ⊥) → record { number = accepted; count = count_of s } ≡ header_of s
        unfolding header_of
        header_counted h =
            sym
            (rw (
              le-ltb max_bytes (length s) p,
              le-ltb (8 * length s) header_bits q,
              eq-eqb (edition_of s) edition r,
              ne_eqb (count_of s) 0 h,
            ))

-- 10 bits hold no more than 1,023
count_few : (s : List ℕ) → count_of s ≤ max_nodes
count_few s =
    let field : List ℕ = take count_bits (drop edition_bits (bits_of s)) in
    let long : length field ≤ count_bits = omega (arith, length-take count_bits (drop edition_bits (bits_of s))) in
    let small : count_of s < 2 ^ count_bits = lt_of_lt_of_le (num_small field) (pow_mono {j = count_bits} long) in
    omega arith

-- a header that is taken has passed each test: the slip is counted, and of this edition
pub header_passed : (s : List ℕ) → (header_of s).number ≡ accepted
    → (ltb max_bytes (length s) ≡ false) × (ltb (8 * length s) header_bits ≡ false) × (not (eqb (edition_of s) edition) ≡ false) × ((header_of s).count ≡ count_of s)
unfolding header_of
header_passed s =
    chain_each (λ h. h.number ≡ accepted → (ltb max_bytes (length s) ≡ false) × (ltb (8 * length s) header_bits ≡ false) × (not (eqb (edition_of s) edition) ≡ false) × (h.count ≡ count_of s))
    (header_tests s) (record { number = accepted; count = count_of s }) (
      λ e a. absurd (omega (arith, a)),
      λ long. (
        λ e a. absurd (omega (arith, a)),
        λ cut. (λ e a. absurd (omega (arith, a)), λ other. (λ e a. absurd (omega (arith, a)), λ none a. (long, cut, other, refl))),
      ),
    )

pub header_told : (s : List ℕ) → (header_of s).number ≡ accepted → Counted s (header_of s).count max_bytes max_nodes
header_told s e =
    let t = header_passed s e in
    record {
      head = ltb-false (8 * length s) header_bits t.1;
      long = ltb-false max_bytes (length s) t.0;
      counted = t.3;
      few = rw t.3 (count_few s);
    }

-- a header that was read and is taken
pub header_read : {s : List ℕ} {h : Header} → h ≡ header_of s → h.number ≡ accepted → Counted s h.count max_bytes max_nodes
header_read {s} e a =
    subst (λ (x : Header). Counted s x.count max_bytes max_nodes) (sym e) (header_told s (sym (ap (λ (x : Header). x.number) e) ∙ a))

pub header_edition_is : (s : List ℕ) → (header_of s).number ≡ accepted → edition_of s ≡ edition
header_edition_is s e = eqb-true (edition_of s) edition (not-false (eqb (edition_of s) edition) (header_passed s e).2)

pub check_refused : (H : List ℕ → List ℕ) (composed : List ℕ → Bool) (s : List ℕ) → ((header_of s).number ≡ accepted → ⊥)
    → refused (header_of s).number 0 ≡ check_of H composed s
unfolding check_of
check_refused H composed s h = sym (rw (ne_eqb (header_of s).number accepted h))

pub check_body : (H : List ℕ → List ℕ) (composed : List ℕ → Bool) (s : List ℕ) → (header_of s).number ≡ accepted
    → body_of H composed s ≡ check_of H composed s
unfolding check_of
check_body H composed s h = sym (rw (eq-eqb (header_of s).number accepted h))

-- by the code's answer: a header that is taken, and one that is refused
pub header_taken : {s : List ℕ} {n : ℕ} → header_seen (Ok n) ≡ header_of s → Counted s n max_bytes max_nodes × ((header_of s).number ≡ accepted)
header_taken {s} e = (header_read e refl, ap (λ (h : Header). h.number) (sym e))

pub header_refused : (H : List ℕ → List ℕ) (composed : List ℕ → Bool) (s : List ℕ) (r : Refusal) → header_seen (Err r) ≡ header_of s
    → refusal_answer (record { refusal = r; place = 0 }) ≡ check_of H composed s
header_refused H composed s r e =
    ap (λ (h : Header). refused h.number 0) e ∙ check_refused H composed s (λ q. numbered r (ap (λ (h : Header). h.number) e ∙ q))
