-- "then each entry in turn: 2, 5, 6, 7 at its internal node, 8 at its leaf; then 9, 10": the check reads all entries and judges them then,
-- and that is this order, entry by entry.
use Prim.Native.Nat.{ℕ, zero, suc, ◌+◌}
use Rattle.std.specs.Prelude.{Bool, not, List, [], ◌∷◌, ◌≡◌, length, drop}
use Rattle.std.proofs.Math.Bool.{cond}
use Rattle.std.proofs.Math.Path.{refl, ap}
use Rattle.std.proofs.Common.{◌∙◌, arith}
use Rattle.outcomes.specs.Chain.{chain}
use Rattle.bits.specs.Bits.{bits_of}
use Rattle.trees.specs.Rows.{Entry, Tag, Step, fault, next, Verdict, faulty, left, step_of, onward, judged, verdict}
use Rattle.outcomes.specs.Refusals.{cut_short}
use Rattle.codec.specs.Reading.{Read, short, got, Reading, after, read_one, read_all}
use Rattle.engine.specs.Engine.{one_tree, root_label}
use Rattle.answers.specs.declared.Answer.{Answer}
use Rattle.answers.specs.Answers.{refused, taken}
use Rattle.tables.specs.Limits.{header_bits}
use Rattle.slips.specs.Check.{count_of, reading_of, end_tests, settled, body_of}

-- "then 9, 10"
abbrev pub closed : ℕ → List ℕ → List Tag → ℕ → Answer
closed n rest st b = chain (end_tests (one_tree st) rest) (taken n b (root_label st))

-- a refusal at its entry, or what follows
abbrev pub stepped : Step → ℕ → (List Tag → ℕ → Answer) → Answer
stepped (fault k) i go = refused k i
stepped (next st c) i go = go st c

-- 2 at an entry that the bits don't hold, or what follows
abbrev pub read_then : Read → ℕ → (Entry → List ℕ → Answer) → Answer
read_then short i go = refused cut_short i
read_then (got e rest) i go = go e rest

module _ (H : List ℕ → List ℕ) (composed : List ℕ → Bool) (n : ℕ) where
  -- k entries more from the bits, the next with the number i, on the stack st with b blocks compressed
  unfoldable pub in_turn : ℕ → List ℕ → ℕ → List Tag → ℕ → Answer
  in_turn zero bits i st b = closed n bits st b
  in_turn (suc k) bits i st b =
      read_then (read_one bits) i (λ e rest. stepped (step_of H composed st e) i (λ z c. in_turn k rest (i + 1) z (b + c)))

  -- the answer to entries of which the first has the number i
  settled_from : ℕ → Reading → Verdict → Answer
  settled_from i r (faulty k j) = refused k j
  settled_from i r (left st b) = cond (not r.whole) (refused cut_short (i + length r.rows)) (closed n r.rest st b)

  -- the reading with one entry more in front
  front : Entry → Reading → Reading
  front e r = record { rows = e ∷ r.rows; rest = r.rest; whole = r.whole }

  settled_front : (i : ℕ) (e : Entry) (r : Reading) (v : Verdict) → settled_from i (front e r) v ≡ settled_from (i + 1) r v
  unfolding settled_from front
  settled_front i e r (faulty k j) = refl
  settled_front i e r (left st b) =
      ap (λ (m : ℕ). cond (not r.whole) (refused cut_short m) (closed n r.rest st b)) (omega arith)

  -- a step, with what follows it
  step_turn : (i b : ℕ) (e : Entry) (r : Reading) (x : Step) (go : List Tag → ℕ → Answer)
      → ((z : List Tag) (c : ℕ) → settled_from (i + 1) r (judged H composed r.rows (i + 1) z (b + c)) ≡ go z c)
      → settled_from i (front e r) (onward x i (λ z c. judged H composed r.rows (i + 1) z (b + c))) ≡ stepped x i go
  unfolding settled_from
  step_turn i b e r (fault k) go h = refl
  step_turn i b e r (next z c) go h = settled_front i e r (judged H composed r.rows (i + 1) z (b + c)) ∙ h z c

  -- an entry's reading, with what follows it
  read_turn : (bits : List ℕ) (i : ℕ) (st : List Tag) (b : ℕ) (x : Read) (more : List ℕ → Reading) (go : List ℕ → List Tag → ℕ → Answer)
      → ((rest : List ℕ) (z : List Tag) (c : ℕ) → settled_from (i + 1) (more rest) (judged H composed (more rest).rows (i + 1) z (b + c)) ≡ go rest z c)
      → settled_from i (after x bits more) (judged H composed (after x bits more).rows i st b)
      ≡ read_then x i (λ e rest. stepped (step_of H composed st e) i (λ z c. go rest z c))
  unfolding settled_from front
  read_turn bits i st b short more go h = ap (refused cut_short) (omega arith)
  read_turn bits i st b (got e rest) more go h = step_turn i b e (more rest) (step_of H composed st e) (go rest) (h rest)

  in_turn_lem : (k : ℕ) (bits : List ℕ) (i : ℕ) (st : List Tag) (b : ℕ)
      → settled_from i (read_all k bits) (judged H composed (read_all k bits).rows i st b) ≡ in_turn k bits i st b
  unfolding read_all in_turn settled_from
  in_turn_lem zero bits i st b = refl
  in_turn_lem (suc k) bits i st b =
      read_turn bits i st b (read_one bits) (λ rest. read_all k rest) (λ rest z c. in_turn k rest (i + 1) z (b + c))
      (λ rest z c. in_turn_lem k rest (i + 1) z (b + c))

  settled_from_lem : (r : Reading) (v : Verdict) → settled n r v ≡ settled_from 0 r v
  unfolding settled settled_from
  settled_from_lem r (faulty k i) = refl
  settled_from_lem r (left st b) =
      ap (λ (m : ℕ). cond (not r.whole) (refused cut_short m) (closed n r.rest st b)) (omega arith)

-- the check's answer once the header has been taken
pub body_in_turn : (H : List ℕ → List ℕ) (composed : List ℕ → Bool) (s : List ℕ)
    → body_of H composed s ≡ in_turn H composed (length s) (count_of s) (drop header_bits (bits_of s)) 0 [] 0
unfolding body_of
body_in_turn H composed s =
    settled_from_lem H composed (length s) (reading_of s) (verdict H composed (reading_of s).rows)
    ∙ in_turn_lem H composed (length s) (count_of s) (drop header_bits (bits_of s)) 0 [] 0
