-- What 5 to 9 mean of a slip: the entry that is named breaks the rule of that number on the trees before it, or the trees are scattered.
use Rattle.std.specs.Prelude.{ℕ, ◌*◌, ◌≤◌, Bool, true, false, List, [], ◌∷◌, map, ◌≡◌, ltb, eqb, length, drop}
use Rattle.std.proofs.Common.{true≢false, ap, ◌∙◌, arith, eq-eqb, ne_eqb, eqb-true}
use Rattle.std.proofs.Math.Path.{refl, sym}
use Rattle.std.proofs.lemmas.Bool.{eqb-false}
use Rattle.bits.specs.Bits.{bits_of}
use Rattle.lists.specs.ListsLaws.{below_drop}
use Rattle.bits.specs.ByteLaws.{below_bits_of}
use Rattle.lists.specs.Lists.{all}
use Rattle.trees.specs.Nodes.{Node, type_of}
use Rattle.trees.specs.Rules.{max_bytes}
use Rattle.trees.specs.Rows.{formed, Tag, tag_of, Verdict, faulty, left, verdict}
use Rattle.trees.specs.Refused.{Broken, Scattered}
use Rattle.trees.proofs.RefusedLaws.{breaks_number, refused_broken, broken_refused, left_scattered, scattered_left}
use Rattle.tables.specs.Limits.{edition, header_bits}
use Rattle.outcomes.specs.Refusals.{accepted, cut_short, no_nodes, not_one_tree, bad_padding, children_missing, not_composed}
use Rattle.codec.specs.Reading.{Reading}
use Rattle.codec.specs.RoundTrip.{read_all_was}
use Rattle.engine.specs.Engine.{one_tree}
use Rattle.answers.specs.declared.Answer.{Answer}
use Rattle.answers.specs.Answers.{refused}
use Rattle.slips.specs.Check.{edition_of, count_of, reading_of, padding_fits, settled, header_of, body_of, check_of}
use Rattle.slips.specs.HeaderLaws.{check_refused, check_body}
use Rattle.slips.specs.SlipTrees.{proper_formed}

-- the entries read are of the form
pub read_formed : (s : List ℕ) → all formed (reading_of s).rows ≡ true
read_formed s =
    proper_formed (reading_of s).rows (read_all_was (count_of s) (drop header_bits (bits_of s)) (below_drop 2 header_bits (bits_of s) (below_bits_of s))).proper

-- the header's refusals are 1 to 4
header_low : (s : List ℕ) → (header_of s).number ≤ no_nodes
unfolding header_of
header_low s = go (ltb max_bytes (length s)) refl (ltb (8 * length s) header_bits) refl (eqb (edition_of s) edition) refl (eqb (count_of s) 0) refl
  where
    go : (a : Bool) → ltb max_bytes (length s) ≡ a → (b : Bool) → ltb (8 * length s) header_bits ≡ b → (c : Bool) → eqb (edition_of s) edition ≡ c
        → (d : Bool) → eqb (count_of s) 0 ≡ d → (header_of s).number ≤ no_nodes
    go true e b f c g d h = rw e (omega arith)
    go false e true f c g d h = rw (e, f) (omega arith)
    go false e false f false g d h = rw (e, f, g) (omega arith)
    go false e false f true g true h = rw (e, f, g, h) (omega arith)
    go false e false f true g false h = rw (e, f, g, h) (omega arith)

-- behind entries that are not refused: 2 where not all were read, 9 where not one tree waits, else 10 or 0
settled_cases : {C : Type 0} (n : ℕ) (r : Reading) (st : List Tag) (b : ℕ) → ((settled n r (left st b)).number ≡ cut_short → C)
    → (r.whole ≡ true → one_tree st ≡ false → (settled n r (left st b)).number ≡ not_one_tree → C)
    → ((settled n r (left st b)).number ≡ bad_padding → C) → ((settled n r (left st b)).number ≡ accepted → C) → C
unfolding settled
settled_cases {C} n r st b short many bad good = go r.whole refl (one_tree st) refl (padding_fits r.rest) refl
  where
    go : (w : Bool) → r.whole ≡ w → (o : Bool) → one_tree st ≡ o → (p : Bool) → padding_fits r.rest ≡ p → C
    go false e o f p g = short (rw e)
    go true e false f p g = many e f (rw (e, f))
    go true e true f false g = bad (rw (e, f, g))
    go true e true f true g = good (rw (e, f, g))

-- no one tag of type 0 is left where oneTree says so
pub none_left : (st : List Tag) → one_tree st ≡ false → (g : Tag) → st ≡ g ∷ [] → g.kind ≡ 0 → ⊥
none_left st e g one root = true≢false (sym (eq-eqb g.kind 0 root) ∙ sym (ap one_tree one) ∙ e)

module _ (H : List ℕ → List ℕ) (composed : List ℕ → Bool) where
  -- scattered trees leave no one tag of type 0
  pub scattered_tags : (ns : List Node) → ((n : Node) → ns ≡ n ∷ [] → type_of n ≡ 0 → ⊥) → one_tree (map (tag_of H) ns) ≡ false
  scattered_tags [] other = refl
  scattered_tags (n ∷ []) other = ne_eqb (type_of n) 0 (other n refl)
  scattered_tags (n ∷ m ∷ ns) other = refl

  settled_broken : (n : ℕ) (r : Reading) → all formed r.rows ≡ true → (v : Verdict) → verdict H composed r.rows ≡ v
      → children_missing ≤ (settled n r v).number → (settled n r v).number ≤ not_composed
      → Broken H composed r.rows (settled n r v).number (settled n r v).place
  unfolding settled
  settled_broken n r form (faulty k i) e low high = refused_broken H composed r.rows k i form e
  settled_broken n r form (left st b) e low high =
      settled_cases n r st b (λ q. absurd (omega (arith, low, q))) (λ w o q. absurd (omega (arith, high, q))) (λ q. absurd (omega (arith, high, q)))
      (λ q. absurd (omega (arith, low, q)))

  settled_scattered : (n : ℕ) (r : Reading) → all formed r.rows ≡ true → (v : Verdict) → verdict H composed r.rows ≡ v
      → (settled n r v).number ≡ not_one_tree → (r.whole ≡ true) × Scattered H composed r.rows
  unfolding settled
  settled_scattered n r form (faulty k i) e is =
      absurd (omega (arith, is, (breaks_number H composed (refused_broken H composed r.rows k i form e).breaks).1))
  settled_scattered n r form (left st b) e is =
      settled_cases n r st b (λ q. absurd (omega (arith, is, q)))
      (λ w o q. (w, left_scattered H composed r.rows st b form e (none_left st o))) (λ q. absurd (omega (arith, is, q)))
      (λ q. absurd (omega (arith, is, q)))

  -- the check goes by the body where its number is above 4
  body_is : (s : List ℕ) → children_missing ≤ (check_of H composed s).number → body_of H composed s ≡ check_of H composed s
  body_is s low = go (eqb (header_of s).number accepted) refl
    where
      go : (b : Bool) → eqb (header_of s).number accepted ≡ b → body_of H composed s ≡ check_of H composed s
      go true f = check_body H composed s (eqb-true (header_of s).number accepted f)
      go false f =
          absurd (omega (arith, header_low s, low, ap (λ (a : Answer). a.number) (check_refused H composed s (eqb-false (header_of s).number accepted f))))

  -- 5 to 8: "The place is the entry", and it breaks the rule of that number on the trees before it
  pub check_broken : (s : List ℕ) → children_missing ≤ (check_of H composed s).number → (check_of H composed s).number ≤ not_composed
      → Broken H composed (reading_of s).rows (check_of H composed s).number (check_of H composed s).place
  unfolding body_of
  check_broken s low high =
      let is = body_is s low in
      rw is at (settled_broken (length s) (reading_of s) (read_formed s) (verdict H composed (reading_of s).rows) refl (rw is low) (rw is high))

  -- and only then
  pub broken_checks : (s : List ℕ) (k i : ℕ) → (header_of s).number ≡ accepted → Broken H composed (reading_of s).rows k i → check_of H composed s ≡ refused k i
  unfolding body_of settled
  broken_checks s k i h x = sym (check_body H composed s h) ∙ rw (broken_refused H composed (reading_of s).rows k i x)

  -- 9: all entries that the header names were read, and they are scattered trees
  pub check_scattered : (s : List ℕ) → (check_of H composed s).number ≡ not_one_tree
      → ((reading_of s).whole ≡ true) × Scattered H composed (reading_of s).rows
  unfolding body_of
  check_scattered s e =
      let is = body_is s (omega (arith, e)) in
      settled_scattered (length s) (reading_of s) (read_formed s) (verdict H composed (reading_of s).rows) refl (rw is e)

  -- and only then
  pub scattered_checks : (s : List ℕ) → (header_of s).number ≡ accepted → (reading_of s).whole ≡ true → Scattered H composed (reading_of s).rows
      → check_of H composed s ≡ refused not_one_tree 0
  unfolding body_of settled
  scattered_checks s h w x =
      sym (check_body H composed s h)
      ∙ rw (scattered_left H composed (reading_of s).rows x, w, scattered_tags x.trees x.other)
