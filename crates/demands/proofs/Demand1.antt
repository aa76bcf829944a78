-- Each answer of a call on slips is the first of the call's refusals that is given, at its place, and a refused call leaves every buffer.
use Prim.Native.Nat.{ℕ, zero, suc, ◌+◌, ◌*◌, ◌≤◌, ◌<◌}
use Rattle.std.proofs.Math.Bool.{Bool, true, true≢false}
use Rattle.std.specs.Prelude.{false, not, cond, ◌&&◌, ◌||◌, ◌⊎◌, ◌≡◌, ltb, leb, eqb, get_or}
use Rattle.std.proofs.lemmas.Bool.{false≢true}
use mathlib.Core.List.{List, [], ◌∷◌, ◌++◌, map, map-append}
use Rattle.std.proofs.Math.Logic.{inl, inr}
use Rattle.std.proofs.Math.Path.{refl, sym, ap, subst}
use Rattle.std.proofs.Common.{ap₂, ◌∙◌, arith}
use borrow.Author.Tests.{ne_eqb, eqb-true, eqb-false, ltb-true, ltb-false, leb-true, le-leb, lt-ltb, not-true, not-false}
use Rattle.std.proofs.Math.ListN.{length, drop}
use Rattle.std.proofs.lemmas.List.{length-map}
use Rattle.outcomes.specs.ChainLaws.{chain_each}
use Rattle.outcomes.specs.Chain.{chain}
use Rattle.lists.specs.TestsLaws.{and_left, and_right, and_both}
use Rattle.lists.specs.Lists.{all, same}
use Rattle.lists.specs.ListsLaws.{all_append, same_true, same_false, cons_head, cons_tail, nil_cons}
use Rattle.trees.specs.Nodes.{Node, inner, type_of, height, heads, prelabel, blocks_of, label, blocks}
use Rattle.trees.specs.Rules.{max_height, max_bytes, salted, text_fits}
use Rattle.trees.specs.Places.{Place}
use Rattle.trees.specs.Join.{Joint, ok, clash, join}
use Rattle.trees.specs.Rows.{Entry, node, tip, Tag, Step, fault, next, Verdict, faulty, left, tag_of, head_of, highest_of, hashed, step_of, onward, judged, verdict, rows, number, kids, below, run_of, grow, grown}
use Rattle.trees.proofs.StackLaws.{hashed_tags}
use Rattle.trees.proofs.StackSound.{tags_below, tags_kids}
use Rattle.outcomes.specs.Refusals.{accepted, too_long, cut_short, other_edition, no_nodes, not_one_tree, bad_padding, no_room, bad_list, roots_differ, join_too_large, bad_table, children_missing, too_high, salt_broken, not_composed, clashing}
use Rattle.tables.specs.PruningList.{first_fault, pruned}
use Rattle.tables.specs.Tables.{Table, row_fits, first_bad, columns_fit, sum, Columns}
use Rattle.tables.specs.TablesLaws.{columns_told}
use Rattle.bits.specs.Bits.{bits_of}
use Rattle.codec.specs.Writing.{slip_of}
use Rattle.codec.specs.Reading.{Read, short, got, Reading, read_one, read_all}
use Rattle.codec.specs.Reading as Reading
use Rattle.engine.specs.Engine.{one_tree, root_label}
use Rattle.tables.specs.Cells.{count_cell}
use Rattle.answers.specs.declared.Answer.{Answer}
use Rattle.answers.specs.Answers.{refused, taken}
use Rattle.tables.specs.Limits.{edition, header_bits}
use Rattle.slips.specs.Check.{edition_of, count_of, reading_of, padding_fits, settled_tests, settled, header_tests, header_of, headed, body_of, check_of}
use Rattle.outcomes.specs.Outcome.{over}
use Rattle.slips.specs.SlipTree.{slip_tree}
use Rattle.slips.specs.SlipTreeLaws.{check_tree}
use Rattle.pack.specs.Pack.{rows_of, bad_row, fault_tests, table_fault, tabled, size_tests, judged_tests, judged_as, answer_of, pack_of}
use Rattle.handing.specs.Handing.{over_all, handed_tests, handed_of}
use Rattle.unpack.specs.Unpack.{table_of, unpack_of}
use Rattle.send.specs.Sent.{sent_tests, sent, sent_tree}
use Rattle.prune_tables.specs.Pruned.{list_tests, pruned_of}
use Rattle.prune.specs.Prune.{slip_tests, prune_of}
use Rattle.answers.specs.Both.{sided, both_tests}
use Rattle.join_tables.specs.Joined.{too_large, large_tests, joined_of}
use Rattle.join_bodies.specs.Bodies.{leaving}
use Rattle.join.specs.Join.{join_of}
use Rattle.demands.specs.InOrder.{Case, on, among, InOrder}
use Rattle.demands.specs.InOrderLaws.{free, linked, onto, one_of, past}
use Rattle.demands.specs.Refusals.{says, Stated, Refuses, StatedOutcome, OneTree, row_cases, list_cases, header_cases, tree_case, room_case, end_cases, entry_case, entry_cases, body_cases, slip_cases, unpack_cases, formed_cases, pack_cases, prune_cases, trees_cases, join_cases, slip_numbers, unpack_numbers, pack_numbers, prune_numbers, join_numbers}

-- a test as its negation
swap : {A : Type 0} (b : Bool) (x y : A) → cond b x y ≡ cond (not b) y x
swap true x y = refl
swap false x y = refl

-- a list of numbers with more behind
or_more : (a b c : Bool) → (b ≡ true → c ≡ true) → (a || b) ≡ true → (a || c) ≡ true
or_more true b c h e = refl
or_more false b c h e = h e

among_more : (x y : List ℕ) (k : ℕ) → among x k ≡ true → among (x ++ y) k ≡ true
among_more [] y k e = absurd (false≢true e)
among_more (a ∷ x) y k e = or_more (eqb a k) (among x k) (among (x ++ y) k) (among_more x y k) e

-- the number 0 is none of a slip's
real : (k : ℕ) → among slip_numbers k ≡ true → k ≡ accepted → ⊥
real k e z = false≢true (subst (λ (n : ℕ). among slip_numbers n ≡ true) z e)

-- a refusal's number is one of the call's
pub refusal_number : (numbers : List ℕ) (cases : List Case) (a : Answer) → Stated numbers cases a → Refuses a → among numbers a.number ≡ true
refusal_number numbers cases a x h = go (one_of says (a.number ≡ accepted) a (among numbers) cases x.listed x.order)
  where
    go : (a.number ≡ accepted) ⊎ ((c : Case) × (i : ℕ) × (j : ℕ) × (among numbers c.number ≡ true) × (a ≡ says c i j)) → among numbers a.number ≡ true
    go (inl e) = absurd (h e)
    go (inr g) = ap (λ (y : Answer). among numbers y.number) g.4 ∙ g.3

-- as many entries are read as the header names, or fewer where the bits end before
after_whole : (r : Read) (b : List ℕ) (go : List ℕ → Reading) (n : ℕ) → ((z : List ℕ) → (go z).whole ≡ true → n ≤ length (go z).rows)
    → (Reading.after r b go).whole ≡ true → suc n ≤ length (Reading.after r b go).rows
after_whole short b go n h e = absurd (false≢true e)
after_whole (got x z) b go n h e = let k = h z e in omega arith

read_whole : (n : ℕ) (b : List ℕ) → (read_all n b).whole ≡ true → n ≤ length (read_all n b).rows
unfolding read_all
read_whole zero b e = omega arith
read_whole (suc n) b e = after_whole (read_one b) b (read_all n) n (read_whole n) e

after_fewer : (r : Read) (b : List ℕ) (go : List ℕ → Reading) (n : ℕ) → ((z : List ℕ) → (go z).whole ≡ false → length (go z).rows < n)
    → (Reading.after r b go).whole ≡ false → length (Reading.after r b go).rows < suc n
after_fewer short b go n h e = omega arith
after_fewer (got x z) b go n h e = let k = h z e in omega arith

read_fewer : (n : ℕ) (b : List ℕ) → (read_all n b).whole ≡ false → length (read_all n b).rows < n
unfolding read_all
read_fewer zero b e = absurd (true≢false e)
read_fewer (suc n) b e = after_fewer (read_one b) b (read_all n) n (read_fewer n) e

-- "each row (16)": the answer names the first row that is not of the form, or what follows decides
rows_order : (R : Type 0) (a : Answer) (ds : List Case) (i : ℕ) (ts cs ls : List ℕ) → length cs ≡ length ts → length ls ≡ length ts
    → (first_bad i ts cs ls < i + length ts → a ≡ refused bad_table (first_bad i ts cs ls)) → (i + length ts ≤ first_bad i ts cs ls → InOrder says ds R a)
    → InOrder says (row_cases i ts cs ls ++ ds) R a
unfolding first_bad
rows_order R a ds i [] cs ls p q h k = k (omega arith)
rows_order R a ds i (t ∷ ts) [] ls p q h k = absurd (omega arith)
rows_order R a ds i (t ∷ ts) (c ∷ cs) [] p q h k = absurd (omega arith)
rows_order R a ds i (t ∷ ts) (c ∷ cs) (l ∷ ls) p q h k =
    chain_each
    (λ x. (x < i + suc (length ts) → a ≡ refused bad_table x) → (i + suc (length ts) ≤ x → InOrder says ds R a) → InOrder says (row_cases i (t ∷ ts) (c ∷ cs) (l ∷ ls) ++ ds) R a)
    ((row_fits t c l, first_bad (i + 1) ts cs ls) ∷ []) i (
      λ e h k. inr (
        free (λ f. true≢false (sym e ∙ f)),
        rows_order R a ds (i + 1) ts cs ls (omega arith) (omega arith) (λ m. h (omega arith)) (λ m. k (omega arith)),
      ),
      λ e h k. inl (i, 0, (refl, refl, e), h (omega arith)),
    )
    h k

-- "12": the answer names the first faulty index of the list, or what follows decides
list_order : (R : Type 0) (a : Answer) (ds : List Case) (counts : List ℕ) (i low : ℕ) (list : List ℕ)
    → (first_fault counts i low list < i + length list → a ≡ refused bad_list (first_fault counts i low list))
    → (i + length list ≤ first_fault counts i low list → InOrder says ds R a) → InOrder says (list_cases counts i low list ++ ds) R a
unfolding first_fault
list_order R a ds counts i low [] h k = k (omega arith)
list_order R a ds counts i low (x ∷ xs) h k =
    let rising = leb low x in
    let names = ltb 0 (get_or counts x 0) in
    chain_each
    (λ y. (y < i + suc (length xs) → a ≡ refused bad_list y) → (i + suc (length xs) ≤ y → InOrder says ds R a) → InOrder says (list_cases counts i low (x ∷ xs) ++ ds) R a)
    ((leb low x && ltb 0 (get_or counts x 0), first_fault counts (i + 1) (x + 1) xs) ∷ []) i (
      λ e h k. inr (
        free (λ f. f (leb-true low x (and_left rising names e), ltb-true 0 (get_or counts x 0) (and_right rising names e))),
        list_order R a ds counts (i + 1) (x + 1) xs (λ m. h (omega arith)) (λ m. k (omega arith)),
      ),
      λ e h k. inl (
        i,
        0,
        (refl, refl, λ f. true≢false (sym (and_both rising names (le-leb low x f.0) (lt-ltb 0 (get_or counts x 0) f.1)) ∙ e)),
        h (omega arith),
      ),
    )
    h k

-- one tree of type 0 waits, by the tags of the stack and by its trees
one_true : (H : List ℕ → List ℕ) (ns : List Node) → one_tree (map (tag_of H) ns) ≡ true → OneTree ns
one_true H [] e = absurd (false≢true e)
one_true H (n ∷ []) e = (n, refl, eqb-true (type_of n) 0 e)
one_true H (n ∷ m ∷ ns) e = absurd (false≢true e)

one_false : (H : List ℕ → List ℕ) (ns : List Node) → one_tree (map (tag_of H) ns) ≡ false → OneTree ns → ⊥
one_false H [] e x = nil_cons x.1
one_false H (n ∷ []) e x = eqb-false (type_of n) 0 e (ap type_of (cons_head x.1) ∙ x.2)
one_false H (n ∷ m ∷ ns) e x = nil_cons (sym (cons_tail x.1))

-- the numbers of the lists that grow with the input
rows_listed : (f : ℕ → Bool) → f bad_table ≡ true → (i : ℕ) (ts cs ls : List ℕ) → all (λ (c : Case). f c.number) (row_cases i ts cs ls) ≡ true
rows_listed f e i [] cs ls = refl
rows_listed f e i (t ∷ ts) [] ls = refl
rows_listed f e i (t ∷ ts) (c ∷ cs) [] = refl
rows_listed f e i (t ∷ ts) (c ∷ cs) (l ∷ ls) = and_both (f bad_table) _ e (rows_listed f e (i + 1) ts cs ls)

list_listed : (f : ℕ → Bool) → f bad_list ≡ true → (counts : List ℕ) (i low : ℕ) (list : List ℕ)
    → all (λ (c : Case). f c.number) (list_cases counts i low list) ≡ true
list_listed f e counts i low [] = refl
list_listed f e counts i low (x ∷ xs) = and_both (f bad_list) _ e (list_listed f e counts (i + 1) (x + 1) xs)

on_listed : (f : ℕ → Bool) (side : ℕ) (cs : List Case) → all (λ (c : Case). f c.number) cs ≡ true → all (λ (c : Case). f c.number) (map (on side) cs) ≡ true
on_listed f side [] e = refl
on_listed f side (c ∷ cs) e =
    and_both (f c.number) _ (and_left (f c.number) (all (λ (d : Case). f d.number) cs) e)
    (on_listed f side cs (and_right (f c.number) (all (λ (d : Case). f d.number) cs) e))

-- the refusals of a slip, told of one of two
on_order : (Q : Type 0) (side : ℕ) (cs : List Case) (a : Answer) → InOrder says cs Q a → InOrder says (map (on side) cs) Q (sided side a)
on_order Q side [] a x = x
on_order Q side (c ∷ cs) a (inl g) = inl (g.0, g.1, g.2, ap (sided side) g.3)
on_order Q side (c ∷ cs) a (inr x) = inr (x.0, on_order Q side cs a x.1)

module _ (H : List ℕ → List ℕ) (composed : List ℕ → Bool) where
  entries_listed : (f : ℕ → Bool) → f children_missing ≡ true → f too_high ≡ true → f salt_broken ≡ true → f not_composed ≡ true
      → (i : ℕ) (ns : List Node) (es : List Entry) → all (λ (c : Case). f c.number) (entry_cases H composed i ns es) ≡ true
  entries_listed f a b c d i ns [] = refl
  entries_listed f a b c d i ns (node k ∷ es) =
      and_both (f children_missing) _ a
      (and_both (f too_high) _ b (and_both (f salt_broken) _ c (entries_listed f a b c d (i + 1) (grow ns (node k)) es)))
  entries_listed f a b c d i ns (tip t v ∷ es) = and_both (f not_composed) _ d (entries_listed f a b c d (i + 1) (grow ns (tip t v)) es)

  slip_listed : (f : ℕ → Bool) → ((k : ℕ) → among slip_numbers k ≡ true → f k ≡ true) → (s : List ℕ) → all (λ (c : Case). f c.number) (slip_cases H composed s) ≡ true
  slip_listed f h s =
      all_append (λ (c : Case). f c.number) (header_cases s) (body_cases H composed s)
      (and_both (f too_long) _ (h too_long refl)
      (and_both (f cut_short) _ (h cut_short refl) (and_both (f other_edition) _ (h other_edition refl) (and_both (f no_nodes) true (h no_nodes refl) refl))))
      (all_append (λ (c : Case). f c.number) (entry_cases H composed 0 [] (reading_of s).rows) (end_cases s)
      (entries_listed f (h children_missing refl) (h too_high refl) (h salt_broken refl) (h not_composed refl) 0 [] (reading_of s).rows)
      (and_both (f cut_short) _ (h cut_short refl) (and_both (f not_one_tree) _ (h not_one_tree refl) (and_both (f bad_padding) true (h bad_padding refl) refl))))

  -- "5, 6, 7 at its internal node", by the trees that wait
  abbrev node_tests : ℕ → List Node → List (Bool × Step)
  node_tests k ns =
      (ltb (length ns) k, fault children_missing)
      ∷ (ltb max_height (height (inner (run_of (kids k ns)))), fault too_high)
      ∷ (not (salted (heads H (run_of (kids k ns)))), fault salt_broken)
      ∷ []

  abbrev node_next : ℕ → List Node → Step
  node_next k ns = next (map (tag_of H) (grow ns (node k))) (blocks_of (length (prelabel (heads H (run_of (kids k ns))))))

  node_chain : (k : ℕ) (ns : List Node) → step_of H composed (map (tag_of H) ns) (node k) ≡ chain (node_tests k ns) (node_next k ns)
  node_chain k ns =
      let hs = heads H (run_of (kids k ns)) in
      ap (λ (n : ℕ). cond (ltb n k) (fault children_missing) (hashed H (below k (map (tag_of H) ns)) (highest_of (kids k (map (tag_of H) ns))) (map head_of (kids k (map (tag_of H) ns)))))
      (length-map ns (tag_of H))
      ∙ ap (cond (ltb (length ns) k) (fault children_missing))
      (ap₂ (λ (x y : List Tag). hashed H x (highest_of y) (map head_of y)) (tags_below H composed k ns) (tags_kids H composed k ns)
      ∙ hashed_tags H (map (tag_of H) (below k ns)) (kids k ns)
      ∙ ap (cond (ltb max_height (height (inner (run_of (kids k ns))))) (fault too_high))
      (swap (salted hs) _ _
      ∙ ap (λ (z : List Tag). cond (not (salted hs)) (fault salt_broken) (next z (blocks_of (length (prelabel hs)))))
      (sym (map-append (tag_of H) (below k ns) (inner (run_of (kids k ns)) ∷ [])))))

  -- "8 at its leaf"
  abbrev tip_tests : ℕ → List ℕ → List (Bool × Step)
  tip_tests t v = (not (text_fits composed t v), fault not_composed) ∷ []

  abbrev tip_next : List Node → ℕ → List ℕ → Step
  tip_next ns t v = next (map (tag_of H) (grow ns (tip t v))) 0

  tip_chain : (t : ℕ) (v : List ℕ) (ns : List Node) → step_of H composed (map (tag_of H) ns) (tip t v) ≡ chain (tip_tests t v) (tip_next ns t v)
  tip_chain t v ns =
      swap (text_fits composed t v) _ _
      ∙ ap (λ (z : List Tag). cond (not (text_fits composed t v)) (fault not_composed) (next z 0)) (sym (map-append (tag_of H) ns _))

  -- the verdict leaves the trees ns on the stack
  abbrev Left : List Node → Verdict → Type 0
  Left ns v = (b : ℕ) × (v ≡ left (map (tag_of H) ns) b)

  -- "each entry in turn": an answer that tells the verdict's refusal
  module _ (F : Verdict → Answer) (tell : (k i : ℕ) → F (faulty k i) ≡ refused k i) where
    entries_order : (es : List Entry) (i b : ℕ) (ns : List Node)
        → InOrder says (entry_cases H composed i ns es) (Left (grown es ns) (judged H composed es i (map (tag_of H) ns) b)) (F (judged H composed es i (map (tag_of H) ns) b))
    entries_order [] i b ns = (b, refl)
    entries_order (node k ∷ es) i b ns =
        let go : List Tag → ℕ → Verdict = λ z c. judged H composed es (i + 1) z (b + c) in
        let rest : List Case = entry_cases H composed (i + 1) (grow ns (node k)) es in
        let Q : Step → Type 0 = λ x. InOrder says rest (Left (grown es (grow ns (node k))) (onward x i go)) (F (onward x i go)) in
        subst (λ (x : Step). InOrder says (entry_case H composed i ns (node k) ++ rest) (Left (grown es (grow ns (node k))) (onward x i go)) (F (onward x i go)))
        (sym (node_chain k ns))
        (onto says _ _ _ (entry_case H composed i ns (node k)) rest (λ x. x)
        (linked says (λ x. F (onward x i go)) Q (node_tests k ns) (node_next k ns) (entry_case H composed i ns (node k)) (
          λ e. (i, 0, (refl, refl, ltb-true (length ns) k e), tell children_missing i),
          λ e. (
            free (λ h. omega (arith, h, ltb-false (length ns) k e)),
            (
              λ d. (i, 0, (refl, refl, ltb-true max_height (height (inner (run_of (kids k ns)))) d), tell too_high i),
              λ d. (
                free (λ h. omega (arith, h, ltb-false max_height (height (inner (run_of (kids k ns)))) d)),
                (
                  λ c. (i, 0, (refl, refl, not-true (salted (heads H (run_of (kids k ns)))) c), tell salt_broken i),
                  λ c. (
                    free (λ h. true≢false (sym (not-false (salted (heads H (run_of (kids k ns)))) c) ∙ h)),
                    entries_order es (i + 1) (b + blocks_of (length (prelabel (heads H (run_of (kids k ns)))))) (grow ns (node k)),
                  ),
                ),
              ),
            ),
          ),
        )))
    entries_order (tip t v ∷ es) i b ns =
        let go : List Tag → ℕ → Verdict = λ z c. judged H composed es (i + 1) z (b + c) in
        let rest : List Case = entry_cases H composed (i + 1) (grow ns (tip t v)) es in
        let Q : Step → Type 0 = λ x. InOrder says rest (Left (grown es (grow ns (tip t v))) (onward x i go)) (F (onward x i go)) in
        subst (λ (x : Step). InOrder says (entry_case H composed i ns (tip t v) ++ rest) (Left (grown es (grow ns (tip t v))) (onward x i go)) (F (onward x i go)))
        (sym (tip_chain t v ns))
        (onto says _ _ _ (entry_case H composed i ns (tip t v)) rest (λ x. x)
        (linked says (λ x. F (onward x i go)) Q (tip_tests t v) (tip_next ns t v) (entry_case H composed i ns (tip t v)) (
          λ e. (i, 0, (refl, refl, not-true (text_fits composed t v) e), tell not_composed i),
          λ e. (
            free (λ h. true≢false (sym (not-false (text_fits composed t v) e) ∙ h)),
            entries_order es (i + 1) (b + 0) (grow ns (tip t v)),
          ),
        )))

  -- behind the entries: 2 at the first that is not there, then 9, 10
  ends_order : (s : List ℕ) (ns : List Node) (b : ℕ) → grown (reading_of s).rows [] ≡ ns
      → InOrder says (end_cases s) ((settled (length s) (reading_of s) (left (map (tag_of H) ns) b)).number ≡ accepted) (settled (length s) (reading_of s) (left (map (tag_of H) ns) b))
  unfolding settled
  ends_order s ns b e =
      let r : Reading = reading_of s in
      let bits : List ℕ = drop header_bits (bits_of s) in
      linked says (λ a. a) (λ a. a.number ≡ accepted) (settled_tests r (map (tag_of H) ns)) (taken (length s) b (root_label (map (tag_of H) ns))) (end_cases s) (
        λ w. (length r.rows, 0, (refl, refl, read_fewer (count_of s) bits (not-true r.whole w)), refl),
        λ w. (
          free (λ h. omega (arith, h, read_whole (count_of s) bits (not-false r.whole w))),
          (
            λ o. (0, 0, (refl, refl, λ x. one_false H ns (not-true (one_tree (map (tag_of H) ns)) o) (subst OneTree e x)), refl),
            λ o. (
              free (λ h. h (subst OneTree (sym e) (one_true H ns (not-false (one_tree (map (tag_of H) ns)) o)))),
              (
                λ p. (0, 0, (refl, refl, not-true (padding_fits r.rest) p), refl),
                λ p. (free (λ h. true≢false (sym (not-false (padding_fits r.rest) p) ∙ h)), refl),
              ),
            ),
          ),
        ),
      )

  body_order : (s : List ℕ) → InOrder says (body_cases H composed s) ((body_of H composed s).number ≡ accepted) (body_of H composed s)
  unfolding body_of settled
  body_order s =
      let r : Reading = reading_of s in
      let F : Verdict → Answer = settled (length s) r in
      onto says _ _ _ (entry_cases H composed 0 [] r.rows) (end_cases s)
      (λ x. subst (λ (v : Verdict). InOrder says (end_cases s) ((F v).number ≡ accepted) (F v)) (sym x.1) (ends_order s (grown r.rows []) x.0 refl))
      (entries_order F (λ k i. refl) r.rows 0 0 [])

  check_order : (s : List ℕ) → InOrder says (slip_cases H composed s) ((check_of H composed s).number ≡ accepted) (check_of H composed s)
  unfolding check_of header_of
  check_order s =
      let body : Answer = body_of H composed s in
      onto says _ _ _ (header_cases s) (body_cases H composed s) (λ x. x)
      (linked says (λ h. headed h body) (λ h. InOrder says (body_cases H composed s) ((headed h body).number ≡ accepted) (headed h body)) (header_tests s)
      (record { number = accepted; count = count_of s }) (header_cases s) (
        λ e. (0, 0, (refl, refl, ltb-true max_bytes (length s) e), refl),
        λ e. (
          free (λ h. omega (arith, h, ltb-false max_bytes (length s) e)),
          (
            λ e. (0, 0, (refl, refl, ltb-true (8 * length s) header_bits e), refl),
            λ e. (
              free (λ h. omega (arith, h, ltb-false (8 * length s) header_bits e)),
              (
                λ e. (0, 0, (refl, refl, eqb-false (edition_of s) edition (not-true (eqb (edition_of s) edition) e)), refl),
                λ e. (
                  free (λ h. h (eqb-true (edition_of s) edition (not-false (eqb (edition_of s) edition) e))),
                  (
                    λ e. (0, 0, (refl, refl, eqb-true (count_of s) 0 e), refl),
                    λ e. (free (eqb-false (count_of s) 0 e), body_order s),
                  ),
                ),
              ),
            ),
          ),
        ),
      ))

  -- the check
  pub check_stated : (s : List ℕ) → Stated slip_numbers (slip_cases H composed s) (check_of H composed s)
  check_stated s = record { order = check_order s; listed = slip_listed (among slip_numbers) (λ k e. e) s }

  -- a call that answers as the check does where it refuses, and something else where it accepts
  slip_refused : (R : Type 0) (s : List ℕ) (ds : List Case) → Refuses (check_of H composed s) → InOrder says (slip_cases H composed s ++ ds) R (check_of H composed s)
  slip_refused R s ds h = onto says _ _ _ (slip_cases H composed s) ds (λ a. absurd (h a)) (check_order s)

  none : (a : Answer) → a.number ≡ accepted → (c : Case) (i j : ℕ) → among slip_numbers c.number ≡ true → a ≡ says c i j → ⊥
  none a e c i j r x = real c.number r (sym (ap (λ (y : Answer). y.number) x) ∙ e)

  slip_passed : (R : Type 0) (b : Answer) (s : List ℕ) (ds : List Case) → (check_of H composed s).number ≡ accepted → InOrder says ds R b
      → InOrder says (slip_cases H composed s ++ ds) R b
  slip_passed R b s ds e x = past says _ _ _ _ (among slip_numbers) (slip_cases H composed s) ds (check_stated s).listed (none (check_of H composed s) e) (check_order s) x

  -- the unpacker
  unpack_order : (s : List ℕ) (b : Table)
      → InOrder says (unpack_cases H composed s b) ((unpack_of H composed s b).answer.number ≡ accepted) (unpack_of H composed s b).answer
  unfolding unpack_of handed_of
  unpack_order s b =
      let a : Answer = check_of H composed s in
      let t : Table = table_of (reading_of s).rows in
      chain_each (λ u. InOrder says (unpack_cases H composed s b) (u.answer.number ≡ accepted) u.answer) (handed_tests a t b)
      (record { answer = a; left = over_all t b }) (
        λ e. slip_refused _ s _ (eqb-false a.number accepted (not-true (eqb a.number accepted) e)),
        λ e.
            let good : a.number ≡ accepted = eqb-true a.number accepted (not-false (eqb a.number accepted) e) in (
              λ l. slip_passed _ _ s _ good (inl (0, 0, (refl, refl, l), refl)),
              λ l. slip_passed _ _ s _ good (inr (free (λ h. true≢false (sym h ∙ l)), good)),
            ),
      )

  pub unpack_stated : (s : List ℕ) (b : Table) → StatedOutcome unpack_numbers (unpack_cases H composed s b) b (unpack_of H composed s b)
  unfolding unpack_of handed_of
  unpack_stated s b =
      let a : Answer = check_of H composed s in
      let t : Table = table_of (reading_of s).rows in
      record {
        stated =
            record {
              order = unpack_order s b;
              listed =
                  all_append (λ (c : Case). among unpack_numbers c.number) (slip_cases H composed s) _
                  (slip_listed (among unpack_numbers) (among_more slip_numbers (no_room ∷ [])) s) refl;
            };
        kept =
            chain_each (λ u. Refuses u.answer → u.left ≡ b) (handed_tests a t b) (record { answer = a; left = over_all t b }) (
              λ e h. refl,
              λ e. (λ l h. refl, λ l h. absurd (h (eqb-true a.number accepted (not-false (eqb a.number accepted) e)))),
            );
      }

  -- behind the entries of a table: 9, 11
  judged_order : (t : Table) (room : ℕ) (ns : List Node) (b : ℕ) → grown (rows_of t) [] ≡ ns
      → InOrder says (tree_case (rows_of t) ∷ room_case (rows_of t) room ∷ [])
      ((judged_as (rows_of t) room (left (map (tag_of H) ns) b)).number ≡ accepted) (judged_as (rows_of t) room (left (map (tag_of H) ns) b))
  unfolding judged_as
  judged_order t room ns b e =
      linked says (λ a. a) (λ a. a.number ≡ accepted) (judged_tests (rows_of t) room (map (tag_of H) ns))
      (taken (length (slip_of (rows_of t))) b (root_label (map (tag_of H) ns)))
      (tree_case (rows_of t) ∷ room_case (rows_of t) room ∷ []) (
        λ o. (0, 0, (refl, refl, λ x. one_false H ns (not-true (one_tree (map (tag_of H) ns)) o) (subst OneTree e x)), refl),
        λ o. (
          free (λ h. h (subst OneTree (sym e) (one_true H ns (not-false (one_tree (map (tag_of H) ns)) o)))),
          (
            λ r. (0, 0, (refl, refl, ltb-true room (length (slip_of (rows_of t))) r), refl),
            λ r. (free (λ h. omega (arith, h, ltb-false room (length (slip_of (rows_of t))) r)), refl),
          ),
        ),
      )

  -- "1, then 5 to 8 by entry, 9, 11"
  formed_order : (t : Table) (room : ℕ) (a : Answer) → a ≡ judged_as (rows_of t) room (verdict H composed (rows_of t))
      → InOrder says (formed_cases H composed t room) ((chain (size_tests t) a).number ≡ accepted) (chain (size_tests t) a)
  unfolding judged_as
  formed_order t room a is =
      let es : List Entry = rows_of t in
      let F : Verdict → Answer = judged_as es room in
      let ends : List Case = tree_case es ∷ room_case es room ∷ [] in
      chain_each (λ x. InOrder says (formed_cases H composed t room) (x.number ≡ accepted) x) (size_tests t) a (
        λ l. inl (0, 0, (refl, refl, ltb-true max_bytes (length (slip_of es)) l), refl),
        λ l. inr (
          free (λ h. omega (arith, h, ltb-false max_bytes (length (slip_of es)) l)),
          subst (λ (x : Answer). InOrder says (entry_cases H composed 0 [] es ++ ends) (x.number ≡ accepted) x) (sym is)
              (onto says _ _ _ (entry_cases H composed 0 [] es) ends
              (λ x. subst (λ (v : Verdict). InOrder says ends ((F v).number ≡ accepted) (F v)) (sym x.1) (judged_order t room (grown es []) x.0 refl))
              (entries_order F (λ k i. refl) es 0 0 [])),
        ),
      )

  -- the packer
  pack_order : (t : Table) (room : ℕ) → InOrder says (pack_cases H composed t room) ((answer_of H composed t room).number ≡ accepted) (answer_of H composed t room)
  unfolding answer_of table_fault
  pack_order t room =
      let ts : List ℕ = t.types in
      let fits : Bool = columns_fit t.types t.counts t.lengths in
      let last : Answer = chain (size_tests t) (judged_as (rows_of t) room (verdict H composed (rows_of t))) in
      chain_each (λ f. InOrder says (pack_cases H composed t room) ((tabled f last).number ≡ accepted) (tabled f last)) (fault_tests t)
      (record { number = accepted; place = 0 }) (
        λ c. inl (0, 0, (refl, refl, not-true fits c), refl),
        λ c.
            let k : Columns t.types t.counts t.lengths = columns_told t.types t.counts t.lengths (not-false fits c) in
            let no-columns = free {i = 0} {P = fits ≡ false} (λ h. true≢false (sym (not-false fits c) ∙ h)) in (
              λ z. inr (no-columns, inl (0, 0, (refl, refl, eqb-true (length ts) 0 z), refl)),
              λ z. (
                λ r. inr (
                  no-columns,
                  inr (
                    free (eqb-false (length ts) 0 z),
                    rows_order _ (refused bad_table (bad_row t)) _ 0 t.types t.counts t.lengths k.counts_long k.lengths_long (λ m. refl)
                        (λ m. absurd (omega (arith, m, ltb-true (bad_row t) (length ts) r))),
                  ),
                ),
                λ r. (
                  λ v. inr (
                    no-columns,
                    inr (
                      free (eqb-false (length ts) 0 z),
                      rows_order _ (refused bad_table 0) _ 0 t.types t.counts t.lengths k.counts_long k.lengths_long
                          (λ m. absurd (omega (arith, m, ltb-false (bad_row t) (length ts) r)))
                          (λ m. inl (0, 0, (refl, refl, eqb-false (length t.values) (sum t.lengths) (not-true (eqb (length t.values) (sum t.lengths)) v)), refl)),
                    ),
                  ),
                  λ v. inr (
                    no-columns,
                    inr (
                      free (eqb-false (length ts) 0 z),
                      rows_order _ last _ 0 t.types t.counts t.lengths k.counts_long k.lengths_long
                          (λ m. absurd (omega (arith, m, ltb-false (bad_row t) (length ts) r)))
                          (λ m. inr (
                            free (λ h. h (eqb-true (length t.values) (sum t.lengths) (not-false (eqb (length t.values) (sum t.lengths)) v))),
                            formed_order t room (judged_as (rows_of t) room (verdict H composed (rows_of t))) refl,
                          )),
                    ),
                  ),
                ),
              ),
            ),
      )

  pub pack_stated : (t : Table) (out : List ℕ) → StatedOutcome pack_numbers (pack_cases H composed t (length out)) out (pack_of H composed t out)
  unfolding pack_of
  pack_stated t out =
      record {
        stated =
            record {
              order = pack_order t (length out);
              listed =
                  all_append (λ (c : Case). among pack_numbers c.number) (row_cases 0 t.types t.counts t.lengths) _
                  (rows_listed (among pack_numbers) refl 0 t.types t.counts t.lengths)
                  (all_append (λ (c : Case). among pack_numbers c.number) (entry_cases H composed 0 [] (rows_of t)) _
                  (entries_listed (among pack_numbers) refl refl refl refl 0 [] (rows_of t)) refl);
            };
        kept = λ h. rw (ne_eqb (answer_of H composed t (length out)).number accepted h) refl;
      }

  -- "11"
  sent_order : (es : List Entry) (b : ℕ) (l out : List ℕ)
      → InOrder says (room_case es (length out) ∷ []) ((sent es b l out).answer.number ≡ accepted) (sent es b l out).answer
  unfolding sent
  sent_order es b l out =
      linked says (λ p. p.answer) (λ p. p.answer.number ≡ accepted) (sent_tests es out)
      (record { answer = taken (length (slip_of es)) b l; left = over (slip_of es) out }) (room_case es (length out) ∷ []) (
        λ e. (0, 0, (refl, refl, ltb-true (length out) (length (slip_of es)) e), refl),
        λ e. (free (λ h. omega (arith, h, ltb-false (length out) (length (slip_of es)) e)), refl),
      )

  sent_kept : (es : List Entry) (b : ℕ) (l out : List ℕ) → Refuses (sent es b l out).answer → (sent es b l out).left ≡ out
  unfolding sent
  sent_kept es b l out =
      chain_each (λ p. Refuses p.answer → p.left ≡ out) (sent_tests es out)
      (record { answer = taken (length (slip_of es)) b l; left = over (slip_of es) out }) (λ e h. refl, λ e h. absurd (h refl))

  -- "12, 11"
  pruned_order : (counts list : List ℕ) (n : Node) (out : List ℕ)
      → InOrder says (list_cases counts 0 0 list ++ (room_case (rows (pruned H list n)) (length out) ∷ []))
      ((pruned_of H counts list n out).answer.number ≡ accepted) (pruned_of H counts list n out).answer
  unfolding pruned_of
  pruned_order counts list n out =
      let m : Node = pruned H list n in
      let ds : List Case = room_case (rows m) (length out) ∷ [] in
      chain_each (λ p. InOrder says (list_cases counts 0 0 list ++ ds) (p.answer.number ≡ accepted) p.answer) (list_tests counts list out) (sent_tree H m out) (
        λ e. list_order _ (refused bad_list (first_fault counts 0 0 list)) ds counts 0 0 list (λ k. refl)
            (λ k. absurd (omega (arith, k, ltb-true (first_fault counts 0 0 list) (length list) e))),
        λ e. list_order _ (sent_tree H m out).answer ds counts 0 0 list
            (λ k. absurd (omega (arith, k, ltb-false (first_fault counts 0 0 list) (length list) e)))
            (λ k. sent_order (rows m) (blocks H m) (label H m) out),
      )

  pruned_kept : (counts list : List ℕ) (n : Node) (out : List ℕ) → Refuses (pruned_of H counts list n out).answer → (pruned_of H counts list n out).left ≡ out
  unfolding pruned_of
  pruned_kept counts list n out =
      let m : Node = pruned H list n in
      chain_each (λ p. Refuses p.answer → p.left ≡ out) (list_tests counts list out) (sent_tree H m out)
      (λ e h. refl, λ e. sent_kept (rows m) (blocks H m) (label H m) out)

  -- the pruner
  pub prune_stated : (s list out : List ℕ) → StatedOutcome prune_numbers (prune_cases H composed s list (length out)) out (prune_of H composed s list out)
  unfolding prune_of
  prune_stated s list out =
      let a : Answer = check_of H composed s in
      let counts : List ℕ = map count_cell (reading_of s).rows in
      record {
        stated =
            record {
              order =
                  chain_each (λ p. InOrder says (prune_cases H composed s list (length out)) (p.answer.number ≡ accepted) p.answer) (slip_tests a out)
                  (pruned_of H counts list (slip_tree s) out) (
                    λ e. slip_refused _ s _ (eqb-false a.number accepted (not-true (eqb a.number accepted) e)),
                    λ e. slip_passed _ _ s _ (eqb-true a.number accepted (not-false (eqb a.number accepted) e)) (pruned_order counts list (slip_tree s) out),
                  );
              listed =
                  all_append (λ (c : Case). among prune_numbers c.number) (slip_cases H composed s) _
                  (slip_listed (among prune_numbers) (among_more slip_numbers (bad_list ∷ no_room ∷ [])) s)
                  (all_append (λ (c : Case). among prune_numbers c.number) (list_cases counts 0 0 list) _
                  (list_listed (among prune_numbers) refl counts 0 0 list) refl);
            };
        kept =
            chain_each (λ p. Refuses p.answer → p.left ≡ out) (slip_tests a out) (pruned_of H counts list (slip_tree s) out)
            (λ e h. refl, λ e. pruned_kept counts list (slip_tree s) out);
      }

  -- a join that is a tree is no clash, and is one tree
  ok_clash : {c : Node} {p : Place} → ok c ≡ clash p → ⊥
  ok_clash e = let z : ◌≡◌ {A = ℕ} 0 1 = cc in omega arith

  ok_inj : {c d : Node} → ok c ≡ ok d → c ≡ d
  ok_inj e = cc

  -- "14, 15, 11"
  joined_order : (a b : Node) (out : List ℕ) (j : Joint) → join H a b ≡ j
      → InOrder says (drop 1 (trees_cases H a b (length out))) ((joined_of H a b out j).answer.number ≡ accepted) (joined_of H a b out j).answer
  unfolding joined_of
  joined_order a b out (clash p) e = inl (number a p, number b p, (p, e, refl, refl), refl)
  joined_order a b out (ok c) e =
      inr (
        λ i j g. ok_clash (sym e ∙ g.1),
        chain_each (λ x. InOrder says (drop 2 (trees_cases H a b (length out))) (x.answer.number ≡ accepted) x.answer) (large_tests c out) (sent_tree H c out) (
          λ l. inl (0, 0, (refl, refl, (c, e, l)), refl),
          λ l. inr (
            free (λ g. true≢false (sym g.2 ∙ ap too_large (ok_inj (sym g.1 ∙ e)) ∙ l)),
            again _ _ (sent_order (rows c) (blocks H c) (label H c) out),
          ),
        ),
      )
    where
      again : (Q : Type 0) (x : Answer) → InOrder says (room_case (rows c) (length out) ∷ []) Q x
          → InOrder says (drop 3 (trees_cases H a b (length out))) Q x
      again Q x (inl g) = inl (g.0, g.1, (g.2.0, g.2.1, (c, e, g.2.2)), g.3)
      again Q x (inr g) =
          inr (free (λ h. g.0 0 0 (refl, refl, subst (λ (n : Node). length out < length (slip_of (rows n))) (ok_inj (sym h.1 ∙ e)) h.2)), g.1)

  joined_kept : (a b : Node) (out : List ℕ) (j : Joint) → Refuses (joined_of H a b out j).answer → (joined_of H a b out j).left ≡ out
  unfolding joined_of
  joined_kept a b out (clash p) h = refl
  joined_kept a b out (ok c) h =
      chain_each (λ x. Refuses x.answer → x.left ≡ out) (large_tests c out) (sent_tree H c out)
      (λ l h. refl, λ l. sent_kept (rows c) (blocks H c) (label H c) out) h

  -- one of two slips refused, or passed
  side_refused : (R : Type 0) (side : ℕ) (s : List ℕ) (ds : List Case) → Refuses (check_of H composed s)
      → InOrder says (map (on side) (slip_cases H composed s) ++ ds) R (sided side (check_of H composed s))
  side_refused R side s ds h =
      onto says _ _ _ (map (on side) (slip_cases H composed s)) ds (λ a. absurd (h a)) (on_order ((check_of H composed s).number ≡ accepted) side (slip_cases H composed s) (check_of H composed s) (check_order s))

  side_passed : (R : Type 0) (b : Answer) (side : ℕ) (s : List ℕ) (ds : List Case) → (check_of H composed s).number ≡ accepted → InOrder says ds R b
      → InOrder says (map (on side) (slip_cases H composed s) ++ ds) R b
  side_passed R b side s ds e x =
      past says _ _ _ _ (among slip_numbers) (map (on side) (slip_cases H composed s)) ds
      (on_listed (among slip_numbers) side (slip_cases H composed s) (check_stated s).listed) (none (sided side (check_of H composed s)) e)
      (on_order ((check_of H composed s).number ≡ accepted) side (slip_cases H composed s) (check_of H composed s) (check_order s)) x

  -- the label that the check reports is the tree's
  told_label : (s : List ℕ) → (check_of H composed s).number ≡ accepted → (check_of H composed s).label ≡ label H (slip_tree s)
  told_label s e = ap (λ (a : Answer). a.label) (check_tree H composed s e).check_is

  -- the join
  join_order : (s u out : List ℕ) → InOrder says (join_cases H composed s u (length out)) ((join_of H composed s u out).answer.number ≡ accepted) (join_of H composed s u out).answer
  unfolding join_of
  join_order s u out =
      let a : Answer = check_of H composed s in
      let b : Answer = check_of H composed u in
      chain_each (λ p. InOrder says (join_cases H composed s u (length out)) (p.answer.number ≡ accepted) p.answer) (map (leaving out) (both_tests a b))
      (joined_of H (slip_tree s) (slip_tree u) out (join H (slip_tree s) (slip_tree u))) (
        λ e. side_refused _ 1 s _ (eqb-false a.number accepted (not-true (eqb a.number accepted) e)),
        λ e.
            let one : a.number ≡ accepted = eqb-true a.number accepted (not-false (eqb a.number accepted) e) in (
              λ d. side_passed _ _ 1 s _ one (side_refused _ 2 u _ (eqb-false b.number accepted (not-true (eqb b.number accepted) d))),
              λ d.
                  let both : b.number ≡ accepted = eqb-true b.number accepted (not-false (eqb b.number accepted) d) in (
                    λ l. side_passed _ _ 1 s _ one (side_passed _ _ 2 u _ both (inl (
                      0,
                      0,
                      (refl, refl, λ h. same_false a.label b.label (not-true (same a.label b.label) l) (told_label s one ∙ h ∙ sym (told_label u both))),
                      refl,
                    ))),
                    λ l. side_passed _ _ 1 s _ one (side_passed _ _ 2 u _ both (inr (
                      free (λ h. h (sym (told_label s one) ∙ same_true a.label b.label (not-false (same a.label b.label) l) ∙ told_label u both)),
                      joined_order (slip_tree s) (slip_tree u) out (join H (slip_tree s) (slip_tree u)) refl,
                    ))),
                  ),
            ),
      )

  pub join_stated : (s u out : List ℕ) → StatedOutcome join_numbers (join_cases H composed s u (length out)) out (join_of H composed s u out)
  unfolding join_of
  join_stated s u out =
      let sub : (k : ℕ) → among slip_numbers k ≡ true → among join_numbers k ≡ true = among_more slip_numbers (roots_differ ∷ clashing ∷ join_too_large ∷ no_room ∷ []) in
      record {
        stated =
            record {
              order = join_order s u out;
              listed =
                  all_append (λ (c : Case). among join_numbers c.number) (map (on 1) (slip_cases H composed s)) _
                  (on_listed (among join_numbers) 1 (slip_cases H composed s) (slip_listed (among join_numbers) sub s))
                  (all_append (λ (c : Case). among join_numbers c.number) (map (on 2) (slip_cases H composed u)) _
                  (on_listed (among join_numbers) 2 (slip_cases H composed u) (slip_listed (among join_numbers) sub u)) refl);
            };
        kept =
            chain_each (λ p. Refuses p.answer → p.left ≡ out) (map (leaving out) (both_tests (check_of H composed s) (check_of H composed u)))
            (joined_of H (slip_tree s) (slip_tree u) out (join H (slip_tree s) (slip_tree u))) (
              λ e h. refl,
              λ e. (λ d h. refl, λ d. (λ l h. refl, λ l. joined_kept (slip_tree s) (slip_tree u) out (join H (slip_tree s) (slip_tree u)))),
            );
      }
