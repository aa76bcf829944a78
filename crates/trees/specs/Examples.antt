-- Worked cases of document 01, by computation.
use Rattle.std.specs.Prelude.{◌≡◌, refl, Bool, true, false, List, [], ◌∷◌, ℕ, zero, suc, ◌%◌, length, replicate}
use Rattle.std.proofs.Math.Option.{some}
use Rattle.std.proofs.Common.{arith}
use Rattle.trees.specs.Nodes.{Node, Run, inner, leaf, nil, cons, prelabel, heads, label, blocks_of, blocks}
use Rattle.trees.specs.Rules.{label_bytes, salt_type, salt_bytes, salted, WellFormed}
use Rattle.trees.specs.Join.{ok, clash, join, refusal}
use Rattle.trees.specs.Rows.{node, tip, rows, number, faulty, left, verdict, tag_of}
use Rattle.trees.specs.Ends.{copy, answered14}

-- "a label of 32 copies of prelabel length modulo 256"
abbrev pub length_label : List ℕ → List ℕ
length_label x = replicate label_bytes (length x % 256)

-- any text is composed
abbrev any_text : List ℕ → Bool
any_text v = true

-- "a salt of 32 bytes"
abbrev pub salt : Node
salt = leaf salt_type (replicate salt_bytes 0)

-- a root of a salt and one more child
abbrev pub salted_root : Node → Node
salted_root n = inner (cons salt (cons n nil))

-- "two roots, each a salt of 32 bytes and one raw value of type 600 (00 and 01)"
abbrev pub root_a : Node
root_a = salted_root (leaf 600 (0 ∷ []))

abbrev pub root_b : Node
root_b = salted_root (leaf 600 (1 ∷ []))

-- they are well-formed and have one root label
pub root_a_well_formed : WellFormed length_label any_text root_a
root_a_well_formed =
    record {
      root = refl;
      fit = record {
        low = omega arith;
        rules = (
          record { children = refl; salt = refl },
          (record { form = refl; words = refl }, (record { form = refl; words = refl }, tt)),
        );
      };
    }

pub same_root_label : label length_label root_a ≡ label length_label root_b
same_root_label = refl

-- ● "Under a label of 32 copies of prelabel length modulo 256: two roots ..: 14": the clash is at the root
pub clash_at_root : join length_label root_a root_b ≡ clash []
clash_at_root = refl

pub clash_number : refusal (join length_label root_a root_b) ≡ 14
clash_number = refl

-- with one dangling side the join has the subtree, not the label
pub join_fills : join length_label (leaf 0 (label length_label root_a)) root_a ≡ ok root_a
join_fills = refl

-- a join of two runs, each of which has what the other lacks
abbrev twice : Node → Node → Node
twice a b = inner (cons a (cons b nil))

abbrev gone : Node
gone = leaf 0 (label length_label root_a)

pub join_both : join length_label (twice root_a gone) (twice gone root_b) ≡ ok (twice root_a root_b)
join_both = refl

-- "55 bytes take 1, 56 take 2"
pub blocks_55 : blocks_of 55 ≡ 1
blocks_55 = refl

pub blocks_56 : blocks_of 56 ≡ 2
blocks_56 = refl

-- "A root with salt and a five-byte title: .. its prelabel is 45 bytes too."
pub prelabel_45 : length (prelabel (heads length_label (cons salt (cons (leaf 2 (0x54 ∷ 0x69 ∷ 0x74 ∷ 0x6c ∷ 0x65 ∷ [])) nil)))) ≡ 45
prelabel_45 = refl

-- "type in two bytes, label length in two bytes, most significant first, then the label"
pub prelabel_bytes : prelabel (heads length_label (cons (leaf 600 (7 ∷ 8 ∷ [])) nil)) ≡ 2 ∷ 88 ∷ 0 ∷ 2 ∷ 7 ∷ 8 ∷ []
prelabel_bytes = refl

-- the salt rule: a salt alone, no salt and no pair, a salt and a pair; a pair alone, a salt not first, a salt of 31 bytes
abbrev salted_run : Run → Bool
salted_run r = salted (heads length_label r)

pub salt_alone : salted_run (cons salt nil) ≡ true
salt_alone = refl

pub salt_unneeded : salted_run (cons gone (cons root_a nil)) ≡ true
salt_unneeded = refl

pub salt_first : salted_run (cons salt (cons (leaf 2 []) (cons gone nil))) ≡ true
salt_first = refl

pub salt_missing : salted_run (cons gone (cons (leaf 2 []) nil)) ≡ false
salt_missing = refl

pub salt_second : salted_run (cons salt (cons salt nil)) ≡ false
salt_second = refl

pub salt_short : salted_run (cons (leaf 1 (replicate 31 0)) nil) ≡ false
salt_short = refl

-- a tree of height h + 1, of internal nodes with one child each
abbrev tower : ℕ → Node
tower zero = gone
tower (suc h) = inner (cons (tower h) nil)

-- the stack on rows: accepted, and each refusal at its entry; "Heights 16 and 17"
pub stack_accepts : verdict length_label any_text (rows root_a) ≡ left (tag_of length_label root_a ∷ []) (blocks length_label root_a)
stack_accepts = refl

pub stack_5 : verdict length_label any_text (tip 0 (replicate 32 0) ∷ node 2 ∷ []) ≡ faulty 5 1
stack_5 = refl

pub stack_16_high : verdict length_label any_text (rows (tower 15)) ≡ left (tag_of length_label (tower 15) ∷ []) 15
stack_16_high = refl

pub stack_6 : verdict length_label any_text (rows (tower 16)) ≡ faulty 6 16
stack_6 = refl

pub stack_7 : verdict length_label any_text (tip 2 [] ∷ node 1 ∷ []) ≡ faulty 7 1
stack_7 = refl

pub stack_8 : verdict length_label (λ v. false) (tip 1 (replicate 32 0) ∷ tip 511 [] ∷ []) ≡ faulty 8 1
stack_8 = refl

-- entry numbers in post order: the second child's first child is entry 3, the root the last
pub number_inner : number (twice root_a root_b) (1 ∷ 0 ∷ []) ≡ 3
number_inner = refl

pub number_root : number (twice root_a root_b) [] ≡ 6
number_root = refl

-- two ends with the same arrivals in another order, one of them repeated: the same tree, with all that was disclosed
abbrev copy_of : List Node → Node
copy_of xs = copy length_label some (λ a d. true) (label length_label (twice root_a root_b)) xs

pub ends_first : copy_of (twice root_a gone ∷ twice gone root_b ∷ []) ≡ twice root_a root_b
ends_first = refl

pub ends_second : copy_of (twice gone root_b ∷ twice root_a gone ∷ twice gone root_b ∷ []) ≡ twice root_a root_b
ends_second = refl

-- an end shown both of the roots that clash keeps the first and has answered 14
pub ends_shown : answered14 length_label some (λ a d. true) (label length_label root_a) (root_a ∷ root_b ∷ []) ≡ true
ends_shown = refl
