-- Demand 1: "Each refusal has its number and place, and a refused call writes to no buffer." For each call on slips: the refusals that it
-- may answer, in document 01's order, each with its condition, its place, its second number and its side.
use Rattle.std.specs.Prelude.{ℕ, ◌+◌, ◌*◌, ◌≤◌, ◌<◌, Bool, true, false, List, [], ◌∷◌, ◌++◌, map, ◌≡◌, length, get_or}
use Rattle.lists.specs.Lists.{all}
use Rattle.trees.specs.Nodes.{Node, inner, type_of, height, heads, label}
use Rattle.trees.specs.Rules.{max_height, max_bytes, salted, text_fits, no_label}
use Rattle.trees.specs.Places.{Place}
use Rattle.trees.specs.Join.{ok, clash, join}
use Rattle.trees.specs.Rows.{Entry, node, tip, rows, number, kids, run_of, grow, grown}
use Rattle.tables.specs.Limits.{edition, header_bits}
use Rattle.outcomes.specs.Refusals.{accepted, too_long, cut_short, other_edition, no_nodes, not_one_tree, bad_padding, no_room, bad_list, roots_differ, join_too_large, bad_table, children_missing, too_high, salt_broken, not_composed, clashing}
use Rattle.tables.specs.Tables.{Table, row_fits, columns_fit, sum}
use Rattle.codec.specs.Writing.{slip_of}
use Rattle.tables.specs.Cells.{count_cell}
use Rattle.tables.specs.PruningList.{pruned}
use Rattle.answers.specs.declared.Answer.{Answer}
use Rattle.slips.specs.Check.{edition_of, count_of, reading_of, padding_fits}
use Rattle.outcomes.specs.Outcome.{Outcome}
use Rattle.slips.specs.SlipTree.{slip_tree}
use Rattle.pack.specs.Pack.{rows_of}
use Rattle.handing.specs.Handing.{lacks_room}
use Rattle.unpack.specs.Unpack.{table_of}
use Rattle.join_tables.specs.Joined.{too_large}
use Rattle.demands.specs.InOrder.{Case, at, plain, on, among, InOrder}

-- "A refusal returns its number and place, with length, blocks and label all zero"
abbrev pub says : Case → ℕ → ℕ → Answer
says c i j = record { number = c.number; place = i; second = j; side = c.side; length = 0; blocks = 0; label = no_label }

-- An answer of a call with these refusals, all of them among these numbers: the first that is given, or acceptance where none is.
pub record Stated (numbers : List ℕ) (cases : List Case) (a : Answer) : Type 0 where
  pub order : InOrder says cases (a.number ≡ accepted) a
  pub listed : all (λ (c : Case). among numbers c.number) cases ≡ true

-- the answer refuses
abbrev pub Refuses : Answer → Type 0
Refuses a = a.number ≡ accepted → ⊥

-- the same of a call with buffers, which stay as they were where the call refuses
pub record StatedOutcome {B : Type 0} (numbers : List ℕ) (cases : List Case) (b : B) (o : Outcome Answer B) : Type 0 where
  pub stated : Stated numbers cases o.answer
  pub kept : Refuses o.answer → o.left ≡ b

-- "one tree with a root of type 0"
abbrev pub OneTree : List Node → Type 0
OneTree ns = (n : Node) × (ns ≡ n ∷ []) × (type_of n ≡ 0)

-- a number of the pruning list, where none below low may follow: "entry numbers of internal nodes, strictly rising"
abbrev pub Names : List ℕ → ℕ → ℕ → Type 0
Names counts low x = (low ≤ x) × (0 < get_or counts x 0)

-- "each row (16)", from row i on
abbrev pub row_cases : ℕ → List ℕ → List ℕ → List ℕ → List Case
row_cases i [] cs ls = []
row_cases i (t ∷ ts) [] ls = []
row_cases i (t ∷ ts) (c ∷ cs) [] = []
row_cases i (t ∷ ts) (c ∷ cs) (l ∷ ls) = at bad_table i (row_fits t c l ≡ false) ∷ row_cases (i + 1) ts cs ls

-- "pruning list: not rising, out of range, or not an internal node", from index i on; a row that is not there has no children
abbrev pub list_cases : List ℕ → ℕ → ℕ → List ℕ → List Case
list_cases counts i low [] = []
list_cases counts i low (x ∷ xs) = at bad_list i (Names counts low x → ⊥) ∷ list_cases counts (i + 1) (x + 1) xs

-- "1, 2 for the header, 3, 4"
abbrev pub header_cases : List ℕ → List Case
header_cases s =
    plain too_long (max_bytes < length s)
    ∷ plain cut_short (8 * length s < header_bits)
    ∷ plain other_edition (edition_of s ≡ edition → ⊥)
    ∷ plain no_nodes (count_of s ≡ 0)
    ∷ []

-- "9", of the entries es
abbrev pub tree_case : List Entry → Case
tree_case es = plain not_one_tree (OneTree (grown es []) → ⊥)

-- "11", of the slip of the entries es
abbrev pub room_case : List Entry → ℕ → Case
room_case es room = plain no_room (room < length (slip_of es))

-- behind the entries: 2 at the first that is not there, "then 9, 10"
abbrev pub end_cases : List ℕ → List Case
end_cases s =
    at cut_short (length (reading_of s).rows) (length (reading_of s).rows < count_of s)
    ∷ tree_case (reading_of s).rows
    ∷ plain bad_padding (padding_fits (reading_of s).rest ≡ false)
    ∷ []

module _ (H : List ℕ → List ℕ) where
  -- "13, 14 (first clash in this order ..), 15, 11", of the trees a and b
  abbrev pub trees_cases : Node → Node → ℕ → List Case
  trees_cases a b room =
      plain roots_differ (label H a ≡ label H b → ⊥)
      ∷ record {
        number = clashing;
        side = 0;
        given = λ i j. (p : Place) × (join H a b ≡ clash p) × (i ≡ number a p) × (j ≡ number b p);
      }
      ∷ plain join_too_large ((c : Node) × (join H a b ≡ ok c) × (too_large c ≡ true))
      ∷ plain no_room ((c : Node) × (join H a b ≡ ok c) × (room < length (slip_of (rows c))))
      ∷ []

module _ (H : List ℕ → List ℕ) (composed : List ℕ → Bool) where
  -- "5, 6, 7 at its internal node, 8 at its leaf": entry i, where the trees ns wait
  abbrev pub entry_case : ℕ → List Node → Entry → List Case
  entry_case i ns (node k) =
      at children_missing i (length ns < k)
      ∷ at too_high i (max_height < height (inner (run_of (kids k ns))))
      ∷ at salt_broken i (salted (heads H (run_of (kids k ns))) ≡ false)
      ∷ []
  entry_case i ns (tip t v) = at not_composed i (text_fits composed t v ≡ false) ∷ []

  -- "then each entry in turn", from entry i on
  abbrev pub entry_cases : ℕ → List Node → List Entry → List Case
  entry_cases i ns [] = []
  entry_cases i ns (e ∷ es) = entry_case i ns e ++ entry_cases (i + 1) (grow ns e) es

  -- "then each entry in turn: 2, 5, 6, 7 at its internal node, 8 at its leaf; then 9, 10"
  abbrev pub body_cases : List ℕ → List Case
  body_cases s = entry_cases 0 [] (reading_of s).rows ++ end_cases s

  -- "Slip: 1, 2 for the header, 3, 4; then each entry in turn .."
  abbrev pub slip_cases : List ℕ → List Case
  slip_cases s = header_cases s ++ body_cases s

  -- "Unpacker: slip, 11."
  abbrev pub unpack_cases : List ℕ → Table → List Case
  unpack_cases s b =
      slip_cases s
      ++ (plain no_room (lacks_room (table_of (reading_of s).rows) (length b.types) (length b.counts) (length b.lengths) (length b.values) ≡ true) ∷ [])

  -- "1, then 5 to 8 by entry, 9, 11"
  abbrev pub formed_cases : Table → ℕ → List Case
  formed_cases t room =
      plain too_long (max_bytes < length (slip_of (rows_of t)))
      ∷ (entry_cases 0 [] (rows_of t) ++ (tree_case (rows_of t) ∷ room_case (rows_of t) room ∷ []))

  -- "Packer: columns unequal or over 1,023 rows (16), 4, each row (16), values area not the sum of lengths (16), 1, then 5 to 8 by entry,
  -- 9, 11."
  abbrev pub pack_cases : Table → ℕ → List Case
  pack_cases t room =
      plain bad_table (columns_fit t.types t.counts t.lengths ≡ false)
      ∷ plain no_nodes (length t.types ≡ 0)
      ∷ (row_cases 0 t.types t.counts t.lengths
      ++ (plain bad_table (length t.values ≡ sum t.lengths → ⊥) ∷ formed_cases t room))

  -- "Pruner: slip, 12, 11."
  abbrev pub prune_cases : List ℕ → List ℕ → ℕ → List Case
  prune_cases s list room =
      slip_cases s
      ++ (list_cases (map count_cell (reading_of s).rows) 0 0 list ++ (room_case (rows (pruned H list (slip_tree s))) room ∷ []))

  -- "Join: first slip (side 1), second slip (side 2), 13, 14, 15, 11; side is 0 otherwise."
  abbrev pub join_cases : List ℕ → List ℕ → ℕ → List Case
  join_cases s u room = map (on 1) (slip_cases s) ++ (map (on 2) (slip_cases u) ++ trees_cases H (slip_tree s) (slip_tree u) room)

-- the numbers of each call
abbrev pub slip_numbers : List ℕ
slip_numbers =
    too_long
    ∷ cut_short
    ∷ other_edition
    ∷ no_nodes
    ∷ children_missing
    ∷ too_high
    ∷ salt_broken
    ∷ not_composed
    ∷ not_one_tree
    ∷ bad_padding
    ∷ []

abbrev pub unpack_numbers : List ℕ
unpack_numbers = slip_numbers ++ (no_room ∷ [])

abbrev pub pack_numbers : List ℕ
pack_numbers =
    bad_table ∷ no_nodes ∷ too_long ∷ children_missing ∷ too_high ∷ salt_broken ∷ not_composed ∷ not_one_tree ∷ no_room ∷ []

abbrev pub prune_numbers : List ℕ
prune_numbers = slip_numbers ++ (bad_list ∷ no_room ∷ [])

abbrev pub join_numbers : List ℕ
join_numbers = slip_numbers ++ (roots_differ ∷ clashing ∷ join_too_large ∷ no_room ∷ [])
