-- Demand 2: "Root labels are the hash tree of source document 000, with SHA-256 of FIPS 180-4 as its hash. A title is stored in the composed
-- form of Unicode (NFC) within our repertoire. A table packed and unpacked is the same table, and a slip unpacked and packed is the same
-- slip. Pruning keeps the root label, and replaces each chosen subtree by its label only."
use Rattle.std.specs.Prelude.{ℕ, ◌≤◌, Bool, true, List, ◌++◌, ◌≡◌, length}
use Rattle.std.proofs.Math.Option.{some}
use Rattle.lists.specs.Lists.{Below}
use Rattle.trees.specs.Nodes.{Node, Run, inner, leaf, label, blocks}
use Rattle.trees.specs.Places.{Place, node_at, stays, cut}
use Rattle.trees.proofs.PruneLaws.{cut_stays, cut_named}
use Rattle.trees.specs.Rows.{rows, number}
use Rattle.trees.specs.Rules.{WellFormed}
use Rattle.outcomes.specs.Refusals.{accepted}
use Rattle.tables.specs.PruningList.{named, pruned}
use Rattle.tables.specs.Tables.{Table}
use Rattle.codec.specs.Writing.{slip_of}
use Rattle.sha256.specs.Sha256 as Sha256
use Rattle.sha256.specs.Blocks.{Octets, label_long, label_octets}
use Rattle.titles.specs.Compose as Titles
use Rattle.nfc.specs.Utf8.{encodes, decode}
use Rattle.nfc.specs.Repertoire.{all_plain, all_in}
use Rattle.nfc.specs.Nfc.{nfc}
use Rattle.titles.specs.Compose.{composed_text, accepted_with, compose_of}
use Rattle.titles.specs.TitleTheorems.{title_nfc, accepted_nfc, equal_nfc}
use Rattle.answers.specs.Answers.{taken}
use Rattle.slips.specs.Check.{count_of, check_of}
use Rattle.outcomes.specs.Outcome.{over}
use Rattle.pack.specs.Pack.{answer_of, pack_of}
use Rattle.unpack.specs.Unpack.{table_in, table_of, unpack_of}
use Rattle.handing.specs.HandingLaws.{Room}
use Rattle.slips.specs.SlipTrees.{SlipOf, check_complete, check_unique}
use Rattle.pack.proofs.PackTrees.{TableOf, tree_answer, pack_tree, pack_outcome, pack_sound, pack_unique}
use Rattle.pack.proofs.RoundTrips.{written, Again, written_checks, slip_again, table_again}
use Rattle.slips.specs.SlipTree.{slip_tree}
use Rattle.slips.specs.ByteTrees.{accepted_slip}
use Rattle.prune.specs.Prune.{prune_of}
use Rattle.prune.specs.PruneTheorems.{PrunedAs, prune_told, prune_checks}

-- SHA-256 gives bytes
pub sha_bytes : (x : List ℕ) → Below 256 (Sha256.label x)
unfolding Octets
sha_bytes x = label_octets x

-- s is the slip of the tree n
abbrev pub Slip : List ℕ → Node → Type 0
Slip s n = SlipOf Sha256.label composed_text s n

-- "Root labels are the hash tree of source document 000": an accepted slip is that of one well-formed tree, and its label and blocks are told
pub record SlipLabelled (s : List ℕ) : Type 0 where
  pub tree : Node
  pub is : Slip s tree
  pub only : (n : Node) → Slip s n → n ≡ tree
  pub answer : check_of Sha256.label composed_text s ≡ taken (length s) (blocks Sha256.label tree) (label Sha256.label tree)

pub labels : (s : List ℕ) → Below 256 s → (check_of Sha256.label composed_text s).number ≡ accepted → SlipLabelled s
labels s bytes e =
    let x = accepted_slip Sha256.label composed_text s bytes e in
    record {
      tree = slip_tree s;
      is = x;
      only = λ n y. check_unique Sha256.label composed_text s n (slip_tree s) y x;
      answer = check_complete Sha256.label composed_text s (slip_tree s) x;
    }

-- and the slip of every well-formed tree is accepted with them
pub labels_told : (s : List ℕ) (n : Node) → Slip s n
    → check_of Sha256.label composed_text s ≡ taken (length s) (blocks Sha256.label n) (label Sha256.label n)
labels_told s n x = check_complete Sha256.label composed_text s n x

-- t is the table of the tree n
abbrev pub Tabled : Table → Node → Type 0
Tabled t n = TableOf Sha256.label composed_text t n

-- the packer's: an accepted table is that of one well-formed tree, whose label and blocks are told and whose slip is written
pub record TableLabelled (t : Table) (out : List ℕ) : Type 0 where
  pub tree : Node
  pub is : Tabled t tree
  pub only : (n : Node) → Tabled t n → n ≡ tree
  pub room : length (slip_of (rows tree)) ≤ length out
  pub outcome :
      pack_of Sha256.label composed_text t out
      ≡ record { answer = taken (length (slip_of (rows tree))) (blocks Sha256.label tree) (label Sha256.label tree); left = over (slip_of (rows tree)) out }

pub table_labels : (t : Table) (out : List ℕ) → (pack_of Sha256.label composed_text t out).answer.number ≡ accepted → TableLabelled t out
unfolding pack_of
table_labels t out e =
    let x = pack_sound Sha256.label composed_text t (length out) e in
    record {
      tree = x.0;
      is = x.1;
      only = λ n y. pack_unique Sha256.label composed_text t n x.0 y x.1;
      room = x.2;
      outcome = pack_outcome Sha256.label composed_text t x.0 out x.1 x.2;
    }

-- and the table of every well-formed tree is accepted with them where its slip has room, or refused for its size or the room alone
pub table_labels_told : (n : Node) (room : ℕ) → WellFormed Sha256.label composed_text n
    → answer_of Sha256.label composed_text (table_of (rows n)) room ≡ tree_answer Sha256.label composed_text n room
table_labels_told n room w = pack_tree Sha256.label composed_text n room w

-- "A title is stored in the composed form of Unicode (NFC) within our repertoire": what is accepted has all its characters in the repertoire,
-- where `nfc` is Unicode's, and is written in NFC
pub nfc_stored : (title out : List ℕ) → (compose_of title out).answer.number ≡ accepted
    → (all_in (decode title) ≡ true) × (all_plain (nfc (decode title)) ≡ true) × (compose_of title out ≡ accepted_with (encodes (nfc (decode title))) out)
nfc_stored title out e = accepted_nfc title out e

-- a title of the repertoire, within the limit, whose NFC is composed text is accepted where that has room
pub nfc_accepted : (title out : List ℕ) → length title ≤ Titles.max_title → all_in (decode title) ≡ true → all_plain (nfc (decode title)) ≡ true
    → length (encodes (nfc (decode title))) ≤ length out → compose_of title out ≡ accepted_with (encodes (nfc (decode title))) out
nfc_accepted title out under known plain room = title_nfc title out under known plain room

-- so É as one letter and as E and a mark are stored alike
pub nfc_alike : (x y out : List ℕ) → length x ≤ Titles.max_title → length y ≤ Titles.max_title → all_in (decode y) ≡ true
    → nfc (decode x) ≡ nfc (decode y) → (compose_of x out).answer.number ≡ accepted → compose_of y out ≡ compose_of x out
nfc_alike x y out ux uy known e z = equal_nfc x y out ux uy known e z

-- "A table packed and unpacked is the same table": what the packer writes, unpacked into buffers with room, gives the packer's answer, and
-- the table stands in the buffers
pub table_same : (t : Table) (out : List ℕ) → Below 256 t.values → (pack_of Sha256.label composed_text t out).answer.number ≡ accepted
    → (b : Table) → Room t b
    → Again t b (pack_of Sha256.label composed_text t out) (unpack_of Sha256.label composed_text (written (pack_of Sha256.label composed_text t out)) b)
table_same t out bytes e b room = table_again Sha256.label composed_text t out bytes e b room

-- and it checks, with what was reported
pub packing_checks : (t : Table) (out : List ℕ) → Below 256 t.values → (pack_of Sha256.label composed_text t out).answer.number ≡ accepted
    → check_of Sha256.label composed_text (written (pack_of Sha256.label composed_text t out)) ≡ (pack_of Sha256.label composed_text t out).answer
packing_checks t out bytes e = written_checks Sha256.label composed_text t out bytes e

-- "a slip unpacked and packed is the same slip": the rows that the unpacker leaves in its buffers, as many as the slip names, with their
-- values, packed where the slip has room
pub slip_same : (s : List ℕ) → Below 256 s → (b : Table) → (unpack_of Sha256.label composed_text s b).answer.number ≡ accepted
    → (out : List ℕ) → length s ≤ length out
    → pack_of Sha256.label composed_text (table_in (count_of s) (unpack_of Sha256.label composed_text s b).left) out
    ≡ record { answer = (unpack_of Sha256.label composed_text s b).answer; left = over s out }
slip_same s bytes b e out room = slip_again Sha256.label composed_text s bytes b e out room

-- "Pruning keeps the root label": what is written is the slip of the tree cut at the named nodes, with the same label, and never longer
pub pruning : (s list out : List ℕ) → Below 256 s → (prune_of Sha256.label composed_text s list out).answer.number ≡ accepted
    → PrunedAs Sha256.label composed_text label_long sha_bytes s list out
pruning s list out bytes e = prune_told Sha256.label composed_text label_long sha_bytes s list out bytes e

-- and it checks, with what was reported
pub pruning_checks : (s list out : List ℕ) → Below 256 s → (prune_of Sha256.label composed_text s list out).answer.number ≡ accepted
    → check_of Sha256.label composed_text (slip_of (rows (pruned Sha256.label list (slip_tree s)))) ≡ (prune_of Sha256.label composed_text s list out).answer
pruning_checks s list out bytes e = prune_checks Sha256.label composed_text label_long sha_bytes s list out bytes e

module _ (list : List ℕ) (n : Node) (p : Place) where
  -- the places that the list names
  abbrev pub names : Place → Bool
  names q = named list (number n q)

  -- "and replaces each chosen subtree by its label only": a named internal node under no other is dangling with its label
  pub chosen : (r : Run) → node_at n p ≡ some (inner r) → stays names p ≡ true → named list (number n p) ≡ true
      → node_at (pruned Sha256.label list n) p ≡ some (leaf 0 (label Sha256.label (inner r)))
  chosen r e k here = cut_named Sha256.label names n p r e k here

  -- a node under no named one stays at its place, pruned at the names below it
  pub staying : (m : Node) → node_at n p ≡ some m → stays names p ≡ true
      → node_at (pruned Sha256.label list n) p ≡ some (cut Sha256.label (λ q. names (p ++ q)) m)
  staying m e k = cut_stays Sha256.label names n p m e k
