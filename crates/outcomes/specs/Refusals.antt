-- Document 01's refusal numbers. The code has each under the same name, in `Refusal`.
use Rattle.std.specs.Prelude.{ℕ}
use Rattle.outcomes.specs.declared.numbers.Refusal.{Refusal}
use Rattle.outcomes.specs.declared.numbers.Refusal.TheVariants.{TooLong, CutShort, OtherEdition, NoNodes, ChildrenMissing, TooHigh, SaltBroken, NotComposed, NotOneTree, BadPadding, NoRoom, BadList, RootsDiffer, Clashing, JoinTooLarge, BadTable, TitleLong, NotUtf8, OutsideRepertoire, LooseMark}

-- "accepted"
abbrev pub accepted : ℕ
accepted = 0

-- "slip over 32,768 bytes"
abbrev pub too_long : ℕ
too_long = 1

-- "bits end inside header or entry"
abbrev pub cut_short : ℕ
cut_short = 2

-- "edition not 1"
abbrev pub other_edition : ℕ
other_edition = 3

-- "node count 0"
abbrev pub no_nodes : ℕ
no_nodes = 4

-- "more children named than entries waiting"
abbrev pub children_missing : ℕ
children_missing = 5

-- "height over 16"
abbrev pub too_high : ℕ
too_high = 6

-- "salt rule broken"
abbrev pub salt_broken : ℕ
salt_broken = 7

-- "text value not composed"
abbrev pub not_composed : ℕ
not_composed = 8

-- "not one tree with a root of type 0"
abbrev pub not_one_tree : ℕ
not_one_tree = 9

-- "a padding bit set, or bytes left over"
abbrev pub bad_padding : ℕ
bad_padding = 10

-- "output too short"
abbrev pub no_room : ℕ
no_room = 11

-- "pruning list: not rising, out of range, or not an internal node"
abbrev pub bad_list : ℕ
bad_list = 12

-- "root labels differ"
abbrev pub roots_differ : ℕ
roots_differ = 13

-- "clash"
abbrev pub clashing : ℕ
clashing = 14

-- "join over 1,023 nodes or 32,768 bytes"
abbrev pub join_too_large : ℕ
join_too_large = 15

-- "table not of the form above"
abbrev pub bad_table : ℕ
bad_table = 16

-- "title over 511 bytes as given"
abbrev pub title_long : ℕ
title_long = 17

-- "title not UTF-8"
abbrev pub not_utf8 : ℕ
not_utf8 = 18

-- "character outside the repertoire"
abbrev pub outside_repertoire : ℕ
outside_repertoire = 19

-- "mark without a letter that takes it"
abbrev pub loose_mark : ℕ
loose_mark = 20

-- the number of each refusal of the code
abbrev pub number_of : Refusal → ℕ
number_of TooLong = too_long
number_of CutShort = cut_short
number_of OtherEdition = other_edition
number_of NoNodes = no_nodes
number_of ChildrenMissing = children_missing
number_of TooHigh = too_high
number_of SaltBroken = salt_broken
number_of NotComposed = not_composed
number_of NotOneTree = not_one_tree
number_of BadPadding = bad_padding
number_of NoRoom = no_room
number_of BadList = bad_list
number_of RootsDiffer = roots_differ
number_of Clashing = clashing
number_of JoinTooLarge = join_too_large
number_of BadTable = bad_table
number_of TitleLong = title_long
number_of NotUtf8 = not_utf8
number_of OutsideRepertoire = outside_repertoire
number_of LooseMark = loose_mark
