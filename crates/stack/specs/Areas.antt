-- How a stack's columns and area hold the nodes that wait, and what one entry makes of it.
use Rattle.std.specs.Prelude.{ℕ, ◌+◌, ◌*◌, ◌^◌, ◌≤◌, ◌<◌, ◌≡◌, List, [], ◌∷◌, ◌++◌, map, length, take, drop, cond, eqb, Option, Some, None}
use Rattle.std.proofs.Math.Seq.{paste}
use Rattle.trees.specs.Nodes.{head_bytes, prelabel, blocks_of}
use Rattle.trees.specs.Rules.{max_height, label_bytes}
use Rattle.trees.specs.Rows.{Entry, node, tip, Tag, head_of, highest_of, kids, below, parent}
use Rattle.sha256.specs.Sha256 as Sha256
use Rattle.faults.specs.Waiting.{StackColumns}
use Rattle.stack.specs.declared.Parent.{Parent}

-- the pieces of the nodes that wait, end to end
abbrev pub pieces : List Tag → List ℕ
pieces st = prelabel (map head_of st)

-- The stack st lies in the areas: its columns in the first `depth` cells, its pieces in the first `top` bytes.
pub record Laid (st : List Tag) (depth top : ℕ) (kinds heights sizes work : List ℕ) : Type 0 where
  pub deep : length st ≡ depth
  pub columns : StackColumns st (take depth kinds) (take depth heights) (take depth sizes)
  pub work_is : take top work ≡ pieces st
  pub full : length (pieces st) ≡ top

-- the nodes whose types, heights and label lengths are in columns, and their pieces end to end in an area
unfoldable pub tags_in : List ℕ → List ℕ → List ℕ → List ℕ → List Tag
tags_in [] hs ns w = []
tags_in (k ∷ ks) [] ns w = []
tags_in (k ∷ ks) (h ∷ hs) [] w = []
tags_in (k ∷ ks) (h ∷ hs) (n ∷ ns) w =
    record { kind = k; height = h; text = take n (drop head_bytes w) } ∷ tags_in ks hs ns (drop n (drop head_bytes w))

-- the nodes that wait, and the blocks compressed so far
pub record Held : Type 0 where
  pub tags : List Tag
  pub blocks : ℕ

abbrev pub held : ℕ → ℕ → List ℕ → List ℕ → List ℕ → List ℕ → Held
held depth blocks kinds heights sizes work =
    record { tags = tags_in (take depth kinds) (take depth heights) (take depth sizes) work; blocks = blocks }

-- what a stack is to its callers: what it holds. So that it can be copied, its areas go with it; no clause speaks of them.
pub record Stacked : Type 0 where
  pub held : Held
  pub depth : ℕ
  pub top : ℕ
  pub kinds : List ℕ
  pub heights : List ℕ
  pub sizes : List ℕ
  pub work : List ℕ

abbrev pub stacked : ℕ → ℕ → ℕ → List ℕ → List ℕ → List ℕ → List ℕ → Stacked
stacked depth top blocks ks hs ns w =
    record { held = held depth blocks ks hs ns w; depth = depth; top = top; kinds = ks; heights = hs; sizes = ns; work = w }

-- the areas hold a stack
pub record Waits (depth top : ℕ) (kinds heights sizes work : List ℕ) : Type 0 where
  pub laid : Laid (tags_in (take depth kinds) (take depth heights) (take depth sizes) work) depth top kinds heights sizes work

-- room for one node more
pub record PushAsks (nodes area : ℕ) (s : Held) (kind height : ℕ) (text : List ℕ) : Type 0 where
  pub kind_fits : kind < 2 ^ 16
  pub height_fits : height < 2 ^ 16
  pub text_fits : length text < 2 ^ 16
  pub room : length s.tags < nodes
  pub work_room : length (pieces s.tags) + head_bytes + length text ≤ area

-- what the last `count` give their parent
pub record ParentGives (st : List Tag) (count : ℕ) (r : Parent) : Type 0 where
  pub height : r.height ≡ highest_of (kids count st) + 1
  pub long : r.long ≡ length (pieces (kids count st))
  pub label : r.label ≡ Sha256.label (pieces (kids count st))

-- the blocks that an entry compresses
abbrev pub cost : List Tag → Entry → ℕ
cost st (node k) = blocks_of (length (pieces (kids k st)))
cost st (tip t v) = 0

-- what an entry that meets no refusal rests on
abbrev pub Sound : List Tag → Entry → Type 0
Sound st (node k) = (k ≤ length st) × (highest_of (kids k st) < max_height)
Sound st (tip t v) = (t < 2 ^ 16) × (length v < 2 ^ 16)

module _ (H : List ℕ → List ℕ) where
  -- the nodes that wait after an entry that meets no refusal
  abbrev pub after : List Tag → Entry → List Tag
  after st (node k) = below k st ++ (parent H (highest_of (kids k st)) (map head_of (kids k st)) ∷ [])
  after st (tip t v) = st ++ (record { kind = t; height = 1; text = v } ∷ [])

  -- the labels after entry i: an internal node's label stands at its row
  abbrev pub noted : List Tag → Entry → ℕ → List ℕ → List ℕ
  noted st (node k) i labels = paste labels (label_bytes * i) (H (pieces (kids k st))) label_bytes
  noted st (tip t v) i labels = labels

  -- the stack after the entry
  abbrev pub grown : Held → Entry → Held
  grown s e = record { tags = after s.tags e; blocks = s.blocks + cost s.tags e }

-- The entry meets no refusal on the stack, and there is room for what it makes.
pub record GrowFits (nodes area : ℕ) (s : Held) (e : Entry) (i : ℕ) (labels : List ℕ) : Type 0 where
  pub sound : Sound s.tags e
  pub room : length s.tags < nodes
  pub work_room : length (pieces (after Sha256.label s.tags e)) ≤ area
  pub labels_room : label_bytes * i + label_bytes ≤ length labels
  pub counted : s.blocks < 2 ^ 40

-- That, where fewer than 2^10 wait and the area is no longer than a text that a label is made of.
pub record GrowAsks (nodes area : ℕ) (s : Held) (e : Entry) (i : ℕ) (labels : List ℕ) : Type 0 where
  pub fits : GrowFits nodes area s e i labels
  pub few : length s.tags < 2 ^ 10
  pub small : area < 2 ^ 61

-- a root that waits alone has a whole label
abbrev pub RootWhole : List Tag → Type 0
RootWhole [] = Unit {0}
RootWhole (g ∷ []) = g.kind ≡ 0 → length g.text ≡ label_bytes
RootWhole (g ∷ (h ∷ gs)) = Unit {0}

-- the label of a root of type 0 that waits alone
abbrev pub root_of : List Tag → Option (List ℕ)
root_of [] = None
root_of (g ∷ []) = cond (eqb g.kind 0) (Some g.text) None
root_of (g ∷ (h ∷ gs)) = None
