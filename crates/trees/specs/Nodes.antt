-- The typed hash tree of document 000, section 5.2.1, with document 01's bytes, over any label function H.
use Rattle.std.specs.Prelude.{List, [], ◌∷◌, ◌++◌, ℕ, suc, ◌+◌, ◌/◌, ◌%◌, max, length}

-- "An internal node has type 0 and 1 to 32 children. A leaf of type 0 is dangling .. A leaf of another type is a pair: type and value."
-- `inner r` is an internal node with the children r; `leaf 0 l` is dangling with the label l; any other `leaf t v` is the pair of t and v.
mutual
  pub data Node : Type 0 where
    inner : Run → Node
    leaf : ℕ → List ℕ → Node

  -- the children of a node, in order: "its run of children"
  pub data Run : Type 0 where
    nil : Run
    cons : Node → Run → Run

-- "Type 0 is the distinguished type of document 000": every internal node has it.
abbrev pub type_of : Node → ℕ
type_of (inner r) = 0
type_of (leaf t v) = t

-- how many children a run has
abbrev pub count : Run → ℕ
count nil = 0
count (cons n r) = suc (count r)

-- how many nodes a tree has, one entry each
abbrev mutual
  pub size : Node → ℕ
  size (inner r) = sizes r + 1
  size (leaf t v) = 1

  -- of a run: the sum over the children
  pub sizes : Run → ℕ
  sizes nil = 0
  sizes (cons n r) = size n + sizes r

-- "The height of a leaf is 1, of an internal node one more than its highest child."
abbrev mutual
  pub height : Node → ℕ
  height (inner r) = highest r + 1
  height (leaf t v) = 1

  -- of a run: the highest child
  pub highest : Run → ℕ
  highest nil = 0
  highest (cons n r) = max (height n) (highest r)

-- what a parent hashes of a child: document 000's pair of type and label
pub record Head : Type 0 where
  pub kind : ℕ
  pub text : List ℕ

-- "type in two bytes, label length in two bytes": what a piece has before its label
abbrev pub head_bytes : ℕ
head_bytes = 4

-- "for each child in order: type in two bytes, label length in two bytes, most significant first, then the label"
abbrev pub piece : Head → List ℕ
piece h = h.kind / 256 ∷ h.kind % 256 ∷ length h.text / 256 ∷ length h.text % 256 ∷ h.text

-- "The prelabel of an internal node joins" the pieces of its children: document 000's function f.
abbrev pub prelabel : List Head → List ℕ
prelabel [] = []
prelabel (h ∷ hs) = piece h ++ prelabel hs

-- "A prelabel of n bytes takes floor((n + 72) / 64) blocks."
abbrev pub blocks_of : ℕ → ℕ
blocks_of n = (n + 72) / 64

module _ (H : List ℕ → List ℕ) where
  -- "Its label is the SHA-256 of its prelabel", here H of it; a pair's "value is its label"; a dangling node's label is "the label it carries".
  abbrev mutual
    pub label : Node → List ℕ
    label (inner r) = H (prelabel (heads r))
    label (leaf t l) = l

    -- "the sequence of type-label pairs of the children" (000, 5.2.1)
    pub heads : Run → List Head
    heads nil = []
    heads (cons n r) = record { kind = type_of n; text = label n } ∷ heads r

  -- "the blocks compressed, the sum of this over the internal nodes present"
  abbrev mutual
    pub blocks : Node → ℕ
    blocks (inner r) = blocks_in r + blocks_of (length (prelabel (heads r)))
    blocks (leaf t l) = 0

    -- of a run: the sum over the children
    pub blocks_in : Run → ℕ
    blocks_in nil = 0
    blocks_in (cons n r) = blocks n + blocks_in r
