-- The rules that document 01 sets for a tree: its limits, the salt rule, and what a well-formed tree is.
use Rattle.std.specs.Prelude.{◌≡◌, Bool, true, not, ◌&&◌, ◌||◌, List, [], ◌∷◌, ℕ, zero, suc, ◌≤◌, leb, eqb, length, replicate}
use Rattle.lists.specs.Lists.{all}
use Rattle.trees.specs.Nodes.{Node, Run, inner, leaf, nil, cons, type_of, height, Head, heads}

-- "A node has a type from 0 to 1,023."
abbrev pub max_type : ℕ
max_type = 1023

-- "type and value, 0 to 511 bytes"
abbrev pub max_value : ℕ
max_value = 511

-- "1 to 32 children"
abbrev pub max_children : ℕ
max_children = 32

-- "at most 16"
abbrev pub max_height : ℕ
max_height = 16

-- "its label is 32 bytes"
abbrev pub label_bytes : ℕ
label_bytes = 32

-- "label all zero"
abbrev pub no_label : List ℕ
no_label = replicate label_bytes 0

-- "Type 1 is a salt"
abbrev pub salt_type : ℕ
salt_type = 1

-- "32 bytes long"
abbrev pub salt_bytes : ℕ
salt_bytes = 32

-- "types 2 to 511 are text": the first of them
abbrev pub first_text : ℕ
first_text = 2

-- "types 2 to 511 are text": the last of them
abbrev pub last_text : ℕ
last_text = 511

-- "Node count, 10 bits, 1 to 1,023."
abbrev pub max_nodes : ℕ
max_nodes = 1023

-- "A slip has at most 32,768 bytes."
abbrev pub max_bytes : ℕ
max_bytes = 32768

-- a child of type 1
abbrev pub is_salt : Head → Bool
is_salt h = eqb h.kind salt_type

-- "A child of type 1 must be the first child": none after the first is one
abbrev pub salt_first : List Head → Bool
salt_first [] = true
salt_first (h ∷ hs) = all (λ x. not (is_salt x)) hs

-- "A child of type 1 must be .. 32 bytes long."
abbrev pub salt_long : List Head → Bool
salt_long hs = all (λ x. not (is_salt x) || eqb (length x.text) salt_bytes) hs

-- "A node with a child of type 2 or above must have a salt as its first child."
abbrev pub salt_there : List Head → Bool
salt_there [] = true
salt_there (h ∷ hs) = all (λ x. leb x.kind salt_type) (h ∷ hs) || is_salt h

-- the salt rule of a node, on its children's types and labels
abbrev pub salted : List Head → Bool
salted hs = salt_first hs && salt_long hs && salt_there hs

-- "1 to 32 children"
abbrev pub count_fits : ℕ → Bool
count_fits k = leb 1 k && leb k max_children

-- "A leaf of type 0 is dangling .. and its label is 32 bytes"; of another type, "type 1 to 1,023 .. and length 0 to 511"
abbrev pub leaf_fits : ℕ → List ℕ → Bool
leaf_fits zero v = eqb (length v) label_bytes
leaf_fits (suc t) v = leb (suc t) max_type && leb (length v) max_value

-- what document 01 asks of an internal node, but for its height
pub record NodeRules (hs : List Head) : Type 0 where
  pub children : count_fits (length hs) ≡ true
  pub salt : salted hs ≡ true

module _ (H : List ℕ → List ℕ) where
  -- P holds of the children's heads at every internal node, and Q of every leaf's type and label
  abbrev mutual
    pub All : (List Head → Type 0) → (ℕ → List ℕ → Type 0) → Node → Type 0
    All P Q (inner r) = P (heads H r) × AllIn P Q r
    All P Q (leaf t v) = Q t v

    -- and in every child of a run
    pub AllIn : (List Head → Type 0) → (ℕ → List ℕ → Type 0) → Run → Type 0
    AllIn P Q nil = Unit {0}
    AllIn P Q (cons n r) = All P Q n × AllIn P Q r

module _ (composed : List ℕ → Bool) where
  -- "types 2 to 511 are text"; "A text value in a slip must already be composed"
  abbrev pub text_fits : ℕ → List ℕ → Bool
  text_fits t v = not (leb first_text t && leb t last_text) || composed v

  -- what document 01 asks of a leaf
  pub record LeafRules (t : ℕ) (v : List ℕ) : Type 0 where
    pub form : leaf_fits t v ≡ true
    pub words : text_fits t v ≡ true

module _ (H : List ℕ → List ℕ) (composed : List ℕ → Bool) where
  -- a tree, or a part of one, that keeps every rule
  pub record Fit (n : Node) : Type 0 where
    pub low : height n ≤ max_height
    pub rules : All H NodeRules (LeafRules composed) n

  -- "The type of the root node is d" (000, 5.2.1), which is 0.
  pub record WellFormed (n : Node) : Type 0 where
    pub root : type_of n ≡ 0
    pub fit : Fit n
