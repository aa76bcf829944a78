-- The pieces of the nodes that wait, end to end.
use Rattle.std.specs.Prelude.{ℕ, ◌+◌, ◌-◌, ◌*◌, ◌≡◌, refl, List, [], ◌∷◌, ◌++◌, map, length}
use Rattle.std.proofs.Common.{sym, ap, ◌∙◌, append_assoc, append-nil, arith, length-append, take-append-drop}
use Rattle.std.proofs.lemmas.List.{map-append}
use Rattle.trees.specs.Nodes.{Head, head_bytes, piece, prelabel}
use Rattle.trees.specs.Rows.{Tag, head_of, kids, below}
use Rattle.tables.specs.Tables.{sum}
use Rattle.faults.specs.Waiting.{size_of}
use Rattle.stack.specs.Areas.{pieces}

prelabel_append : (hs ks : List Head) → prelabel (hs ++ ks) ≡ prelabel hs ++ prelabel ks
prelabel_append [] ks = refl
prelabel_append (h ∷ hs) ks =
    ap (λ (l : List ℕ). piece h ++ l) (prelabel_append hs ks) ∙ sym (append_assoc (piece h) (prelabel hs) (prelabel ks))

pub pieces_append : (gs hs : List Tag) → pieces (gs ++ hs) ≡ pieces gs ++ pieces hs
pieces_append gs hs = ap prelabel (map-append head_of gs hs) ∙ prelabel_append (map head_of gs) (map head_of hs)

-- the pieces of those below the last k, and of the last k
pub pieces_split : (k : ℕ) (st : List Tag) → pieces st ≡ pieces (below k st) ++ pieces (kids k st)
pieces_split k st = ap pieces (sym (take-append-drop (length st - k) st)) ∙ pieces_append (below k st) (kids k st)

pub length_split : (k : ℕ) (st : List Tag) → length (pieces st) ≡ length (pieces (below k st)) + length (pieces (kids k st))
length_split k st = ap length (pieces_split k st) ∙ length-append (pieces (below k st)) (pieces (kids k st))

-- the pieces after one node more
pub length_more : (st : List Tag) (g : Tag) → length (pieces (st ++ (g ∷ []))) ≡ length (pieces st) + head_bytes + length g.text
length_more st g =
    ap length (pieces_append st (g ∷ []))
    ∙ length-append (pieces st) (pieces (g ∷ []))
    ∙ ap (λ (p : List ℕ). length (pieces st) + length p) (append-nil (piece (head_of g)))
    ∙ omega arith

-- a head and the label, for each
pub length_pieces : (gs : List Tag) → length (pieces gs) ≡ sum (map size_of gs) + head_bytes * length gs
unfolding sum
length_pieces [] = refl
length_pieces (g ∷ gs) = omega (arith, length-append (piece (head_of g)) (pieces gs), length_pieces gs)
