-- A stack in the areas: its last nodes, those below them, and one node more.
use Prim.Native.Nat.{ℕ, ◌+◌, ◌-◌, ◌*◌, ◌≤◌, ◌<◌}
use mathlib.Core.Path.{◌≡◌, refl, sym, ap, ap₂, subst, ◌∙◌}
use mathlib.Core.List.{List, [], ◌∷◌, ◌++◌, map, map-append, append-nil, append_assoc}
use native.Mathlib.Omega.{arith}
use lib.ListN.{length, take, drop, set, length-append, length-drop, length-take}
use Rattle.std.proofs.Common.{take-append-drop}
use lib.Seq.{take_at, drop_at, length-take-le}
use Rattle.lists.specs.PartsLaws.{map_take, filled, front, tail_part}
use Rattle.trees.specs.Nodes.{head_bytes, piece}
use Rattle.trees.specs.Rows.{Tag, head_of, highest_of, kids, below}
use Rattle.tables.specs.Tables.{sum}
use Rattle.faults.specs.Waiting.{kind_of, height_of, size_of, greatest}
use Rattle.faults.specs.WaitingLaws.{kids_column, greatest_is}
use Rattle.stack.specs.Areas.{pieces, Laid, tags_in, held, Stacked, stacked, Waits}
use Rattle.stack.specs.PieceLaws.{pieces_append, pieces_split, length_split, length_pieces}

-- The last k nodes of a stack in the areas.
module _ {st : List Tag} {d top : ℕ} {kinds heights sizes work : List ℕ} (l : Laid st d top kinds heights sizes work) (k : ℕ) (h : k ≤ d) where
  kids_long : length (kids k st) ≡ k
  kids_long = omega (arith, length-drop (length st - k) st, l.deep)

  pub kids_highest : {w : List ℕ} → w ≡ map height_of st → greatest (take (length w - (d - k)) (drop (d - k) w)) ≡ highest_of (kids k st)
  kids_highest e = ap greatest (kids_column st k height_of d l.deep e) ∙ greatest_is (kids k st)

  -- the bytes of their pieces
  pub kids_bytes : {w : List ℕ} → w ≡ map size_of st → sum (take (length w - (d - k)) (drop (d - k) w)) + head_bytes * k ≡ length (pieces (kids k st))
  kids_bytes e =
      ap (λ (c : List ℕ). sum c + head_bytes * k) (kids_column st k size_of d l.deep e)
      ∙ ap (λ (n : ℕ). sum (map size_of (kids k st)) + head_bytes * n) (sym kids_long)
      ∙ sym (length_pieces (kids k st))

  pub kids_both : length (pieces (below k st)) + length (pieces (kids k st)) ≡ top
  kids_both = sym (length_split k st) ∙ l.full

  pub kids_fit : length (pieces (kids k st)) ≤ top
  kids_fit = omega (arith, kids_both)

  -- their prelabel is the pieces' end
  pub kids_prelabel : (long : ℕ) → long ≡ length (pieces (kids k st)) → take (length (take top work) - (top - long)) (drop (top - long) (take top work)) ≡ pieces (kids k st)
  kids_prelabel long e =
      let at : length (pieces (below k st)) ≡ top - long = omega (arith, kids_both) in
      tail_part (take top work) (top - long)
      ∙ ap (drop (top - long)) (l.work_is ∙ pieces_split k st)
      ∙ drop_at (pieces (below k st)) (pieces (kids k st)) (top - long) at

  -- those below them lie in the areas too
  pub laid_below : (long : ℕ) → long ≡ length (pieces (kids k st)) → Laid (below k st) (d - k) (top - long) kinds heights sizes work
  laid_below long e =
      let le : d - k ≤ d = omega arith in
      let n : length st - k ≡ d - k = ap (λ (m : ℕ). m - k) l.deep in
      let at : length (pieces (below k st)) ≡ top - long = omega (arith, kids_both) in
      let col : (f : Tag → ℕ) (w : List ℕ) → take d w ≡ map f st → take (d - k) w ≡ map f (below k st) =
      λ f w q. front w (d - k) d le q ∙ map_take f (d - k) st ∙ ap (λ m. map f (take m st)) (sym n) in
      record {
        deep = length-take-le (length st - k) st (omega arith) ∙ n;
        columns =
            record {
              kinds_are = col kind_of kinds l.columns.kinds_are;
              heights_are = col height_of heights l.columns.heights_are;
              sizes_are = col size_of sizes l.columns.sizes_are;
            };
        work_is =
            front work (top - long) top (omega arith) l.work_is
            ∙ ap (take (top - long)) (pieces_split k st)
            ∙ take_at (pieces (below k st)) (pieces (kids k st)) (top - long) at;
        full = at;
      }

-- The areas hold one node more, where its piece stands behind the others.
pub laid_push :
    {st : List Tag} {d top : ℕ} {kinds heights sizes work work' : List ℕ} {end : ℕ} (g : Tag)
    → Laid st d top kinds heights sizes work
    → d < length kinds
    → d < length heights
    → d < length sizes
    → end ≡ top + head_bytes + length g.text
    → take (top + head_bytes + length g.text) work' ≡ take top work ++ piece (head_of g)
    → Laid (st ++ (g ∷ [])) (d + 1) end (set kinds d g.kind) (set heights d g.height) (set sizes d (length g.text)) work'
laid_push {st} {d} {top} {kinds} {heights} {sizes} {work} {work'} g l hk hh hs q e =
    let col : (f : Tag → ℕ) (w : List ℕ) → d < length w → take d w ≡ map f st → take (d + 1) (set w d (f g)) ≡ map f (st ++ (g ∷ [])) =
    λ f w h z. filled w d (d + 1) (f g) h (omega arith) z ∙ sym (map-append f st (g ∷ [])) in
    let more : pieces (st ++ (g ∷ [])) ≡ pieces st ++ piece (head_of g) =
    pieces_append st (g ∷ []) ∙ ap (λ (p : List ℕ). pieces st ++ p) (append-nil (piece (head_of g))) in
    record {
      deep = length-append st (g ∷ []) ∙ ap (λ (n : ℕ). n + 1) l.deep;
      columns =
          record {
            kinds_are = col kind_of kinds hk l.columns.kinds_are;
            heights_are = col height_of heights hh l.columns.heights_are;
            sizes_are = col size_of sizes hs l.columns.sizes_are;
          };
      work_is = ap (λ (n : ℕ). take n work') q ∙ e ∙ ap (λ (p : List ℕ). p ++ piece (head_of g)) l.work_is ∙ sym more;
      full = ap length more ∙ omega (arith, q, length-append (pieces st) (piece (head_of g)), l.full);
    }

-- The nodes are read back from the columns and the area.
tags_of : (st : List Tag) (more : List ℕ) → tags_in (map kind_of st) (map height_of st) (map size_of st) (pieces st ++ more) ≡ st
unfolding tags_in
tags_of [] more = refl
tags_of (g ∷ st) more =
    let w : (g.text ++ pieces st) ++ more ≡ g.text ++ (pieces st ++ more) = append_assoc g.text (pieces st) more in
    let text : take (length g.text) ((g.text ++ pieces st) ++ more) ≡ g.text =
    ap (take (length g.text)) w ∙ take_at g.text (pieces st ++ more) (length g.text) refl in
    let rest : drop (length g.text) ((g.text ++ pieces st) ++ more) ≡ pieces st ++ more =
    ap (drop (length g.text)) w ∙ drop_at g.text (pieces st ++ more) (length g.text) refl in
    ap₂ (λ (x : List ℕ) (l : List ℕ). record { kind = g.kind; height = g.height; text = x } ∷ tags_in (map kind_of st) (map height_of st) (map size_of st) l) text rest
    ∙ ap (λ (gs : List Tag). g ∷ gs) (tags_of st more)

module _ {st : List Tag} {d top : ℕ} {kinds heights sizes work : List ℕ} (l : Laid st d top kinds heights sizes work) where
  laid_tags : tags_in (take d kinds) (take d heights) (take d sizes) work ≡ st
  laid_tags =
      rw (l.columns.kinds_are, l.columns.heights_are, l.columns.sizes_are)
      (ap (tags_in (map kind_of st) (map height_of st) (map size_of st)) (sym (take-append-drop top work) ∙ ap (λ (w : List ℕ). w ++ drop top work) l.work_is)
      ∙ tags_of st (drop top work))

  -- so a stack that lies in the areas is what they hold
  pub held_is : (b : ℕ) → held d b kinds heights sizes work ≡ record { tags = st; blocks = b }
  held_is b = ap (λ (gs : List Tag). record { tags = gs; blocks = b }) laid_tags

  pub waits : Waits d top kinds heights sizes work
  waits = record { laid = subst (λ (gs : List Tag). Laid gs d top kinds heights sizes work) (sym laid_tags) l }

-- none waits
pub none_laid : (kinds heights sizes work : List ℕ) → Laid [] 0 0 kinds heights sizes work
none_laid kinds heights sizes work =
    record { deep = refl; columns = record { kinds_are = refl; heights_are = refl; sizes_are = refl }; work_is = refl; full = refl }

-- the nodes that a stack's callers see lie in its areas
pub tags_of_held : {d b top : ℕ} {kinds heights sizes work : List ℕ} {s : Stacked} → stacked d top b kinds heights sizes work ≡ s
    → Waits d top kinds heights sizes work → Laid s.held.tags d top kinds heights sizes work
tags_of_held {d = d} {top = top} {kinds} {heights} {sizes} {work} e w = subst (λ (x : Stacked). Laid x.held.tags d top kinds heights sizes work) e w.laid

-- the pieces lie in the area
pub top_in : {st : List Tag} {d top : ℕ} {kinds heights sizes work : List ℕ} → Laid st d top kinds heights sizes work → top ≤ length work
top_in {top = top} {work = work} l = omega (arith, ap length l.work_is, l.full, length-take top work)
