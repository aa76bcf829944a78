-- The second table, one row more.
use Prim.Native.Nat.{ℕ, zero, suc, ◌+◌, ◌<◌}
use mathlib.Core.Bool.{true}
use mathlib.Core.Path.{◌≡◌, refl, sym, ap, ap₂, ◌∙◌}
use mathlib.Core.List.{List, [], ◌∷◌, ◌++◌, append-nil}
use native.Mathlib.Omega.{arith}
use lib.ListN.{length, take, set, length-set}
use lib.Seq.{take_all, take-length, length-take-le, paste, length-paste, take-paste}
use Rattle.trees.specs.Rules.{label_bytes}
use Rattle.trees.specs.Rows.{Entry}
use Rattle.tables.specs.Tables.{entry_of, entries, row_fits, first_bad, sum}
use Rattle.lists.specs.PartsLaws.{one_more}
use Rattle.tables.specs.TablesLaws.{sum_append}
use Rattle.prune_rows.specs.TableLaws.{entries_append, formed_more}
use Rattle.prune_rows.specs.Marks.{gone, kept, cut_off}
use Rattle.prune_rows.specs.Clauses.{Written}
use Rattle.prune_rows.specs.Steps.{PutAsks, Adds, PutGives, TurnGives}

-- no row yet
pub written_none : (ts cs ls vs : List ℕ) → Written 0 0 ts cs ls vs []
unfolding first_bad sum
written_none ts cs ls vs =
    record {
      types_room = omega arith;
      counts_room = omega arith;
      lengths_room = omega arith;
      values_room = omega arith;
      formed = refl;
      sized = refl;
      are = refl;
    }

sum_one : (l : ℕ) → sum (l ∷ []) ≡ l
unfolding sum
sum_one l = omega arith

module _ (t c l rows used : ℕ) (part ts cs ls vs last : List ℕ) (p : PutAsks t c l rows used part ts cs ls vs) (put : last ≡ paste vs used part (length part)) where
  bytes : take (used + l) last ≡ take used vs ++ part
  bytes =
      ap₂ take (ap (λ (k : ℕ). used + k) (sym p.long)) put
      ∙ take-paste vs used part (length part) (omega (arith, p.values_room)) (omega arith)
      ∙ ap (λ (x : List ℕ). take used vs ++ x) (take-length part)

  pub written_more : Adds rows used ts cs ls vs (entry_of t c part ∷ []) (rows + 1) (used + l) (set ts rows t) (set cs rows c) (set ls rows l) last
  written_more es w =
      let types_are : take (rows + 1) (set ts rows t) ≡ take rows ts ++ (t ∷ []) = one_more ts rows t p.types_room in
      let counts_are : take (rows + 1) (set cs rows c) ≡ take rows cs ++ (c ∷ []) = one_more cs rows c p.counts_room in
      let lengths_are : take (rows + 1) (set ls rows l) ≡ take rows ls ++ (l ∷ []) = one_more ls rows l p.lengths_room in
      let types_long : length (take rows ts) ≡ rows = length-take-le rows ts w.types_room in
      let counts_long : length (take rows cs) ≡ length (take rows ts) = length-take-le rows cs w.counts_room ∙ sym types_long in
      let lengths_long : length (take rows ls) ≡ length (take rows ts) = length-take-le rows ls w.lengths_room ∙ sym types_long in
      let area_long : length (take used vs) ≡ sum (take rows ls) = length-take-le used vs w.values_room ∙ w.sized in
      record {
        types_room = omega (arith, length-set ts rows t, p.types_room);
        counts_room = omega (arith, length-set cs rows c, p.counts_room);
        lengths_room = omega (arith, length-set ls rows l, p.lengths_room);
        values_room = omega (arith, p.values_room, p.long, ap length put, length-paste vs used part (length part) (omega (arith, p.values_room, p.long)) (omega arith));
        formed =
            (λ i. first_bad 0 (types_are i) (counts_are i) (lengths_are i))
            ∙ formed_more (take rows ts) (take rows cs) (take rows ls) 0 t c l counts_long lengths_long (w.formed ∙ omega arith) p.fits
            ∙ omega arith;
        sized = omega (arith, w.sized, ap sum lengths_are, sum_append (take rows ls) (l ∷ []), sum_one l);
        are =
            (λ i. entries (types_are i) (counts_are i) (lengths_are i) (bytes i))
            ∙ entries_append (take rows ts) (take rows cs) (take rows ls) (take used vs) (t ∷ []) (c ∷ []) (l ∷ []) part counts_long lengths_long area_long
            ∙ ap₂ (λ (x : List Entry) (y : List ℕ). x ++ (entry_of t c y ∷ [])) w.are (take_all l part (omega (arith, p.long)));
      }

-- one row of the first table
module _ (l rows used : ℕ) (label ts cs ls vs : List ℕ) where
  -- that is gone
  pub turn_gone : (e : Entry) → TurnGives gone l e label rows used ts cs ls vs rows used ts cs ls vs
  turn_gone e =
      record {
        row = omega arith;
        bytes = omega arith;
        adds = λ es w. rw append-nil w;
      }

  module _ (rows' used' : ℕ) (ts' cs' ls' vs' : List ℕ) where
    -- that is kept
    pub turn_kept : (e : Entry)
        → PutGives e l rows used ts cs ls vs rows' used' ts' cs' ls' vs'
        → TurnGives kept l e label rows used ts cs ls vs rows' used' ts' cs' ls' vs'
    turn_kept e a =
        record {
          row = omega (arith, a.row);
          bytes = omega (arith, a.bytes);
          adds = a.adds;
        }

    -- that is cut off
    pub turn_cut : (t c : ℕ) (v : List ℕ) → 0 < c
        → PutGives (entry_of 0 0 label) label_bytes rows used ts cs ls vs rows' used' ts' cs' ls' vs'
        → TurnGives cut_off l (entry_of t c v) label rows used ts cs ls vs rows' used' ts' cs' ls' vs'
    turn_cut t zero v h a = absurd (omega arith)
    turn_cut t (suc c) v h a =
        record {
          row = omega (arith, a.row);
          bytes = omega (arith, a.bytes);
          adds = a.adds;
        }

-- "a dangling row has type 0, count 0 and length 32"
pub dangling_fits : row_fits 0 0 label_bytes ≡ true
unfolding row_fits
dangling_fits = refl
