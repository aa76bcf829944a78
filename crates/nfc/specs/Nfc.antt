-- Normalization Form C as the Unicode Standard defines it (chapter 3, sections 3.6, 3.7 and 3.11), for texts of the repertoire.
-- It is made from Unicode's data alone and knows nothing of the composer, nor of its table of pairs.
use Rattle.std.specs.Prelude.{ℕ, Bool, false, cond, not, ◌&&◌, ◌||◌, List, [], ◌∷◌, ◌++◌, ltb, leb, eqb}
use Rattle.nfc.specs.Pairs.{Pair, pair, found}
use Rattle.nfc.specs.Decompositions.{Class, class, decompositions, classes}

-- D104: Canonical_Combining_Class; 0 for all that the data does not list
unfoldable pub class_in : List Class → ℕ → ℕ
class_in [] c = 0
class_in (class character number ∷ ks) c = cond (eqb character c) number (class_in ks c)

unfoldable pub class_of : ℕ → ℕ
class_of c = class_in classes c

-- D68: a character's canonical decomposition; in the repertoire no part decomposes further
unfoldable pub parts : List Pair → ℕ → List ℕ
parts [] c = c ∷ []
parts (pair letter mark whole ∷ ps) c = cond (eqb whole c) (letter ∷ mark ∷ []) (parts ps c)

unfoldable pub decomposed : List ℕ → List ℕ
decomposed [] = []
decomposed (c ∷ cs) = parts decompositions c ++ decomposed cs

-- D108: a pair with ccc(A) > ccc(B) > 0
unfoldable pub reorderable : ℕ → ℕ → Bool
reorderable a b = ltb (class_of b) (class_of a) && ltb 0 (class_of b)

-- D109, the Canonical Ordering Algorithm: reorderable pairs are exchanged until there are none
unfoldable pub moved : ℕ → List ℕ → List ℕ
moved a [] = a ∷ []
moved a (b ∷ xs) = cond (reorderable a b) (b ∷ moved a xs) (a ∷ b ∷ xs)

unfoldable pub ordered : List ℕ → List ℕ
ordered [] = []
ordered (a ∷ xs) = moved a (ordered xs)

-- D115: C is blocked by what stands between, where some B there has ccc(B) = 0 or ccc(B) ≥ ccc(C)
unfoldable pub blocked : List ℕ → ℕ → Bool
blocked [] c = false
blocked (b ∷ bs) c = eqb (class_of b) 0 || (leb (class_of c) (class_of b) || blocked bs c)

-- D114: the primary composite of two characters, or 0; of the decompositions of Latin letters none is excluded
unfoldable pub composite : ℕ → ℕ → ℕ
composite l c = found decompositions l c

-- D117, the Canonical Composition Algorithm: l is the last starter and k what has stayed after it
unfoldable pub composing : ℕ → List ℕ → List ℕ → List ℕ
composing l k [] = l ∷ k
composing l k (c ∷ cs) =
    cond (not (blocked k c) && not (eqb (composite l c) 0)) (composing (composite l c) k cs)
    (cond (eqb (class_of c) 0) (l ∷ (k ++ composing c [] cs)) (composing l (k ++ (c ∷ [])) cs))

-- what stands before the first starter stays
unfoldable pub composed_from : List ℕ → List ℕ
composed_from [] = []
composed_from (c ∷ cs) = cond (eqb (class_of c) 0) (composing c [] cs) (c ∷ composed_from cs)

-- D120: decomposed, put in canonical order, composed
unfoldable pub nfc : List ℕ → List ℕ
nfc cs = composed_from (ordered (decomposed cs))
