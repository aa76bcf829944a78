-- The running digest: what it holds, and that a text may be cut into parts anywhere.
use Rattle.std.specs.Prelude.{ℕ, ◌+◌, ◌*◌, ◌<◌, List, [], ◌∷◌, ◌++◌, ◌≡◌, length, take, drop}
use Rattle.std.proofs.Common.{append_assoc, append-nil, sym, subst}
use Rattle.words.specs.Kind.{Kind, size}
use Rattle.compression.specs.Compression.{chain}
use Rattle.words.specs.Sha256.{sha256}
use Rattle.sha256.specs.Sha256.{label}
use Rattle.sha256.specs.declared.digest.Digest.{Digest}

-- A hash value h, a tail and a length hold the text t: h is the hash value after t's whole blocks, and the tail begins with
-- what is left of t.
pub record Held (s : Kind) (h tail : List ℕ) (len : ℕ) (t : List ℕ) : Type 0 where
  pub whole : ℕ
  pub rest : ℕ
  pub few : rest < size s
  pub cut : length t ≡ size s * whole + rest
  pub room : length tail ≡ size s
  pub long : len ≡ length t
  pub so_far : h ≡ chain s s.start whole t
  pub left : take rest tail ≡ drop (size s * whole) t

abbrev pub Holds : Digest → List ℕ → Type 0
Holds d t = Held sha256 d.state d.tail d.len t

-- whatever text d holds, e holds that text and the part
abbrev pub Grows : Digest → List ℕ → Digest → Type 0
Grows d part e = (t : List ℕ) → Holds d t → Holds e (t ++ part)

-- whatever text d holds, r is its SHA-256
abbrev pub Ends : Digest → List ℕ → Type 0
Ends d r = (t : List ℕ) → Holds d t → r ≡ label t

-- e is d after the parts of a list, one after the other
pub data Takes : Digest → List (List ℕ) → Digest → Type 0 where
  none : {d : Digest} → Takes d [] d
  more : {d e f : Digest} {part : List ℕ} {parts : List (List ℕ)} → Grows d part e → Takes e parts f → Takes d (part ∷ parts) f

-- the parts end to end
abbrev pub whole : List (List ℕ) → List ℕ
whole [] = []
whole (part ∷ parts) = part ++ whole parts

held_all : {d e : Digest} (t : List ℕ) (parts : List (List ℕ)) → Holds d t → Takes d parts e → Holds e (t ++ whole parts)
held_all {d} t [] h none = subst (λ (l : List ℕ). Holds d l) (sym (append-nil t)) h
held_all {e = e} t (part ∷ parts) h (more g r) =
    subst (λ (l : List ℕ). Holds e l) (append_assoc t part (whole parts)) (held_all (t ++ part) parts (g t h) r)

-- document 01: "cutting the prelabel elsewhere gives the same label". However a text is cut into parts, a new digest that
-- takes them in turn ends with the SHA-256 of the whole.
pub cut_anywhere :
    {new e : Digest} {label-given : List ℕ} (parts : List (List ℕ))
    → Holds new []
    → Takes new parts e
    → Ends e label-given
    → label-given ≡ label (whole parts)
cut_anywhere parts h r end = end (whole parts) (held_all [] parts h r)
