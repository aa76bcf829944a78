-- A tree has a node; the prelabel is injective, as document 000 asks of its function f.
use Rattle.std.specs.Prelude.{◌≡◌, refl, List, [], ◌∷◌, ◌++◌, ℕ, ◌/◌, ◌%◌, ◌<◌, length}
use Rattle.std.proofs.Common.{sym, arith}
use Rattle.lists.specs.ListsLaws.{append_cancel, nil_cons}
use Rattle.trees.specs.Nodes.{Node, inner, leaf, size, Head, piece, prelabel}

pub some_size : (n : Node) → 0 < size n
some_size (inner r) = omega arith
some_size (leaf t v) = omega arith

-- a number is known by its two bytes, of which the first may be any
number_eq : (a b : ℕ) → a / 256 ≡ b / 256 → a % 256 ≡ b % 256 → a ≡ b
number_eq a b d m = omega arith

-- a piece tells where it ends
pub piece_inj : (h k : Head) (x y : List ℕ) → piece h ++ x ≡ piece k ++ y → (h ≡ k) × (x ≡ y)
piece_inj h k x y e =
    let kinds : h.kind ≡ k.kind = number_eq h.kind k.kind (cc) (cc) in
    let long : length h.text ≡ length k.text = number_eq (length h.text) (length k.text) (cc) (cc) in
    let rest : h.text ++ x ≡ k.text ++ y = cc in
    let ends : (h.text ≡ k.text) × (x ≡ y) = append_cancel h.text k.text x y long rest in
    (λ i. record { kind = kinds i; text = ends.0 i }, ends.1)

-- "f is an injective function that maps sequences of pairs (t, l) .. to elements of the domain of h" (000, 5.2.1)
pub prelabel_inj : (hs ks : List Head) → prelabel hs ≡ prelabel ks → hs ≡ ks
prelabel_inj [] [] e = refl
prelabel_inj [] (k ∷ ks) e = absurd (nil_cons e)
prelabel_inj (h ∷ hs) [] e = absurd (nil_cons (sym e))
prelabel_inj (h ∷ hs) (k ∷ ks) e =
    let p : (h ≡ k) × (prelabel hs ≡ prelabel ks) = piece_inj h k (prelabel hs) (prelabel ks) e in
    λ i. p.0 i ∷ prelabel_inj hs ks p.1 i
