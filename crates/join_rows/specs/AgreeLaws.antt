-- Heads agree exactly where the prelabels are equal.
use Rattle.std.specs.Prelude.{◌≡◌, refl, Bool, true, false, List, [], ◌∷◌, eqb, length}
use Rattle.std.proofs.Common.{sym, ap, ◌∙◌, true≢false, arith, eqb-true, eq-eqb}
use Rattle.lists.specs.Lists.{same, backwards}
use Rattle.lists.specs.ListsLaws.{same_true, same_false, same_refl, backwards_inj, length_backwards}
use Rattle.lists.specs.TestsLaws.{and_left, and_right, and_both}
use Rattle.trees.specs.Nodes.{Head, prelabel}
use Rattle.trees.proofs.NodesLaws.{prelabel_inj}
use Rattle.columns.specs.Columns.{same_head, heads_agree}

-- heads that agree are equal, and back
agree_true : (xs ys : List Head) → length xs ≡ length ys → heads_agree xs ys ≡ true → xs ≡ ys
unfolding heads_agree
agree_true [] [] l e = refl
agree_true [] (y ∷ ys) l e = absurd (omega arith)
agree_true (x ∷ xs) [] l e = absurd (omega arith)
agree_true (x ∷ xs) (y ∷ ys) l e =
    let h : same_head x y ≡ true = and_left (same_head x y) (heads_agree xs ys) e in
    let kinds : x.kind ≡ y.kind = eqb-true x.kind y.kind (and_left (eqb x.kind y.kind) (same x.text y.text) h) in
    let texts : x.text ≡ y.text = same_true x.text y.text (and_right (eqb x.kind y.kind) (same x.text y.text) h) in
    let rest : xs ≡ ys = agree_true xs ys (omega arith) (and_right (same_head x y) (heads_agree xs ys) e) in
    λ i. record { kind = kinds i; text = texts i } ∷ rest i

agree_refl : (xs : List Head) → heads_agree xs xs ≡ true
unfolding heads_agree
agree_refl [] = refl
agree_refl (x ∷ xs) =
    and_both (same_head x x) (heads_agree xs xs)
    (and_both (eqb x.kind x.kind) (same x.text x.text) (eq-eqb x.kind x.kind refl) (same_refl x.text))
    (agree_refl xs)

-- heads agree exactly where the prelabels are equal: the prelabel is injective
pub agree_same : (hs ks : List Head) → length hs ≡ length ks → heads_agree (backwards hs) (backwards ks) ≡ same (prelabel hs) (prelabel ks)
agree_same hs ks l = go (heads_agree (backwards hs) (backwards ks)) refl (same (prelabel hs) (prelabel ks)) refl
  where
    go : (a : Bool) → heads_agree (backwards hs) (backwards ks) ≡ a → (b : Bool) → same (prelabel hs) (prelabel ks) ≡ b → a ≡ b
    go true e true f = refl
    go true e false f =
        absurd (same_false (prelabel hs) (prelabel ks) f
        (ap prelabel (backwards_inj hs ks (agree_true (backwards hs) (backwards ks) (length_backwards hs ∙ l ∙ sym (length_backwards ks)) e))))
    go false e true f =
        absurd (true≢false
        (sym (agree_refl (backwards hs))
        ∙ ap (λ (x : List Head). heads_agree (backwards hs) (backwards x)) (prelabel_inj hs ks (same_true (prelabel hs) (prelabel ks) f))
        ∙ e))
    go false e false f = refl

-- runs of unequal length have unequal prelabels
pub unequal : (hs ks : List Head) → (length hs ≡ length ks → ⊥) → same (prelabel hs) (prelabel ks) ≡ false
unequal hs ks q = go (same (prelabel hs) (prelabel ks)) refl
  where
    go : (b : Bool) → same (prelabel hs) (prelabel ks) ≡ b → b ≡ false
    go true e = absurd (q (ap length (prelabel_inj hs ks (same_true (prelabel hs) (prelabel ks) e))))
    go false e = refl
