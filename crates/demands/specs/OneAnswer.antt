-- "For every public call and every input, refused or not, the contract leaves one possible answer and one possible content of the buffers."
-- Each theorem takes the call's contract twice.
use Rattle.std.specs.Prelude.{ℕ, List, ◌≡◌}
use Rattle.std.proofs.Common.{sym, ap, ◌∙◌}
use Rattle.std.specs.Borrow.{Bor}
use Rattle.tables.specs.Tables.{Table, table}
use Rattle.sha256.specs.Sha256 as Sha256
use Rattle.outcomes.specs.Outcome.{Leaves}
use Rattle.outcomes.specs.OutcomeLaws.{leaves_one}
use Rattle.titles.specs.Compose.{compose_of, composed_text}
use Rattle.titles.specs.declared.composed.Composed.{Composed}
use Rattle.lookup.specs.Lookup.{lookup, Handed}
use Rattle.answers.specs.declared.Answer.{Answer}
use Rattle.slips.specs.Check.{check_of}
use Rattle.pack.specs.Pack.{pack_of}
use Rattle.unpack.specs.Unpack.{unpack_of}
use Rattle.prune.specs.Prune.{prune_of}
use Rattle.join.specs.Join.{join_of}

module _ (s u list out : List ℕ) {r q : Answer} where
  pub check_one : r ≡ check_of Sha256.label composed_text s → q ≡ check_of Sha256.label composed_text s → r ≡ q
  check_one e f = e ∙ sym f

  module _ {a b : List ℕ} where
    pub prune_one : Leaves (prune_of Sha256.label composed_text s list out) r a → Leaves (prune_of Sha256.label composed_text s list out) q b → (r ≡ q) × (a ≡ b)
    prune_one e f = leaves_one e f

    pub join_one : Leaves (join_of Sha256.label composed_text s u out) r a → Leaves (join_of Sha256.label composed_text s u out) q b → (r ≡ q) × (a ≡ b)
    join_one e f = leaves_one e f

    pub pack_one : (t : Table) → Leaves (pack_of Sha256.label composed_text t out) r a → Leaves (pack_of Sha256.label composed_text t out) q b → (r ≡ q) × (a ≡ b)
    pack_one t e f = leaves_one e f

  pub unpack_one :
      (b : Table) {t c l v t' c' l' v' : List ℕ}
      → Leaves (unpack_of Sha256.label composed_text s b) r (table t c l v)
      → Leaves (unpack_of Sha256.label composed_text s b) q (table t' c' l' v')
      → (r ≡ q) × (t ≡ t') × (c ≡ c') × (l ≡ l') × (v ≡ v')
  unpack_one b e f =
      let x = leaves_one e f in
      (x.0, ap (λ (y : Table). y.types) x.1, ap (λ (y : Table). y.counts) x.1, ap (λ (y : Table). y.lengths) x.1, ap (λ (y : Table). y.values) x.1)

module _ (kind : ℕ) (t u : Table) where
  pub holder_one : {h k : ℕ} → h ≡ (lookup kind t u).holder → k ≡ (lookup kind t u).holder → h ≡ k
  holder_one e f = e ∙ sym f

  -- the part lies at one place and has one content
  pub find_one : (first second : Bor (List ℕ)) {r q : Bor (List ℕ)} → Handed (lookup kind t u) first second r → Handed (lookup kind t u) first second q
      → (r.ref_ptr ≡ q.ref_ptr) × (r.now ≡ q.now)
  find_one first second e f = (e.place ∙ sym f.place, e.bytes ∙ sym f.bytes)

pub compose_one : (title out : List ℕ) {r q : Composed} {a b : List ℕ} → Leaves (compose_of title out) r a → Leaves (compose_of title out) q b → (r ≡ q) × (a ≡ b)
compose_one title out e f = leaves_one e f
