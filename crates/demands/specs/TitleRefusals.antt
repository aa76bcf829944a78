-- Demand 1 of the composer: each refusal is 17, 18 to 20 or 11, has its place, and leaves the buffer as it was.
use Rattle.std.specs.Prelude.{ℕ, Bool, true, false, ◌||◌, List, ◌≡◌, refl, eqb}
use Rattle.std.proofs.lemmas.Bool.{false≢true}
use Rattle.std.proofs.Common.{sym, ◌∙◌}
use Rattle.outcomes.specs.Refusals.{accepted, no_room, title_long, not_utf8, outside_repertoire, loose_mark}
use Rattle.outcomes.specs.Outcome.{Output}
use Rattle.titles.specs.Compose.{compose_of}
use Rattle.titles.specs.Goes.{Wrong, broken, foreign, loose, FirstBad, Goes, long, wrong, short, taken}
use Rattle.titles.proofs.GoesLaws.{compose_goes}
use Rattle.titles.specs.declared.composed.Composed.{Composed}

-- told of a character
abbrev pub of_character : ℕ → Bool
of_character k = eqb k not_utf8 || eqb k outside_repertoire || eqb k loose_mark

-- told of the whole title: "otherwise 0"
abbrev pub of_title : ℕ → Bool
of_title k = eqb k title_long || eqb k no_room

-- a refusal of the composer as the table has it: "the first byte of the character for 18 to 20 .. otherwise 0"
pub record Stated (title : List ℕ) (a : Composed) : Type 0 where
  pub number : (of_title a.number || of_character a.number) ≡ true
  pub place : of_title a.number ≡ true → a.place ≡ 0
  pub character : of_character a.number ≡ true → FirstBad title a.number a.place
  pub length : a.length ≡ 0

told : {k : ℕ} {s : List ℕ} → Wrong k s → ((of_title k || of_character k) ≡ true) × (of_title k ≡ false)
told (broken f) = (refl, refl)
told (foreign c r h e o) = (refl, refl)
told (loose c r h m) = (refl, refl)

stated : {title out : List ℕ} {o : Output Composed} → Goes title out o → (o.answer.number ≡ accepted → ⊥) → Stated title o.answer × (o.left ≡ out)
stated (long p) h = (record { number = refl; place = λ d. refl; character = λ d. absurd (false≢true d); length = refl }, refl)
stated (wrong u k p b) h = (
  record {
    number = (told b.wrong).0;
    place = λ d. absurd (false≢true (sym (told b.wrong).1 ∙ d));
    character = λ d. b;
    length = refl;
  },
  refl,
)
stated (short u a s) h = (record { number = refl; place = λ d. refl; character = λ d. absurd (false≢true d); length = refl }, refl)
stated (taken u a r) h = absurd (h refl)

pub compose_stated : (title out : List ℕ) → ((compose_of title out).answer.number ≡ accepted → ⊥)
    → Stated title (compose_of title out).answer × ((compose_of title out).left ≡ out)
compose_stated title out h = stated (compose_goes title out) h
