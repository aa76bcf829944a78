-- What two slips answer before they are joined: "first slip (side 1), second slip (side 2), 13".
use Rattle.std.specs.Prelude.{ℕ, Bool, not, List, [], ◌∷◌, eqb}
use Rattle.outcomes.specs.Chain.{chain}
use Rattle.lists.specs.Lists.{same}
use Rattle.outcomes.specs.Refusals.{accepted, roots_differ}
use Rattle.answers.specs.declared.Answer.{Answer}
use Rattle.answers.specs.Answers.{refused}

-- the refusal of one of the two slips, and which
abbrev pub sided : ℕ → Answer → Answer
sided k a =
    record {
      number = a.number;
      place = a.place;
      second = a.second;
      side = k;
      length = a.length;
      blocks = a.blocks;
      label = a.label;
    }

-- "first slip (side 1), second slip (side 2), 13", by the answers to the two
abbrev pub both_tests : Answer → Answer → List (Bool × Answer)
both_tests a b =
    (not (eqb a.number accepted), sided 1 a)
    ∷ (not (eqb b.number accepted), sided 2 b)
    ∷ (not (same a.label b.label), refused roots_differ 0)
    ∷ []

-- the refusal, or the first slip's answer
unfoldable pub both_of : Answer → Answer → Answer
both_of a b = chain (both_tests a b) a
