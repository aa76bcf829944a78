-- A table handed out where it fits.
use Prim.Native.Nat.{ℕ, ◌≤◌, ◌<◌}
use mathlib.Core.List.{List}
use mathlib.Core.Path.{◌≡◌, refl}
use borrow.Author.Tests.{lt-ltb, le-ltb}
use lib.ListN.{length}
use Rattle.trees.specs.Nodes.{Node}
use Rattle.trees.specs.Rules.{max_bytes}
use Rattle.trees.specs.Rows.{rows}
use Rattle.outcomes.specs.Refusals.{join_too_large}
use Rattle.codec.specs.Writing.{slip_of}
use Rattle.answers.specs.declared.Answer.{Answer}
use Rattle.answers.specs.Answers.{refused}
use Rattle.outcomes.specs.Outcome.{Leaves}
use Rattle.send.specs.Sent.{sent_tree}
use Rattle.join_tables.specs.Clauses.{fitted}

-- "15, 11", by the size
module _ (H : List ℕ → List ℕ) (n : Node) (out : List ℕ) where
  pub fitted_long : max_bytes < length (slip_of (rows n)) → {r : Answer} → r ≡ refused join_too_large 0 → Leaves (fitted H n out) r out
  unfolding fitted
  fitted_long h e = rw (lt-ltb max_bytes (length (slip_of (rows n))) h) (record { answered = e; written = refl })

  pub fitted_sent : length (slip_of (rows n)) ≤ max_bytes → {r : Answer} {left : List ℕ} → Leaves (sent_tree H n out) r left → Leaves (fitted H n out) r left
  unfolding fitted
  fitted_sent h p = rw (le-ltb max_bytes (length (slip_of (rows n))) h) p
