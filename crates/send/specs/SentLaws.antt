-- What sending answers and leaves, by whether there is room.
use Rattle.std.specs.Prelude.{ℕ, ◌≤◌, ◌<◌, List, ◌≡◌, length}
use Rattle.std.proofs.Math.Path.{refl}
use Rattle.std.proofs.Common.{subst, lt-ltb, le-ltb}
use Rattle.trees.specs.Nodes.{Node, label, blocks}
use Rattle.trees.specs.Rows.{Entry, rows}
use Rattle.outcomes.specs.Refusals.{no_room}
use Rattle.codec.specs.Writing.{slip_of}
use Rattle.answers.specs.declared.Answer.{Answer}
use Rattle.answers.specs.Answers.{refused, taken}
use Rattle.outcomes.specs.Outcome.{over, Output, Leaves}
use Rattle.send.specs.Sent.{sent, sent_tree}

module _ (es : List Entry) (b : ℕ) (l out : List ℕ) where
  pub sent_roomless : length out < length (slip_of es) → {r : Answer} → r ≡ refused no_room 0 → Leaves (sent es b l out) r out
  unfolding sent
  sent_roomless h e = rw (lt-ltb (length out) (length (slip_of es)) h) (record { answered = e; written = refl })

  pub sent_whole : length (slip_of es) ≤ length out → {r : Answer} {left : List ℕ} → r ≡ taken (length (slip_of es)) b l → left ≡ over (slip_of es) out
      → Leaves (sent es b l out) r left
  unfolding sent
  sent_whole h e w = rw (le-ltb (length out) (length (slip_of es)) h) (record { answered = e; written = w })

-- what is sent of a tree's entries with its blocks and label is that tree's
pub sent_tree_lem :
    (H : List ℕ → List ℕ) (n : Node) (es : List Entry) (b : ℕ) (l out : List ℕ) {left : List ℕ} {r : Answer}
    → es ≡ rows n
    → b ≡ blocks H n
    → l ≡ label H n
    → Leaves (sent es b l out) r left
    → Leaves (sent_tree H n out) r left
sent_tree_lem H n es b l out {left} {r} p q e x = subst (λ (o : Output Answer). Leaves o r left) (λ i. sent (p i) (q i) (e i) out) x
