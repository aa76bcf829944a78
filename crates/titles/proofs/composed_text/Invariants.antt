-- `composed_text` meets its contract: all before `at` is plain, so the answer is that of the rest.
use Rattle.std.proofs.Common.{◌≡◌, ◌≤◌, ◌-◌, length, drop}
use Rattle.nfc.specs.Utf8.{decode}
use Rattle.nfc.specs.Repertoire.{all_plain}
use Rattle.titles.specs.Compose.{composed_text}
use Rattle.titles.proofs.composed_text.Given as goal

abbrev pub invariant-loop-at : goal.invariant-loop-at
invariant-loop-at l = (l.at ≤ length l.value) × (composed_text l.value ≡ all_plain (decode (drop l.at l.value)))

abbrev pub decreases-loop-at : goal.decreases-loop-at
decreases-loop-at l = length l.value - l.at
