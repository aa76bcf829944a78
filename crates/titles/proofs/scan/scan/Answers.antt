use Rattle.std.proofs.Common.{◌≡◌, refl, sym, ◌∙◌, ◌+◌, ◌≤◌, length, length-drop, arith}
use Rattle.std.proofs.lemmas.Result.{err_from_is_err_and}
use borrow.Rule.Slice.PartMut.{same_len_mid}
use Rattle.lists.specs.PartsLaws.{tail_part}
use Rattle.nfc.specs.Utf8.{width}
use Rattle.utf8.proofs.Scalars.{same_width}
use Rattle.titles.proofs.Reached.{Turn, reached_start, bad_answer, turn_one, turn_two, reached_on, put_front, reached_end, reached_all}
use Rattle.titles.specs.Compose.{answer_from}
use Rattle.titles.specs.ComposeLaws.{fault_some}
use Rattle.titles.proofs.scan.scan.Goals as goal
use Rattle.titles.proofs.scan.scan.Goals.{Joined-joined_at, in-Some, in-None}

-- a turn, with a mark that joins the letter or without
turn : (c : Joined-joined_at) → Turn c.args.title.now c.loop-at.at c.loop-at.n c.match-joined_at.whole.0 c.match-joined_at.whole.1
turn c =
    let l = c.loop-at in
    let a = c.in_ok-letter in
    let wide : c.len_utf8.result ≡ width a.letter = c.len_utf8.ensures.value ∙ sym (same_width a.letter) in
    let low : l.n ≤ l.at = l.invariant.1.fits in
    elim c.match-joined_at.branch [
      | in-Some w ↦ rw (w.whole-is, wide) (turn_two _ l.at l.n a.letter c.loop-at-test.true a.ensures.0 a.ensures.1 low _ (rw wide at w.in-Some.ensures.0) w.in-Some.ensures.1)
      | in-None w ↦ rw (w.whole-is, wide) (turn_one _ l.at l.n a.letter c.loop-at-test.true a.ensures.0 a.ensures.1 low (rw wide at w.in-None.ensures))
    ]

room_left : (c : Joined-joined_at) → c.loop-at.n + width c.match-joined_at.whole.0 ≤ length c.loop-at.room
room_left c = omega (arith, (turn c).fits, (turn c).inside, c.loop-at.invariant.0, c.requires)

pub loop-at-init : goal.loop-at-init
loop-at-init c = (refl, reached_start _ _)

pub returns-in_err-letter : goal.returns-in_err-letter
unfolding answer_from
returns-in_err-letter c =
    let l = c.loop-at in
    let e = c.in_err-letter.ensures in
    let p = err_from_is_err_and c.from_residual.result c.from_residual.ensures.1 in
    rw (p.1, p.2) (record {
      answered = rw (e.0, e.1) (sym (l.invariant.1.answer ∙ bad_answer _ l.at l.n _ c.loop-at-test.true refl e.2));
      front = λ zero. fault_some _ (sym e.0 ∙ zero);
    })

pub put-n-requires : goal.put-n-requires
put-n-requires c =
    let l = c.loop-at in
    rw (tail_part l.room l.n) (omega (arith, length-drop l.n l.room, room_left (goal.at.put-n-requires c).Joined-joined_at))

pub overflow_add-n : goal.overflow_add-n
overflow_add-n c = omega (arith, c.put-n.ensures.0, room_left (goal.at.overflow_add-n c).Joined-joined_at)

pub loop-at-preserved : goal.loop-at-preserved
loop-at-preserved c =
    let l = c.loop-at in
    let j = (goal.at.loop-at-preserved c).Joined-joined_at in
    let p = c.put-n in (
      same_len_mid _ _ _ _ p.auto.text ∙ l.invariant.0,
      rw p.ensures.0 (reached_on _ l.at l.n _ _ l.room _ l.invariant.1 (turn j) (put_front l.room l.n p.new.text _ _ (omega (arith, room_left j)) p.ensures.1)),
    )

pub returns : goal.returns
returns c =
    let l = c.loop-at in
    let s = c.args.title.now in
    record {
      answered = reached_end s l.at l.n l.room l.invariant.1 c.loop-at-test.false;
      front = reached_all s l.at l.n l.room l.invariant.1 c.loop-at-test.false;
    }
