-- `bits::pen::Pen::put_bytes` meets its contract: the run is copied whole, or shifted in behind what the pen holds.
use Rattle.std.proofs.Common.{◌≡◌, ◌∙◌, ℕ, ◌+◌, ◌-◌, arith, length, take, drop, length-drop}
use Rattle.std.proofs.Math.Seq.{length-take-le}
use Rattle.bits.proofs.Strokes.{run_written, run_aligned}
use Rattle.bits.proofs.pen.Pen.put_bytes.Goals as goal
use Rattle.bits.proofs.pen.Pen.put_bytes.Goals.{then-self-eq0, else-self-eq0}

pub returns : goal.returns
returns c =
    let p = c.args.self.now in
    let src = c.args.src.now in
    let out = c.args.out.now in
    let n : ℕ = p.at + length src - p.at in
    let long : length (take n (drop p.at out)) ≡ length src =
    length-take-le n (drop p.at out) (omega (arith, length-drop p.at out, c.requires.fits)) ∙ omega arith in
    elim c.if-self-eq0.branch [
      | then-self-eq0 w ↦
          let k = w.copy_from_slice in
          rw (w.self-is, w.out-is) (run_written p p.acc src out k.new.self c.requires (k.auto.self ∙ long) c.requires.ready.small
          (run_aligned p.held p.acc src k.new.self w.if-self-eq0.true k.ensures.after))
      | else-self-eq0 w ↦
          let k = w.shift_in-self in
          rw (w.self-is, w.out-is) (run_written p k.result src out k.new.dst c.requires (k.auto.dst ∙ long) k.ensures.small k.ensures.bits)
    ]
