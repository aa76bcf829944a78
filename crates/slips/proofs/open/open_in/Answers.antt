use Rattle.slips.proofs.Opened.{opened}
use Rattle.slips.proofs.open.open_in.Goals as goal

pub returns : goal.returns
returns c = opened _ _ c.requires.counted c.fill-f.ensures c.judge.ensures c.settled.ensures
