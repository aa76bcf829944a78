-- `composite` meets its contract: the mark's rows have all that it makes.
use Rattle.characters.proofs.pairs.composite.Goals as goal

pub returns : goal.returns
returns c = rw c.sought.ensures (c.rows_of.ensures c.args.letter)
