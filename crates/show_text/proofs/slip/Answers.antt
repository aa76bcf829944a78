use Rattle.slips.specs.HeaderLaws.{header_taken}
use Rattle.show_text.proofs.slip.Goals as goal

pub opened-requires : goal.opened-requires
opened-requires g c = (header_taken c.in-Ok.ensures).0
