use Rattle.std.proofs.Common.{refl}
use Rattle.sha256.specs.Sha256 as Sha256
use Rattle.titles.specs.Compose.{composed_text}
use Rattle.slips.specs.HeaderLaws.{header_taken, header_refused, check_body}
use Rattle.handing.proofs.Copying.{handed_back}
use Rattle.unpack.specs.Unpack.{unpack_of}
use Rattle.unpack.proofs.Opened.{handed_as}
use Rattle.unpack.proofs.unpack.Goals as goal

pub returns-in-Err : goal.returns-in-Err
unfolding unpack_of
returns-in-Err c =
    rw (c.from.ensures, c.at.ensures) (handed_as _ (header_refused Sha256.label composed_text _ _ c.in-Err.ensures) refl (handed_back _ _ _))

pub unpack_taken-requires : goal.unpack_taken-requires
unpack_taken-requires c = (header_taken c.in-Ok.ensures).0

pub returns-in-Ok : goal.returns-in-Ok
unfolding unpack_of
returns-in-Ok c = handed_as _ (check_body Sha256.label composed_text _ (header_taken c.in-Ok.ensures).1) refl c.unpack_taken.ensures
