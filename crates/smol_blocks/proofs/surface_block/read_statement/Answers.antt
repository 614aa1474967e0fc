use Rattle.std.proofs.Common.{refl, ap}
use Rattle.smol_line.specs.LookingBack.{say}
use Rattle.smol_blocks.specs.BlockText.{says}
use Rattle.smol_blocks.proofs.surface_block.read_statement.Goals as goal

pub returns-in_ok-read-in-InSurface-clause-reads : goal.returns-in_ok-read-in-InSurface-clause-reads
returns-in_ok-read-in-InSurface-clause-reads c said h =
    let read = c.in_ok-read-in-InSurface.ensures.reads said h in
    (says read.0, rw c.in-InSurface.is (ap (say says) read.1), refl, read.2)
