use Rattle.std.proofs.Common.{◌∙◌, ap}
use Rattle.smol_cells.specs.Ranges.{near_of}
use Rattle.smol_cells.proofs.NearLists.{near_is}
use Rattle.smol_cells.proofs.cells.Cells.near.Goals as goal

pub returns : goal.returns
returns c = λ ranges of. near_is ranges c.args.self.now c.boxes.result of c.boxes.ensures.among ∙ ap (near_of ranges) c.boxes.ensures.value
