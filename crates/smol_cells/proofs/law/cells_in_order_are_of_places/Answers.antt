use Rattle.smol_cells.proofs.InOrder.{of_in_order}
use Rattle.smol_cells.proofs.law.cells_in_order_are_of_places.Goals as goal

pub returns : goal.returns
returns c = of_in_order
