use Rattle.smol_cells.proofs.NumberLemmas.{between_among}
use Rattle.smol_cells.proofs.grid.Grid.between.Goals as goal

pub returns-clause-among : goal.returns-clause-among
returns-clause-among c =
    rw (c.number.ensures.value, c.number-2.ensures.value, c.number-3.ensures.value, c.number-4.ensures.value, c.number-5.ensures.value, c.number-6.ensures.value)
    (between_among c.args.self.now c.args.low.now c.args.high.now c.requires.ordered)
