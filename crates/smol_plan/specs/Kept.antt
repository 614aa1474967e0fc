-- The board of a machine.
use Rattle.smol_plan.specs.declared.machine.Core.TheInside.{Inside}
use Rattle.smol_plan.specs.Board.{Board}

abbrev pub board_of : Inside → Board
board_of core =
    record {
      pairs = core.plan;
      workers = core.workers;
      slices = core.taken.items;
      standings = core.standings.items;
    }
