use Rattle.smol_geom.specs.Axes.{on_axis}
use Rattle.smol_stats.proofs.Nearby.{gap_0, gap_1, gap_2, on_line}
use Rattle.smol_stats.proofs.around.around.Goals as goal

pub returns-clause-reaches : goal.returns-clause-reaches
returns-clause-reaches c other near =
    let place = c.args.place.now in
    let reach = c.args.reach in (
      on_line (on_axis place.0 0) (on_axis other.0 0) reach c.requires.place.0 c.requires.short (gap_0 place other reach near),
      on_line (on_axis place.0 1) (on_axis other.0 1) reach c.requires.place.1 c.requires.short (gap_1 place other reach near),
      on_line (on_axis place.0 2) (on_axis other.0 2) reach c.requires.place.2 c.requires.short (gap_2 place other reach near),
    )
