use Rattle.smol_geom.specs.Axes.{on_axis}
use Rattle.smol_pairs.proofs.Plain.{plain_greatest, plain_least}
use Rattle.smol_pairs.proofs.rows.around.Goals as goal

pub returns-clause-has : goal.returns-clause-has
returns-clause-has c = λ other small near. (
  (
    plain_least (on_axis c.args.place.now.0 0) (on_axis other.0 0) c.below.result c.args.reach c.requires.0 small.0 c.below.ensures.size c.below.ensures.least near.0,
    plain_greatest (on_axis c.args.place.now.0 0) (on_axis other.0 0) c.above.result c.args.reach c.requires.0 small.0 c.above.ensures.size c.above.ensures.greatest near.0,
  ),
  (
    plain_least (on_axis c.args.place.now.0 1) (on_axis other.0 1) c.below-2.result c.args.reach c.requires.1 small.1 c.below-2.ensures.size c.below-2.ensures.least near.1,
    plain_greatest (on_axis c.args.place.now.0 1) (on_axis other.0 1) c.above-2.result c.args.reach c.requires.1 small.1 c.above-2.ensures.size c.above-2.ensures.greatest near.1,
  ),
  (
    plain_least (on_axis c.args.place.now.0 2) (on_axis other.0 2) c.below-3.result c.args.reach c.requires.2 small.2 c.below-3.ensures.size c.below-3.ensures.least near.2,
    plain_greatest (on_axis c.args.place.now.0 2) (on_axis other.0 2) c.above-3.result c.args.reach c.requires.2 small.2 c.above-3.ensures.size c.above-3.ensures.greatest near.2,
  ),
)
