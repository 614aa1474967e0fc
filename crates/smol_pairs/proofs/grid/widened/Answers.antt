use Rattle.std.proofs.Common.{w64, to_z, of_z}
use Rattle.smol_geom.specs.Axes.{on_axis}
use Rattle.smol_pairs.proofs.Plain.{plain_ordered, plain_small}
use Rattle.smol_pairs.proofs.grid.widened.Goals as goal

pub returns-clause-low : goal.returns-clause-low
returns-clause-low c = (plain_small c.least.result c.least.ensures.size, plain_small c.least-2.result c.least-2.ensures.size, plain_small c.least-3.result c.least-3.ensures.size)

pub returns-clause-high : goal.returns-clause-high
returns-clause-high c = (plain_small c.greatest.result c.greatest.ensures.size, plain_small c.greatest-2.result c.greatest-2.ensures.size, plain_small c.greatest-3.result c.greatest-3.ensures.size)

pub returns-clause-filled : goal.returns-clause-filled
returns-clause-filled c =
    let x = to_z w64 (of_z w64 (on_axis c.args.place.now.0 0)) in
    let y = to_z w64 (of_z w64 (on_axis c.args.place.now.0 1)) in
    let z = to_z w64 (of_z w64 (on_axis c.args.place.now.0 2)) in (
      plain_ordered c.least.result x c.greatest.result c.least.ensures.size c.greatest.ensures.size c.least.ensures.below c.greatest.ensures.above,
      plain_ordered c.least-2.result y c.greatest-2.result c.least-2.ensures.size c.greatest-2.ensures.size c.least-2.ensures.below c.greatest-2.ensures.above,
      plain_ordered c.least-3.result z c.greatest-3.result c.least-3.ensures.size c.greatest-3.ensures.size c.least-3.ensures.below c.greatest-3.ensures.above,
    )
