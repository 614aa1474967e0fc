use Rattle.std.proofs.Common.{FitsSigned}
use Rattle.std.specs.Int.{w8}
use Rattle.std.proofs.lemmas.Int.{to_z-of_z}
use Rattle.smol_geom.specs.Axes.{on_axis}
use Rattle.smol_geom.specs.Fold.{IsSign}
use Rattle.smol_geom.proofs.EachAxis.{at_axis}
use Rattle.smol_travel.proofs.Ticks.{sign_fits}
use Rattle.smol_travel.proofs.leg.plane_at.Goals as goal

pub folded-requires-clause-sign : goal.folded-requires-clause-sign
folded-requires-clause-sign c =
    let sign = at_axis (λ j. IsSign (on_axis c.args.leg.now.fold.sign j)) c.args.moment.now.axis c.requires.moment.axis c.requires.leg.fold.fold in
    let fits : FitsSigned w8 (on_axis c.args.leg.now.fold.sign c.args.moment.now.axis) = sign_fits _ sign in
    rw (to_z-of_z w8 (on_axis c.args.leg.now.fold.sign c.args.moment.now.axis) fits) sign
