use Rattle.std.proofs.Common.{◌≡◌, w64, FitsSigned, ◌∙◌}
use Rattle.std.proofs.lemmas.Bool.Decides.{same_from_decides}
use Rattle.std.proofs.lemmas.Int.{to_z-of_z}
use Rattle.smol_geom.specs.Axes.{on_axis}
use Rattle.smol_geom.proofs.Sizes.{size_on, small_fits}
use Rattle.smol_meaning.specs.Sight.{is_strictly_between}
use Rattle.smol_meaning.proofs.Sights.{strictly_between_decides, meets_wall_decides}
use Rattle.smol_meaning.proofs.sight.meets_wall.Goals as goal

pub returns : goal.returns
returns c =
    let a = c.args.a.now in
    let b = c.args.b.now in
    let axis = c.args.axis in
    let plane_fits : FitsSigned w64 c.args.plane = c.ranges.plane in
    let start_fits : FitsSigned w64 (on_axis a.0 axis) = small_fits _ (size_on a.0 axis c.requires.axis c.requires.a.size) in
    let end_fits : FitsSigned w64 (on_axis b.0 axis) = small_fits _ (size_on b.0 axis c.requires.axis c.requires.b.size) in
    let tests : c.lies_between.result ≡ is_strictly_between c.args.plane (on_axis a.0 axis) (on_axis b.0 axis) = simp to_z-of_z at c.lies_between.ensures in
    tests ∙ same_from_decides _ _ (strictly_between_decides c.args.plane (on_axis a.0 axis) (on_axis b.0 axis)) (meets_wall_decides axis c.args.plane a b)
