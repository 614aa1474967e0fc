use Rattle.std.proofs.Common.{w64, FitsSigned}
use Rattle.std.proofs.lemmas.Int.{to_z-of_z}
use Rattle.smol_geom.proofs.Sizes.{small_fits}
use Rattle.smol_geom.specs.Axes.{on_axis}
use Rattle.smol_geom.proofs.part.Part.is_in_range.Goals as goal

pub returns : goal.returns
returns c =
    let low_fits : FitsSigned w64 (on_axis c.args.rect.now.low c.args.axis) = small_fits _ c.requires.low in
    let high_fits : FitsSigned w64 (on_axis c.args.rect.now.high c.args.axis) = small_fits _ c.requires.high in
    let from_fits : FitsSigned w64 (on_axis c.args.from.now c.args.axis) = small_fits _ c.requires.from in
    let by_fits : FitsSigned w64 (on_axis c.args.by.now c.args.axis) = small_fits _ c.requires.by in
    let between = simp to_z-of_z at c.is_between.ensures in (
      λ yes. let h = between.0 yes in record { low = h.0; high = h.1 },
      λ range. between.1 (range.low, range.high),
    )
