use Rattle.std.proofs.Common.{◌∙◌, ap, ℕ, FitsSigned, w64, get_or}
use Rattle.std.proofs.lemmas.Int.{to_z-of_z}
use Rattle.smol_types.specs.declared.placing.Given.TheVariants.{Any}
use Rattle.smol_compart.specs.Coordinate.{coordinate_on}
use Rattle.smol_compart.proofs.Drawing.{place_is}
use Rattle.smol_compart.proofs.draw.place_at_try.Goals as goal

pub returns-clause-place : goal.returns-clause-place
returns-clause-place c =
    let walls = c.walls-walls.result.now in
    let fits_x : FitsSigned w64 c.coordinate_on.result = record { sfits = c.coordinate_on.type_inv } in
    let fits_y : FitsSigned w64 c.coordinate_on-2.result = record { sfits = c.coordinate_on-2.type_inv } in
    let fits_z : FitsSigned w64 c.coordinate_on-3.result = record { sfits = c.coordinate_on-3.type_inv } in
    let second = c.coordinate_on.ensures.seed in
    let third = c.coordinate_on-2.ensures.seed ∙ second in
    place_is c.args.config.now walls c.args.streams.now c.args.serial c.args.attempt c.args.given Any _ _ _ c.walls-walls.ensures.value c.requires.given
    (to_z-of_z w64 c.coordinate_on.result fits_x ∙ c.coordinate_on.ensures.value)
    (to_z-of_z w64 c.coordinate_on-2.result fits_y ∙ c.coordinate_on-2.ensures.value
    ∙ ap (λ (seed : ℕ). coordinate_on walls seed c.args.serial c.args.attempt 1 (get_or c.args.given 1 Any)) second)
    (to_z-of_z w64 c.coordinate_on-3.result fits_z ∙ c.coordinate_on-3.ensures.value
    ∙ ap (λ (seed : ℕ). coordinate_on walls seed c.args.serial c.args.attempt 2 (get_or c.args.given 2 Any)) third)
