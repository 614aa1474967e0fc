use Rattle.std.proofs.Common.{sym, ap, ◌∙◌, arith, FitsSigned, w64}
use Rattle.std.proofs.lemmas.Int.{to_z-of_z}
use Rattle.smol_types.specs.declared.placing.Given.{Given}
use Rattle.smol_streams.specs.Chance.{coordinate_drawn}
use Rattle.smol_compart.specs.Coordinate.{coordinate_on}
use Rattle.smol_compart.proofs.Drawing.{drawn_there, plane_kept, planes_ordered, unused_there, walls_at}
use Rattle.smol_compart.proofs.draw.coordinate_on.Goals as goal

pub coordinate-requires-clause-low : goal.coordinate-requires-clause-low
coordinate-requires-clause-low c =
    let walls = walls_at c.args.walls.now c.args.axis _ c.requires.walls c.if-lower-walls.true in
    rw (plane_kept _ walls.lower_size) (omega (arith, walls.lower_size))

pub coordinate-requires-clause-high : goal.coordinate-requires-clause-high
coordinate-requires-clause-high c =
    let walls = walls_at c.args.walls.now c.args.axis _ c.requires.walls c.if-lower-walls.true in
    rw (plane_kept _ walls.upper_size) (omega (arith, walls.upper_size))

pub coordinate-requires-clause-order : goal.coordinate-requires-clause-order
coordinate-requires-clause-order c =
    planes_ordered c.args.axis _ _ (walls_at c.args.walls.now c.args.axis _ c.requires.walls c.if-lower-walls.true)

pub returns-then-lower-walls-clause-value : goal.returns-then-lower-walls-clause-value
returns-then-lower-walls-clause-value c =
    let walls = walls_at c.args.walls.now c.args.axis _ c.requires.walls c.if-lower-walls.true in
    let low = plane_kept _ walls.lower_size in
    let high = plane_kept _ walls.upper_size in
    let on = λ (given : Given). coordinate_on c.args.walls.now c.args.streams.now c.args.serial c.args.attempt c.args.axis given in
    let fits : FitsSigned w64 c.coordinate.result = record { sfits = c.coordinate.type_inv } in
    to_z-of_z w64 c.coordinate.result fits ∙ c.coordinate.ensures.value
    ∙ (λ i. coordinate_drawn c.args.streams.now c.args.serial c.args.attempt c.args.axis (low i) (high i))
    ∙ sym (ap on c.in-Any.is ∙ drawn_there c.args.walls.now c.args.streams.now c.args.serial c.args.attempt c.args.axis _ c.if-lower-walls.true)

pub returns-else-lower-walls-clause-value : goal.returns-else-lower-walls-clause-value
returns-else-lower-walls-clause-value c =
    let on = λ (given : Given). coordinate_on c.args.walls.now c.args.streams.now c.args.serial c.args.attempt c.args.axis given in
    sym (ap on c.in-Any.is ∙ unused_there c.args.walls.now c.args.streams.now c.args.serial c.args.attempt c.args.axis c.if-lower-walls.false)
