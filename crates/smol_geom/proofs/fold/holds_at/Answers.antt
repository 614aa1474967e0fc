use Rattle.std.proofs.Common.{sym}
use Rattle.smol_geom.specs.Axes.{on_axis}
use Rattle.smol_geom.specs.Moment.{part_of}
use Rattle.smol_geom.proofs.Folds.{folded_point}
use Rattle.smol_geom.proofs.Ways.{same_range}
use Rattle.smol_geom.proofs.fold.holds_at.Goals as goal

pub returns : goal.returns
returns c =
    let fold = c.args.f.now in
    let from = c.args.from.now.0 in
    let by = c.args.by.now.0 in
    let part = part_of c.args.m.now in
    let places = c.folded_place.ensures.value in
    let steps = c.folded_step.ensures.value in
    let x = folded_point (on_axis fold.sign 0) (on_axis from 0) (on_axis by 0) (on_axis fold.shift 0) _ _ part places.0 steps.0 in
    let y = folded_point (on_axis fold.sign 1) (on_axis from 1) (on_axis by 1) (on_axis fold.shift 1) _ _ part places.1 steps.1 in
    let z = folded_point (on_axis fold.sign 2) (on_axis from 2) (on_axis by 2) (on_axis fold.shift 2) _ _ part places.2 steps.2 in
    let rect = c.args.rect.now in (
      λ yes. let held = c.is_held.ensures.0 yes in (same_range rect 0 _ _ x held.0, same_range rect 1 _ _ y held.1, same_range rect 2 _ _ z held.2),
      λ held. c.is_held.ensures.1 (same_range rect 0 _ _ (sym x) held.0, same_range rect 1 _ _ (sym y) held.1, same_range rect 2 _ _ (sym z) held.2),
    )
