use Rattle.std.proofs.Common.{◌∙◌, ap, sym}
use Rattle.smol_meaning.specs.Plates.{sheet_axis, sheet_plane}
use Rattle.smol_travel.specs.Legs.{meets}
use Rattle.smol_travel.proofs.Meets.{wall_agrees}
use Rattle.smol_travel.proofs.meeting.is_within_edges.Goals as goal

pub returns-in-Plane : goal.returns-in-Plane
returns-in-Plane c =
    wall_agrees c.args.leg.now c.requires.leg c.args.moment.now c.requires.moment c.in-Plane.axis c.in-Plane.plane
    (c.requires.across ∙ ap sheet_axis c.in-Plane.is) (c.requires.there ∙ ap sheet_plane c.in-Plane.is)
    ∙ ap (meets c.args.leg.now c.args.moment.now) (sym c.in-Plane.is)
