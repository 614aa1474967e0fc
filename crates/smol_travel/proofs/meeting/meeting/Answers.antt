use Rattle.std.proofs.Common.{◌∙◌, ap, sym, FitsSigned, w64, rules}
use Rattle.std.proofs.lemmas.Bool.{both_ways}
use Rattle.std.proofs.lemmas.Int.{to_z-of_z}
use Rattle.smol_geom.specs.declared.moment.Moment.{Moment}
use Rattle.smol_geom.specs.Moments.{is_before}
use Rattle.smol_travel.specs.Legs.{meets}
use Rattle.smol_travel.proofs.Meets.{met_at}
use Rattle.smol_travel.proofs.Looking.{some_or}
use Rattle.smol_travel.proofs.meeting.meeting.Goals as goal
use Rattle.smol_travel.proofs.meeting.meeting.Goals.{else-comes_before-via-then-comes_before+else-is_within_edges, else-comes_before-via-else-comes_before}

pub returns-in_err-moment-clause-only : goal.returns-in_err-moment-clause-only
returns-in_err-moment-clause-only c = λ m h e.
    let at = met_at c.args.leg.now c.requires.leg m h.moment c.args.sheet.now c.requires.sheet e in
    let fits : FitsSigned w64 c.across-axis.result.1 = search rules in
    let only = simp (to_z-of_z, fits) at c.in_err-moment.ensures.only in
    c.from_residual.ensures ∙ only m h.moment (at.0 ∙ sym c.across-axis.ensures.axis) (at.1 ∙ sym c.across-axis.ensures.plane)

pub returns-then-is_within_edges-clause-only : goal.returns-then-is_within_edges-clause-only
returns-then-is_within_edges-clause-only c = λ m h e.
    let at = met_at c.args.leg.now c.requires.leg m h.moment c.args.sheet.now c.requires.sheet e in
    let fits : FitsSigned w64 c.across-axis.result.1 = search rules in
    let only = simp (to_z-of_z, fits) at c.in_ok-moment.ensures.only in
    only m h.moment (at.0 ∙ sym c.across-axis.ensures.axis) (at.1 ∙ sym c.across-axis.ensures.plane)

pub returns-else-comes_before-clause-only : goal.returns-else-comes_before-clause-only
returns-else-comes_before-clause-only c = λ m h e.
    let at = met_at c.args.leg.now c.requires.leg m h.moment c.args.sheet.now c.requires.sheet e in
    let fits : FitsSigned w64 c.across-axis.result.1 = search rules in
    let only = simp (to_z-of_z, fits) at c.in_ok-moment.ensures.only in
    let is = ap (some_or c.in_ok-moment.moment) (only m h.moment (at.0 ∙ sym c.across-axis.ensures.axis) (at.1 ∙ sym c.across-axis.ensures.plane)) in
    elim c.else-comes_before.branch [
      | else-comes_before-via-then-comes_before+else-is_within_edges w ↦
          absurd (both_ways (meets c.args.leg.now c.in_ok-moment.moment c.args.sheet.now) (sym w.is_within_edges.ensures ∙ w.if-is_within_edges.false)
          (ap (λ (x : Moment). meets c.args.leg.now x c.args.sheet.now) is ∙ e))
      | else-comes_before-via-else-comes_before w ↦
          absurd (both_ways (is_before c.args.last.now c.in_ok-moment.moment) (sym c.comes_before.ensures ∙ w.if-comes_before.false) (ap (is_before c.args.last.now) is ∙ h.later))
    ]
