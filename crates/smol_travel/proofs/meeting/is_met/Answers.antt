use Rattle.std.proofs.Common.{sym, ◌∙◌}
use Rattle.std.proofs.lemmas.Bool.{both_ways}
use Rattle.std.proofs.lemmas.Int.{to_z-of_z}
use Rattle.smol_travel.proofs.Meets.{apart}
use Rattle.smol_travel.proofs.meeting.is_met.Goals as goal

pub is_within_edges-requires-clause-there : goal.is_within_edges-requires-clause-there
is_within_edges-requires-clause-there c =
    let says = simp (to_z-of_z, c.ranges.plane) at c.is_at.ensures in
    sym c.requires.plane ∙ (says.0 c.if-is_at.true).1

pub returns-else-is_at : goal.returns-else-is_at
returns-else-is_at c =
    let says = simp (to_z-of_z, c.ranges.plane) at c.is_at.ensures in
    apart c.args.leg.now c.requires.leg c.args.moment.now c.requires.moment c.args.sheet.now c.requires.sheet
    (λ across there. both_ways c.is_at.result c.if-is_at.false (says.1 (sym across, c.requires.plane ∙ sym there)))
