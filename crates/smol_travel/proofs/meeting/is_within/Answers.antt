use Rattle.std.proofs.Common.{arith, length, ap, ◌∙◌}
use Rattle.std.proofs.lemmas.List.{length-map}
use Rattle.smol_sheets.specs.Sheets.{sheets_of, stand_of}
use Rattle.smol_sheets.proofs.Numbered.{sheet_count}
use Rattle.smol_travel.proofs.Looking.{outside, stand_across}
use Rattle.smol_travel.proofs.meeting.is_within.Goals as goal

pub bounds-stands-number : goal.bounds-stands-number
bounds-stands-number c =
    let draft = c.args.panels.now in
    omega (arith, c.requires.number, sheet_count draft, ap length c.stands.ensures ∙ length-map (sheets_of draft) stand_of)

pub is_in_span-requires : goal.is_in_span-requires
is_in_span-requires c =
    let draft = c.args.panels.now in
    stand_across draft c.args.number c.stands.result.now _ c.requires.sound (omega (arith, sheet_count draft, c.requires.number)) c.stands.ensures

pub returns : goal.returns
returns c = λ leg is_leg is_span out.
    let draft = c.args.panels.now in
    outside draft c.args.number c.stands.result.now _ c.requires.sound (omega (arith, sheet_count draft, c.requires.number)) c.stands.ensures
    leg c.args.span.now c.is_in_span.result c.is_in_span.ensures out is_leg is_span
