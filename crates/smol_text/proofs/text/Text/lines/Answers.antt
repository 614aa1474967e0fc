use Rattle.std.proofs.Common.{◌≡◌, Ok, ap, subst, sym, ◌∙◌}
use Rattle.smol_text.specs.Reading.{statements_of}
use Rattle.smol_text.specs.Spans.{LinedText, AllSpelled, lines_of, stated_lines}
use Rattle.smol_text.proofs.Places.{AllSpelled-lines_of}
use Rattle.smol_text.proofs.Onward.{statements_of-text}
use Rattle.smol_text.proofs.text.Text.lines.Goals as goal

pub returns-clause-statements : goal.returns-clause-statements
returns-clause-statements c =
    let text : LinedText = record { bytes = c.self.inside.bytes.items; lines = c.self.inside.lines.items } in
    subst (λ (t : LinedText). statements_of t.bytes ≡ Ok (stated_lines t)) c.self.view_is (statements_of-text text c.self.invariant.0 c.self.invariant.1)

pub returns-clause-spelled : goal.returns-clause-spelled
returns-clause-spelled c =
    let bytes = c.self.inside.bytes.items in
    let same : record { bytes = bytes; lines = lines_of bytes } ≡ c.args.self.now = ap (λ l. record { bytes = bytes; lines = l }) (sym c.self.invariant.0) ∙ c.self.view_is in
    subst AllSpelled same (AllSpelled-lines_of bytes)
