use Rattle.std.proofs.Common.{Ok, ap, sym, ◌∙◌}
use Rattle.smol_text.specs.Spans.{stated_lines}
use Rattle.smol_text.proofs.Onward.{statements_of-ok}
use Rattle.smol_text.proofs.split.split_lines.Goals as goal

pub returns-clause-statements : goal.returns-clause-statements
returns-clause-statements c =
    let bytes = c.args.bytes.now in
    let same_bytes = c.new.ensures.bytes ∙ c.in_ok-bytes.ensures.items in
    let same_lines = c.new.ensures.lines ∙ c.in_ok-lines.ensures.lines in
    statements_of-ok bytes c.in_ok-lines.ensures.accepted
    ∙ sym (ap (λ b. Ok (stated_lines (record { bytes = b; lines = c.new.result.lines }))) same_bytes
    ∙ ap (λ l. Ok (stated_lines (record { bytes = bytes; lines = l }))) same_lines)
