use Rattle.std.proofs.Common.{ap, ◌∙◌}
use Rattle.smol_text.specs.Spans.{stated_lines}
use Rattle.smol_blocks.specs.Statement.{statement_of}
use Rattle.smol_config.proofs.BlockRead.{line_refused, line_taken}
use Rattle.smol_config.proofs.tables.Tables.read.Goals as goal

pub read_block-requires-clause-statement : goal.read_block-requires-clause-statement
read_block-requires-clause-statement c = c.in-Block.ensures ∙ ap statement_of c.word_at.ensures

pub returns-in-Ok-clause-reads : goal.returns-in-Ok-clause-reads
returns-in-Ok-clause-reads c =
    line_taken c.of.result c.args.self.now c.read_statement.new.self (stated_lines c.args.text.now) c.args.at c.line-line.result c.line-line.ensures.is_next (c.of.ensures ∙ ap statement_of c.word_at.ensures) c.in-Ok.ensures

pub returns-in-Err-clause-reads : goal.returns-in-Err-clause-reads
returns-in-Err-clause-reads c =
    rw (c.told_at.ensures, c.number.ensures)
    (line_refused c.of.result c.args.self.now c.read_statement.new.self (stated_lines c.args.text.now) c.args.at c.line-line.result c.in-Err.refusal c.line-line.ensures.is_next (c.of.ensures ∙ ap statement_of c.word_at.ensures)
    (λ kind is. rw is at c.in-Err.ensures))
