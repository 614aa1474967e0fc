use Rattle.std.proofs.Common.{◌≡◌, false, sym, ◌∙◌}
use Rattle.std.specs.List.{list_any}
use Rattle.std.specs.Str.{bytes_eq}
use Rattle.smol_blocks.specs.Statement.{passed_over_words, left_out_words, statement_of}
use Rattle.smol_blocks.proofs.StatementLemmas.{passed_over_words_are_looked_for, left_out_words_are_looked_for}
use Rattle.smol_blocks.proofs.statement.Statement.of.Goals as goal

pub returns-else-is_among-2 : goal.returns-else-is_among-2
unfolding statement_of
returns-else-is_among-2 c =
    let word = c.args.word.now in
    let read : list_any (bytes_eq word) passed_over_words ≡ false = sym (passed_over_words_are_looked_for word) ∙ sym c.is_among.ensures ∙ c.if-is_among.false in
    let known : list_any (bytes_eq word) left_out_words ≡ false = sym (left_out_words_are_looked_for word) ∙ sym c.is_among-else-is_among.ensures ∙ c.if-is_among-2.false in
    rw (read, known) c.named.ensures
