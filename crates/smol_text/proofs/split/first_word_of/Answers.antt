use Rattle.std.proofs.Common.{not, length, unwrap_or, ap, ◌∙◌}
use Rattle.smol_text.specs.Lines.{separates}
use Rattle.smol_text.proofs.Pieces.{unwrap_or-position}
use Rattle.smol_text.proofs.Steps.{position_or_len-rest, first_word-at}
use Rattle.smol_text.proofs.split.first_word_of.Goals as goal

pub returns : goal.returns
returns c =
    let part = c.before_comment-part.result.now in
    let start = c.unwrap_or-start.result in
    let is_start = c.unwrap_or-start.ensures ∙ ap (λ o. unwrap_or o (length part)) c.first_word_byte.ensures ∙ unwrap_or-position (λ b. not (separates b)) part in
    let is_size = position_or_len-rest separates part start c.unwrap_or-end.result c.first_separator.result c.first_separator.ensures c.unwrap_or-end.ensures in
    first_word-at c.args.line.now part start c.unwrap_or-end.result c.before_comment-part.ensures is_start is_size
