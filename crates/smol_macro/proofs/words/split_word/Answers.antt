use Rattle.smol_text.specs.Lines.{separates}
use Rattle.smol_text.proofs.Steps.{position_or_len-rest}
use Rattle.smol_macro.proofs.FirstWord.{no_words, words-cut}
use Rattle.smol_macro.proofs.words.split_word.Goals as goal

pub returns-in_err-start-clause-words : goal.returns-in_err-start-clause-words
returns-in_err-start-clause-words c = rw c.from_residual.ensures (no_words c.args.part.now c.in_err-start.ensures)

pub returns-clause-words : goal.returns-clause-words
returns-clause-words c =
    let part = c.args.part.now in
    words-cut part c.in_ok-start.start c.unwrap_or-size.result c.in_ok-start.ensures
    (position_or_len-rest separates part c.in_ok-start.start c.unwrap_or-size.result c.first_separator.result c.first_separator.ensures c.unwrap_or-size.ensures)
