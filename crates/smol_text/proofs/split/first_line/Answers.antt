use Rattle.std.proofs.Common.{◌≡◌, ◌+◌, ◌∷◌, length, take, drop, unwrap_or, sym, ap, ◌∙◌}
use Rattle.std.specs.List.{position_or_len}
use Rattle.std.proofs.lemmas.List.{length-take-le}
use Rattle.std.proofs.lemmas.List.Sums.{prefix_len-le-length}
use Rattle.smol_text.specs.Lines.{is_line_feed, raw_lines}
use Rattle.smol_text.proofs.Pieces.{unwrap_or-position, raw_lines-step}
use Rattle.smol_text.proofs.split.first_line.Goals as goal

pub returns-clause-lines : goal.returns-clause-lines
returns-clause-lines c =
    let text = c.args.text.now in
    let n = position_or_len is_line_feed text in
    let size = c.unwrap_or-end.ensures ∙ ap (λ o. unwrap_or o (length text)) c.first_line_feed.ensures ∙ unwrap_or-position is_line_feed text in
    let whole : length (take n text) ≡ n = length-take-le n text (prefix_len-le-length _ text) in
    raw_lines-step text c.requires
    ∙ ap (λ k. take n text ∷ raw_lines (drop (k + 1) text)) (sym whole)
    ∙ ap (λ k. take k text ∷ raw_lines (drop (length (take k text) + 1) text)) (sym size)
