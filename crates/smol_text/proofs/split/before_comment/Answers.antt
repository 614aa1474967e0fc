use Rattle.std.proofs.Common.{length, take, unwrap_or, ap, ◌∙◌}
use Rattle.smol_text.specs.Lines.{begins_comment}
use Rattle.smol_text.proofs.Pieces.{unwrap_or-position}
use Rattle.smol_text.proofs.split.before_comment.Goals as goal

pub returns : goal.returns
returns c =
    let line = c.args.line.now in
    ap (λ k. take k line) (c.unwrap_or-end.ensures ∙ ap (λ o. unwrap_or o (length line)) c.first_hash.ensures ∙ unwrap_or-position begins_comment line)
