use Rattle.std.proofs.Common.{◌≡◌, ◌&&◌, false, nat_le, length, slice_range, sym, ap, ◌∙◌, arith}
use Rattle.smol_text.specs.Reading.{words_of}
use Rattle.smol_reactions.specs.Arrangement.{is_sum, is_nothing}
use Rattle.smol_reactions.proofs.Parts.{length_of_part}
use Rattle.smol_reactions.proofs.Sides.{left_bad, too_many_words}
use Rattle.smol_reactions.proofs.arrangement.check_left.Goals as goal
use Rattle.smol_reactions.proofs.arrangement.check_left.Goals.{else-side-le3-via-then-side-le3+else-is_sum, else-side-le3-via-else-side-le3}

pub returns-else-side-le3 : goal.returns-else-side-le3
returns-else-side-le3 c =
    let part = slice_range (words_of c.args.line.now) c.args.side.start c.args.side.end in
    let count = length_of_part (words_of c.args.line.now) c.args.side.start c.args.side.end c.requires.ordered c.requires.within in
    let other : is_nothing part ≡ false = sym c.is_nothing.ensures ∙ c.if-is_nothing.false in
    let bad : (is_sum part && nat_le (length part) 3) ≡ false =
    elim c.else-side-le3.branch [
      | else-side-le3-via-then-side-le3+else-is_sum w ↦ ap (λ b. b && nat_le (length part) 3) (sym w.is_sum.ensures ∙ w.if-is_sum.false)
      | else-side-le3-via-else-side-le3 w ↦ let past = w.if-side-le3.false in too_many_words (is_sum part) (length part) (omega (arith, count, past))
    ] in
    left_bad part other bad
