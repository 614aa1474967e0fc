use Rattle.std.proofs.Common.{ap, ◌∙◌, sym, arith}
use Rattle.smol_text.specs.Reading.{words_of}
use Rattle.smol_reactions.specs.Arrangement.{is_arrow}
use Rattle.smol_reactions.proofs.Sides.{arrow_at, arrow_nowhere}
use Rattle.smol_reactions.proofs.arrangement.arrow_of.Goals as goal

pub returns-then-is_arrow-clause-found : goal.returns-then-is_arrow-clause-found
returns-then-is_arrow-clause-found c =
    let begun = c.loop-at.auto.at in
    arrow_at (words_of c.args.line.now) c.loop-at.at (omega arith) (omega arith) c.loop-at.invariant
    (ap is_arrow (sym c.word.ensures) ∙ sym c.is_arrow.ensures ∙ c.if-is_arrow.true)

pub returns-clause-found : goal.returns-clause-found
returns-clause-found c =
    arrow_nowhere (words_of c.args.line.now) c.loop-at.at (omega arith) (omega arith) c.loop-at.invariant
