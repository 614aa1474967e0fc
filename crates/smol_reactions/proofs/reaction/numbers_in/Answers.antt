use Rattle.std.proofs.Common.{sym, ap, ◌∙◌, arith}
use Rattle.std.proofs.lemmas.Result.{err_from_is_err_and}
use Rattle.smol_text.specs.Reading.{words_of}
use Rattle.smol_line.specs.SpeciesWord.{species_word_in}
use Rattle.smol_reactions.proofs.Sides.{numbers_more, numbers_fail, numbers_end}
use Rattle.smol_reactions.proofs.reaction.numbers_in.Goals as goal

pub returns-in_err-species_word_in : goal.returns-in_err-species_word_in
returns-in_err-species_word_in c =
    let p = err_from_is_err_and c.from_residual.result c.from_residual.ensures.1 in
    let named = sym c.in_err-species_word_in.ensures.value in
    rw (p.1, p.2)
    (c.loop-at.invariant.rest
    ∙ numbers_fail c.args.species.now (words_of c.args.line.now) c.loop-at.at c.args.side.end c.loop-at.numbers _ c.loop-at-test.true c.requires.within
    (ap (species_word_in c.args.species.now) (sym c.word.ensures) ∙ named))

pub loop-at-preserved : goal.loop-at-preserved
loop-at-preserved c =
    let count = c.min.ensures in
    let pushed = c.in_ok-push.ensures.ok in
    let named = sym c.in_ok-species_word_in.ensures.value in
    record {
      within = omega (arith, count);
      rest = rw (count, pushed)
          (c.loop-at.invariant.rest
          ∙ numbers_more c.args.species.now (words_of c.args.line.now) c.loop-at.at c.args.side.end c.loop-at.numbers _ c.loop-at-test.true c.requires.within
          (ap (species_word_in c.args.species.now) (sym c.word.ensures) ∙ named));
    }

pub returns : goal.returns
returns c =
    c.loop-at.invariant.rest
    ∙ numbers_end c.args.species.now (words_of c.args.line.now) c.loop-at.at c.args.side.end c.loop-at.numbers (omega arith)
