use Rattle.std.proofs.Common.{◌≡◌, ◌∙◌, ap, fold, sym}
use Rattle.std.proofs.Math.ListN.{drop_of_length-le}
use Rattle.smol_sweep.specs.Table.{with_outcome}
use Rattle.smol_sweep.proofs.Folds.{value_is}
use Rattle.smol_sweep.proofs.lines.value_of.Goals as goal

pub returns : goal.returns
returns c =
    let tells = c.requires.tells in
    let told = c.args.told in
    let species = c.args.species in
    let outcomes = c.args.outcomes.now in
    ap (fold (with_outcome told species) c.loop-outcome.value) (sym (drop_of_length-le outcomes c.loop-outcome-test.false))
    ∙ (c.loop-outcome.invariant.folded ∙ value_is told species tells.0 outcomes tells.1 tells.2)
