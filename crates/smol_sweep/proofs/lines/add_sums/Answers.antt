use Rattle.std.proofs.Common.{◌≡◌, ◌+◌, ◌-◌, ◌++◌, ◌∙◌, ap, append_assoc}
use Rattle.std.specs.Prelude.{codes}
use Rattle.std.specs.Fmt.{decimal}
use Rattle.smol_meaning.specs.Lines.{spaced}
use Rattle.smol_sweep.specs.Table.{ended_in, for_species}
use Rattle.smol_sweep.proofs.Folds.{species_left}
use Rattle.smol_sweep.proofs.lines.add_sums.Goals as goal

pub loop-index-preserved : goal.loop-index-preserved
loop-index-preserved c =
    let runs = ended_in c.args.outcomes.now in
    let index = c.loop-index.index in
    let items = c.loop-index.text.items in
    let rest = spaced (for_species c.args.told runs (index + 1) (c.args.species - (index + 1))) in
    let left = species_left c.args.told runs index c.args.species c.loop-index-test.true in
    ap (λ page. page ++ rest) c.in_ok-add_number.ensures.ok
    ∙ (append_assoc items _ rest
    ∙ (ap (λ value. items ++ (codes " " ++ decimal value ++ rest)) c.value_of.ensures
    ∙ (rw left at c.loop-index.invariant)))
