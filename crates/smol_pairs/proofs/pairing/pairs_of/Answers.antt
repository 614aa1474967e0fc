use Rattle.std.proofs.Common.{map, ap, ◌∙◌}
use Rattle.std.proofs.lemmas.List.{take_all}
use Rattle.smol_pairs.specs.Encounters.{pair_at}
use Rattle.smol_pairs.proofs.Meetings.{pairs_at}
use Rattle.smol_pairs.proofs.pairing.pairs_of.Goals as goal

pub returns-clause-candidates : goal.returns-clause-candidates
returns-clause-candidates c = λ draft seed k are.
    let mols = c.args.mols.now in
    c.loop-encounter.invariant
    ∙ ap (map (pair_at mols)) (take_all c.loop-encounter.encounter-index c.args.encounters.now c.loop-encounter-test.false ∙ are)
    ∙ pairs_at draft seed k mols
