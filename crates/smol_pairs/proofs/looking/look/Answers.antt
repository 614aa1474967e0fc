use Rattle.std.proofs.Common.{sym, ◌∙◌}
use Rattle.smol_pairs.specs.Searching.{all_of}
use Rattle.smol_pairs.proofs.MetLemmas.{beyond_met, grown_same}
use Rattle.smol_pairs.proofs.looking.look.Goals as goal

pub returns-then-is_out_of_reach-clause-grown : goal.returns-then-is_out_of_reach-clause-grown
returns-then-is_out_of_reach-clause-grown c = grown_same (all_of c.args.search.now) c.args.keys.now

pub returns-then-is_out_of_reach-clause-met : goal.returns-then-is_out_of_reach-clause-met
returns-then-is_out_of_reach-clause-met c =
    let search = c.args.search.now in
    beyond_met search.panels.now search.seed search.k search.mols.now c.args.keys.now c.args.a.now c.args.b.now search.reach search.species
    c.requires.a c.requires.b search.longest (sym c.is_out_of_reach.ensures ∙ c.if-is_out_of_reach.true)
