use Rattle.std.proofs.Common.{⊎_elim}
use Rattle.std.proofs.lemmas.Result.{on_ok_weaker}
use Rattle.smol_pairs.specs.Seekers.{no_seeker, seeker_at}
use Rattle.smol_pairs.proofs.LongestReach.{reach_cases}
use Rattle.smol_pairs.proofs.MetLemmas.{beyond_met}
use Rattle.smol_pairs.proofs.rows.look_near.Goals as goal

pub returns-clause-met : goal.returns-clause-met
returns-clause-met c =
    let search = c.args.search.now in
    let one = seeker_at search.seekers.now c.args.place in
    on_ok_weaker c.look_in_layers.result
    (λ met q behind inside.
    let other = seeker_at search.seekers.now q in
    ⊎_elim
    (λ out. beyond_met search.panels.now search.seed search.k search.mols.now c.look_in_layers.new.keys one other search.reach search.species
    (search.known c.args.place no_seeker c.requires.place) (search.known q no_seeker inside) search.longest out)
    (λ near. met q behind inside (c.boxes_around-boxes.ensures.has q inside near))
    (reach_cases search.reach one.place other.place))
    c.look_in_layers.ensures.met
