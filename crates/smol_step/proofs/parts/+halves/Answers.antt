use Rattle.smol_step.proofs.Halves.{closed_up}
use Rattle.smol_step.proofs.parts.+halves.Goals as goal

pub diffuse_halved-returns : goal.diffuse_halved-returns
diffuse_halved-returns g t c =
    let mols = c.split_at_mut-front_mols in
    let both = c.diffuse_both-front in
    closed_up c.args.setup.now c.args.seed c.args.k _ mols.result.0.now mols.result.1.now _ _ _ _ _ _ _ _ _
    mols.ensures.value mols.ensures.front_len both.ensures.front both.ensures.back
    c.close_up.ensures.items c.close_up.ensures.count c.close_up-2.ensures.items c.close_up-2.ensures.count
