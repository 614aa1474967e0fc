use Rattle.std.proofs.Common.{ap, sym, ◌∙◌}
use Rattle.smol_types.specs.declared.species.Species.{Species}
use Rattle.smol_step.proofs.Still.{difstep_read}
use Rattle.smol_step.proofs.motion.difstep_of.Goals as goal

pub returns : goal.returns
returns c =
    let one = c.index-species-m.result in
    let is = difstep_read c.args.config.now c.args.m.now.species one c.requires (rw c.species.ensures.value at c.index-species-m.is) in
    sym (is ∙ ap (λ (species : Species). species.step) c.index-species-m.is)
