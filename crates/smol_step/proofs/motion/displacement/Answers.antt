use Rattle.std.proofs.Common.{ℕ, ap, sym, ◌∙◌}
use Rattle.smol_streams.specs.Displacement.{displacement}
use Rattle.smol_step.proofs.Still.{still}
use Rattle.smol_step.proofs.motion.displacement.Goals as goal

-- the displacement of a molecule that doesn't move
pub returns-then-difstep-eq0-clause-value : goal.returns-then-difstep-eq0-clause-value
returns-then-difstep-eq0-clause-value c =
    let seed = c.args.streams.now in
    let serial = c.args.m.now.serial in
    sym (ap (λ (s : ℕ). displacement seed serial c.args.k s c.args.dims) c.if-difstep-eq0.true ∙ still seed serial c.args.k c.args.dims)
