use Rattle.std.proofs.Common.{sym, subst, ap, ◌∙◌}
use Rattle.smol_meaning.specs.declared.way.Effect.{Effect}
use Rattle.smol_meaning.specs.Folds.{StandingFits}
use Rattle.smol_meaning.specs.Seen.{plates_of}
use Rattle.smol_meaning.specs.Way.{after_effect}
use Rattle.smol_meaning.proofs.Bounds.{outcome_fits}
use Rattle.smol_meaning.proofs.Seeing.{plates_fit}
use Rattle.smol_travel.specs.Meetings.{IsSmallJump, IsOfSpecies}
use Rattle.smol_travel.proofs.Jumps.{decides_short}
use Rattle.smol_travel.proofs.Walking.{stays_known}
use Rattle.smol_travel.proofs.walk.outcome.Goals as goal

pub done-requires-clause-jump : goal.done-requires-clause-jump
done-requires-clause-jump c =
    let draft = c.args.panels.now in
    subst (λ (effect : Effect). IsSmallJump effect.response) (sym c.decision-effect.ensures.value)
    (decides_short draft.dims (plates_of draft) c.args.leg.now.from c.args.leg.now.by c.args.leg.now.fold c.args.moment.now c.args.species (plates_fit draft c.decision-effect.ensures.sound))

pub returns-clause-fits : goal.returns-clause-fits
returns-clause-fits c =
    let draft = c.args.panels.now in
    let leg = c.args.leg.now in
    subst (StandingFits draft.dims leg.from leg.by) (sym (c.done.ensures ∙ ap (after_effect leg.from leg.by leg.fold c.args.moment.now) c.decision-effect.ensures.value))
    (outcome_fits draft.dims leg.from leg.by c.requires.moving c.args.moment.now c.requires.moment leg.fold c.requires.fold
    (plates_of draft) (plates_fit draft c.decision-effect.ensures.sound) c.args.species)

pub returns-clause-known : goal.returns-clause-known
returns-clause-known c =
    subst (IsOfSpecies c.args.panels.now) (sym c.done.ensures)
    (stays_known c.args.panels.now c.args.leg.now c.args.moment.now c.decision-effect.result.response c.decision-effect.result.species c.decision-effect.ensures.known)
