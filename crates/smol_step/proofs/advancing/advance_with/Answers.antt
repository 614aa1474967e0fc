use Rattle.std.proofs.Common.{Result, ap, subst, sym, ◌∙◌}
use Rattle.smol_types.specs.declared.draft.Draft.{Draft}
use Rattle.smol_types.specs.declared.state.State.{State}
use Rattle.smol_meaning.specs.Step.{next_state}
use Rattle.smol_meaning.proofs.Going.{step_crosses_none, step_stays_in_boxes}
use Rattle.smol_confined.proofs.Making.{lone_products_are_confined}
use Rattle.smol_confined.proofs.Pairing.{pairs_are_confined}
use Rattle.smol_step.specs.declared.step_fault.StepFault.{StepFault}
use Rattle.smol_step.specs.Advance.{IsAnswer}
use Rattle.smol_step.proofs.Answered.{answer_fits, answer_holds, answer_rises, boxed, told_is_answer}
use Rattle.smol_step.proofs.advancing.advance_with.Goals as goal

pub returns-clause-answer : goal.returns-clause-answer
unfolding next_state
returns-clause-answer g c =
    subst (λ (answer : Result State StepFault). IsAnswer (next_state c.args.setup.now c.args.seed c.args.state) answer) (sym c.step_told.ensures)
    (told_is_answer c.args.setup.now.max_mol _ _ c.stepped-made.result (c.max_mol-most.ensures.value ∙ ap (λ (draft : Draft). draft.max_mol) c.config.ensures.value) c.stepped-made.ensures)

pub returns-clause-fits : goal.returns-clause-fits
returns-clause-fits g c =
    answer_fits c.args.setup.now c.args.seed c.args.state c.config.ensures.sound c.requires.fits c.requires.further c.requires.room c.step_told.result (returns-clause-answer g c)

pub returns-clause-serials : goal.returns-clause-serials
returns-clause-serials g c =
    answer_rises c.args.setup.now c.args.seed c.args.state c.config.ensures.sound c.requires.fits c.requires.further c.step_told.result (returns-clause-answer g c)

pub returns-clause-no_way_crosses : goal.returns-clause-no_way_crosses
returns-clause-no_way_crosses g c = step_crosses_none c.args.setup.now c.args.seed c.args.state

pub returns-clause-ways_are_confined : goal.returns-clause-ways_are_confined
returns-clause-ways_are_confined g c =
    step_stays_in_boxes c.args.setup.now c.args.seed c.args.state c.config.ensures.sound c.requires.fits c.requires.further

pub returns-clause-products_stay : goal.returns-clause-products_stay
returns-clause-products_stay g c = λ box closed.
    lone_products_are_confined c.args.setup.now c.args.seed c.args.state box (boxed c.args.setup.now c.args.seed c.args.state c.config.ensures.sound c.requires.fits c.requires.further box closed)

pub returns-clause-pairs_stay : goal.returns-clause-pairs_stay
returns-clause-pairs_stay g c = λ box closed.
    pairs_are_confined c.args.setup.now c.args.seed c.args.state box (boxed c.args.setup.now c.args.seed c.args.state c.config.ensures.sound c.requires.fits c.requires.further box closed)

pub returns-clause-boxes_hold : goal.returns-clause-boxes_hold
returns-clause-boxes_hold g c =
    answer_holds c.args.setup.now c.args.seed c.args.state c.config.ensures.sound c.requires.fits c.requires.further c.step_told.result (returns-clause-answer g c)
