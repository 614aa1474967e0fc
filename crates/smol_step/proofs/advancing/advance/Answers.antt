use Rattle.std.proofs.Common.{ℕ, subst}
use Rattle.std.specs.Prelude.{IfOk}
use Rattle.smol_geom.specs.declared.cuboid.Cuboid.{Cuboid}
use Rattle.smol_types.specs.declared.draft.Draft.{Draft}
use Rattle.smol_types.specs.declared.state.State.{State}
use Rattle.smol_meaning.specs.Seen.{IsClosedBox}
use Rattle.smol_meaning.proofs.Going.{step_crosses_none, step_stays_in_boxes}
use Rattle.smol_confined.specs.Boxes.{IsIn, IsInOrGone}
use Rattle.smol_confined.proofs.Making.{lone_products_are_confined}
use Rattle.smol_confined.proofs.Pairing.{pairs_are_confined}
use Rattle.smol_step.proofs.Answered.{boxed}
use Rattle.smol_step.proofs.advancing.advance.Goals as goal

pub returns-in-Ok-clause-ways_are_confined : goal.returns-in-Ok-clause-ways_are_confined
returns-in-Ok-clause-ways_are_confined g c = step_stays_in_boxes c.args.config.now c.args.seed c.args.state c.of.ensures.sound c.requires.fits c.requires.further

pub returns-in-Ok-clause-boxes_hold : goal.returns-in-Ok-clause-boxes_hold
returns-in-Ok-clause-boxes_hold g c =
    subst
    (λ (draft : Draft). IfOk c.advance_with.result (λ (after : State). (box : Cuboid) (serial : ℕ) → IsClosedBox draft box → IsIn box serial c.args.state → IsInOrGone box serial after))
    c.in-Ok.ensures.of c.advance_with.ensures.boxes_hold

pub returns-in-Ok-clause-pairs_stay : goal.returns-in-Ok-clause-pairs_stay
returns-in-Ok-clause-pairs_stay g c = λ box closed.
    pairs_are_confined c.args.config.now c.args.seed c.args.state box (boxed c.args.config.now c.args.seed c.args.state c.of.ensures.sound c.requires.fits c.requires.further box closed)

pub returns-in-Err-clause-no_way_crosses : goal.returns-in-Err-clause-no_way_crosses
returns-in-Err-clause-no_way_crosses g c = step_crosses_none c.args.config.now c.args.seed c.args.state

pub returns-in-Err-clause-ways_are_confined : goal.returns-in-Err-clause-ways_are_confined
returns-in-Err-clause-ways_are_confined g c = step_stays_in_boxes c.args.config.now c.args.seed c.args.state c.of.ensures.sound c.requires.fits c.requires.further

pub returns-in-Err-clause-products_stay : goal.returns-in-Err-clause-products_stay
returns-in-Err-clause-products_stay g c = λ box closed.
    lone_products_are_confined c.args.config.now c.args.seed c.args.state box (boxed c.args.config.now c.args.seed c.args.state c.of.ensures.sound c.requires.fits c.requires.further box closed)

pub returns-in-Err-clause-pairs_stay : goal.returns-in-Err-clause-pairs_stay
returns-in-Err-clause-pairs_stay g c = λ box closed.
    pairs_are_confined c.args.config.now c.args.seed c.args.state box (boxed c.args.config.now c.args.seed c.args.state c.of.ensures.sound c.requires.fits c.requires.further box closed)
