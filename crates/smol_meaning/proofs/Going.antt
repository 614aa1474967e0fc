-- The ways of a step cross no face that reflects them, and stay in closed reflecting boxes.
use Rattle.std.proofs.Common.{ℕ, ◌+◌, ◌≤◌, All, get_or, length}
use Rattle.std.proofs.lemmas.Bool.{lt-ltb}
use Rattle.std.proofs.lemmas.List.Elements.{All-weaker}
use Rattle.smol_types.specs.declared.draft.Draft.{Draft}
use Rattle.smol_types.specs.declared.state.State.{State}
use Rattle.smol_types.specs.Sound.{IsSound}
use Rattle.smol_types.specs.State.{Fits}
use Rattle.smol_types.specs.Steps.{last_step}
use Rattle.smol_meaning.specs.Motion.{Move}
use Rattle.smol_meaning.specs.Placed.{IsMoveOf}
use Rattle.smol_meaning.specs.Seen.{is_species, plates_of}
use Rattle.smol_meaning.specs.Step.{moves_of}
use Rattle.smol_meaning.specs.Ways.{CrossesNoFace, StaysInBoxes}
use Rattle.smol_meaning.proofs.Confined.{confined}
use Rattle.smol_meaning.proofs.Crossings.{crosses_none}
use Rattle.smol_meaning.proofs.Seeing.{plates_fit}
use Rattle.smol_meaning.proofs.Stepping.{moves_are}

pub crosses_no_face : (draft : Draft) (move : Move) → CrossesNoFace draft move
crosses_no_face draft move = crosses_none (plates_of draft) move.species move.from move.by

pub stays_in_boxes : (draft : Draft) → IsSound draft → (move : Move) → IsMoveOf draft move → StaysInBoxes draft move
stays_in_boxes draft sound move is = λ box closed inside.
    confined draft.dims (plates_of draft) (is_species draft) box move.from move.by is.goes (plates_fit draft sound) closed move.species
    (lt-ltb move.species (length draft.species) is.species) inside

-- no way of a step crosses such a face
pub step_crosses_none : (draft : Draft) (seed : ℕ) (state : State) → All (CrossesNoFace draft) (moves_of draft seed state)
step_crosses_none draft seed state = λ i move within. crosses_no_face draft (get_or (moves_of draft seed state) i move)

-- each way of a step stays in the boxes in which it starts
pub step_stays_in_boxes : (draft : Draft) (seed : ℕ) (state : State) → IsSound draft → Fits draft state → state.step + 1 ≤ last_step draft.start draft.stop draft.step
    → All (StaysInBoxes draft) (moves_of draft seed state)
step_stays_in_boxes draft seed state sound fits more =
    All-weaker (IsMoveOf draft) (StaysInBoxes draft) (stays_in_boxes draft sound) (moves_of draft seed state) (moves_are draft seed state sound fits more)
