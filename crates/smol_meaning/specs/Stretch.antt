-- Parts of a run, which follow one another.
use Rattle.std.specs.Prelude.{ℕ, List, [], ◌∷◌, ◌++◌}
use Rattle.smol_edge.specs.Outlets.{Piece}
use Rattle.smol_types.specs.declared.state.State.{State}
use Rattle.smol_meaning.specs.Motion.{Move}

-- how a part of a run ends: the run goes on, the phase is stopped, or the run is over since a step made too many molecules, which is
-- the step that is named
pub data Ending : Type 0 where
  GoesOn : Ending
  Stopped : Ending
  Over : (step : ℕ) → Ending

-- a part of a run: the states that it passes, the ways that molecules go in it, what is printed, its last state, and how it ends
pub record Stretch : Type 0 where
  pub states : List State
  pub moves : List Move
  pub pieces : List Piece
  pub last : State
  pub ending : Ending

-- nothing happens
abbrev pub idle : State → Stretch
idle state = record { states = []; moves = []; pieces = []; last = state; ending = GoesOn }

-- this is printed to an outlet
abbrev pub prints : State → ℕ → List ℕ → Stretch
prints state out text = record { states = []; moves = []; pieces = (out, text) ∷ []; last = state; ending = GoesOn }

-- the state becomes this one
abbrev pub becomes : State → Stretch
becomes state = record { states = state ∷ []; moves = []; pieces = []; last = state; ending = GoesOn }

-- the phase is stopped
abbrev pub stops : State → Stretch
stops state = record { states = []; moves = []; pieces = []; last = state; ending = Stopped }

-- the run is over: a step or a command at this state makes too many molecules
abbrev pub is_over : State → ℕ → Stretch
is_over state step = record { states = []; moves = []; pieces = []; last = state; ending = Over step }

-- one part behind another
abbrev pub joined : Stretch → Stretch → Stretch
joined first second = record {
  states = first.states ++ second.states;
  moves = first.moves ++ second.moves;
  pieces = first.pieces ++ second.pieces;
  last = second.last;
  ending = second.ending;
}

abbrev pub followed_if : Stretch → Ending → (State → Stretch) → Stretch
followed_if stretch GoesOn next = joined stretch (next stretch.last)
followed_if stretch Stopped next = stretch
followed_if stretch (Over step) next = stretch

-- a part of a run, and what follows from its last state where the run goes on
abbrev pub followed_by : Stretch → (State → Stretch) → Stretch
followed_by stretch next = followed_if stretch stretch.ending next

abbrev pub resumed_from : Ending → Ending
resumed_from GoesOn = GoesOn
resumed_from Stopped = GoesOn
resumed_from (Over step) = Over step

-- what stopped a phase doesn't keep the next one from beginning
abbrev pub resumed : Stretch → Stretch
resumed stretch = record stretch { ending = resumed_from stretch.ending }

-- a part of a run with its first state
abbrev pub from_state : State → Stretch → Stretch
from_state state stretch = record stretch { states = state ∷ stretch.states }
