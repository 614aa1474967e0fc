-- What starts inside a closed reflecting box arrives inside it, or nowhere.
use Rattle.std.proofs.Common.{ℕ, ◌+◌, All, get_or}
use Rattle.std.specs.Prelude.{IfSome, map}
use Rattle.smol_geom.specs.declared.cuboid.Cuboid.{Cuboid}
use Rattle.smol_types.specs.declared.draft.Draft.{Draft}
use Rattle.smol_types.specs.declared.state.Mol.{Mol}
use Rattle.smol_types.specs.declared.state.State.{State}
use Rattle.smol_types.specs.Sound.{IsSound}
use Rattle.smol_meaning.specs.declared.way.Travelled.{Travelled}
use Rattle.smol_meaning.specs.declared.way.Travelled.TheVariants.{At, Absorbed}
use Rattle.smol_meaning.specs.Box.{EndsInside, IsInside}
use Rattle.smol_meaning.specs.Motion.{Move, arrived, diffusion, end_of_move}
use Rattle.smol_meaning.specs.Placed.{IsMoveOf}
use Rattle.smol_meaning.specs.Seen.{IsClosedBox}
use Rattle.smol_meaning.specs.Step.{moves_of}
use Rattle.smol_meaning.proofs.Going.{stays_in_boxes}
use Rattle.smol_meaning.proofs.Stepping.{moves_are}
use Rattle.smol_confined.specs.Boxes.{StandsIn}
use Rattle.smol_confined.specs.Laws.{IsBoxedStep, MotionIsConfined}
use Rattle.smol_confined.proofs.Parts.{All-from_map, All-front}

arrives_in : (box : Cuboid) (mol : Mol) (end : Travelled) → EndsInside box end → IfSome (arrived mol end) (StandsIn box)
arrives_in box mol (At place species) inside = inside
arrives_in box mol (Absorbed number) inside = tt

-- at the end of a way that starts inside, a molecule is inside
pub goes_in : (draft : Draft) → IsSound draft → (box : Cuboid) → IsClosedBox draft box → (mol : Mol) (move : Move) → IsMoveOf draft move → IsInside box move.from
    → IfSome (arrived mol (end_of_move draft move)) (StandsIn box)
goes_in draft sound box closed mol move is inside =
    arrives_in box mol (end_of_move draft move) (stays_in_boxes draft sound move is box closed inside).end

-- the motions among the ways of a step
pub motions_of : (draft : Draft) (seed : ℕ) (state : State) → All (IsMoveOf draft) (moves_of draft seed state)
    → All (λ (mol : Mol). IsMoveOf draft (diffusion draft seed (state.step + 1) mol)) state.mols
unfolding moves_of
motions_of draft seed state are =
    All-from_map (IsMoveOf draft) (diffusion draft seed (state.step + 1)) state.mols
    (All-front (IsMoveOf draft) (map (diffusion draft seed (state.step + 1)) state.mols) _ are)

-- no molecule leaves the box by its motion
pub motion_is_confined : (draft : Draft) (seed : ℕ) (state : State) (box : Cuboid) → IsBoxedStep draft state box → MotionIsConfined draft seed state box
motion_is_confined draft seed state box step = λ i d within inside.
    goes_in draft step.sound box step.closed (get_or state.mols i d) (diffusion draft seed (state.step + 1) (get_or state.mols i d))
    (motions_of draft seed state (moves_are draft seed state step.sound step.fits step.left) i d within) inside
