-- How a simulation ends, and what outlets are given in it, by the run of its configuration.
use Rattle.std.specs.Prelude.{◌≡◌, List, [], Result, Ok, Err, IsOkAnd}
use Rattle.smol_edge.specs.Outlets.{Piece, Written, Appends, AppendsFrontOf}
use Rattle.smol_types.specs.declared.state.State.{State}
use Rattle.smol_meaning.specs.Placement.{NoPlace}
use Rattle.smol_meaning.specs.Stretch.{Ending, GoesOn, Stopped, Over, Stretch}
use Rattle.smol_loop.specs.declared.run_fault.RunFault.{RunFault}
use Rattle.smol_loop.specs.declared.run_fault.RunFault.TheVariants as fault

-- a run that isn't over came to its end
abbrev pub IsComplete : Ending → Type 0
IsComplete GoesOn = Unit {0}
IsComplete Stopped = Unit {0}
IsComplete (Over step) = ⊥

-- an answer tells how the run ends: it came to its end, it has no opening state, or it is over at a step. Of a run that a failing
-- write or want of memory cut off nothing is told
abbrev pub EndsAs : {T : Type 0} → Result Stretch NoPlace → Result T RunFault → Type 0
EndsAs run (Ok done) = IsOkAnd run (λ (stretch : Stretch). IsComplete stretch.ending)
EndsAs run (Err (fault.NoPlace line serial)) = run ≡ Err (record { line = line; serial = serial })
EndsAs run (Err (fault.TooManyMolecules step)) = IsOkAnd run (λ (stretch : Stretch). stretch.ending ≡ Over step)
EndsAs run (Err fault.OutputFault) = Unit {0}
EndsAs run (Err fault.OutOfMemory) = Unit {0}

-- a run that begins ends in this state
abbrev pub EndsIn : Result Stretch NoPlace → State → Type 0
EndsIn run last = IsOkAnd run (λ (stretch : Stretch). stretch.last ≡ last)

-- what a run prints. One without an opening state prints nothing
abbrev pub pieces_of : Result Stretch NoPlace → List Piece
pieces_of (Ok stretch) = stretch.pieces
pieces_of (Err none) = []

-- what outlets are given of it: all of it, and a front of it where a failing write or want of memory cut it off
abbrev pub Prints : {T : Type 0} → Result Stretch NoPlace → Result T RunFault → Written → Written → Type 0
Prints run (Ok done) = Appends (pieces_of run)
Prints run (Err (fault.NoPlace line serial)) = Appends []
Prints run (Err (fault.TooManyMolecules step)) = Appends (pieces_of run)
Prints run (Err fault.OutputFault) = AppendsFrontOf (pieces_of run)
Prints run (Err fault.OutOfMemory) = AppendsFrontOf (pieces_of run)
