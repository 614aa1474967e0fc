-- How a part of a run is made: what it needs, how it ends, what outlets are given in it, and what becomes of their count of faults.
use Rattle.std.specs.Prelude.{◌≡◌, ℕ, ◌+◌, List, [], ◌∷◌, length, replicate, Option, Result, Ok, Err, OnOk}
use Rattle.smol_edge.specs.Faults.{Rose, Tells}
use Rattle.smol_edge.specs.Outlets.{Piece, Written, Appends, AppendsFrontOf}
use Rattle.smol_types.specs.declared.command.Phase.TheVariants as phase
use Rattle.smol_types.specs.declared.draft.Draft.{Draft}
use Rattle.smol_types.specs.declared.state.State.{State}
use Rattle.smol_types.specs.Sound.{IsSound}
use Rattle.smol_types.specs.State.{Fits}
use Rattle.smol_meaning.specs.Run.{phase_of, step_of, steps_from, steps_of}
use Rattle.smol_meaning.specs.Stretch.{Over, Stretch, followed_by}
use Rattle.smol_commands.specs.declared.flow.Flow.{Flow}
use Rattle.smol_commands.specs.Performs.{ending_of}
use Rattle.smol_loop.specs.declared.held.Held.{Held}
use Rattle.smol_loop.specs.declared.run_fault.RunFault.{RunFault}
use Rattle.smol_loop.specs.declared.run_fault.RunFault.TheVariants as fault

-- what a part of a run needs: a state that fits, the words of the seed, blank pages, and the files of the draft opened
pub record IsReady (draft : Draft) (seed opened : ℕ) (held : Held) : Type 0 where
  pub sound : IsSound draft
  pub fits : Fits draft held.state
  pub words : held.streams ≡ seed
  pub blank : held.pages ≡ replicate (2 + length draft.outputs) []
  pub files : opened ≡ length draft.outputs

-- the state is the last one of a part, and the part ends so. Of a part that a failing write or want of memory cut off nothing is told
abbrev pub EndsPart : Stretch → State → Result Flow RunFault → Type 0
EndsPart part state (Ok flow) = (state ≡ part.last) × (part.ending ≡ ending_of flow)
EndsPart part state (Err (fault.NoPlace line serial)) = ⊥
EndsPart part state (Err (fault.TooManyMolecules step)) = part.ending ≡ Over step
EndsPart part state (Err fault.OutputFault) = Unit {0}
EndsPart part state (Err fault.OutOfMemory) = Unit {0}

-- outlets are given all pieces of a part, and a front of them where it was cut off
abbrev pub GivesPart : {T : Type 0} → List Piece → Result T RunFault → Written → Written → Type 0
GivesPart pieces (Ok done) = Appends pieces
GivesPart pieces (Err (fault.NoPlace line serial)) = Appends pieces
GivesPart pieces (Err (fault.TooManyMolecules step)) = Appends pieces
GivesPart pieces (Err fault.OutputFault) = AppendsFrontOf pieces
GivesPart pieces (Err fault.OutOfMemory) = AppendsFrontOf pieces

-- the count of faults rose where a write failed, and stays otherwise
abbrev pub CountsFault : {T : Type 0} → Result T RunFault → ℕ → ℕ → Type 0
CountsFault (Ok done) before after = after ≡ before
CountsFault (Err (fault.NoPlace line serial)) before after = after ≡ before
CountsFault (Err (fault.TooManyMolecules step)) before after = after ≡ before
CountsFault (Err fault.OutputFault) before after = Rose before after
CountsFault (Err fault.OutOfMemory) before after = after ≡ before

-- what a part of a run leaves: its last state with its ending, its pieces in what outlets tell, and their count of faults
pub record Leaves (part : Stretch) (result : Result Flow RunFault) (last : State) (told tells : Option Written) (before after : ℕ) : Type 0 where
  pub ended : EndsPart part last result
  pub given : Tells told tells (GivesPart part.pieces result)
  pub faults : CountsFault result before after

-- behind a part the words are those of the seed and the files are opened, and where it didn't fail all is there for the next part
pub record StaysReady (draft : Draft) (seed opened : ℕ) (result : Result Flow RunFault) (held : Held) : Type 0 where
  pub words : held.streams ≡ seed
  pub files : opened ≡ length draft.outputs
  pub next : OnOk result (IsReady draft seed opened held)

-- the commands that are due at a state, and the step after it
abbrev pub one_step : Draft → ℕ → State → Stretch
one_step draft seed state = followed_by (phase_of draft seed (phase.At state.step) state) (step_of draft seed)

-- the commands before the first step, and the steps
abbrev pub up_to_end : Draft → ℕ → State → Stretch
up_to_end draft seed opening = followed_by (phase_of draft seed phase.Before opening) (steps_from draft seed (steps_of draft))

-- pages with their outlets, of which the first has this number
abbrev pub on_pages : ℕ → List (List ℕ) → List Piece
on_pages outlet [] = []
on_pages outlet (page ∷ pages) = (outlet, page) ∷ on_pages (outlet + 1) pages
