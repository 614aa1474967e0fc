-- How a line in a block is read, and a block as a whole. This is no part of what a text means.
use Rattle.std.specs.Prelude.{◌≡◌, ℕ, Bool, true, false, List, ◌∷◌, Result, Ok, Err}
use Rattle.smol_types.specs.declared.compartment.Compartment.{Compartment}
use Rattle.smol_types.specs.declared.fault.ConfigFault.{ConfigFault}
use Rattle.smol_types.specs.declared.fault.Kind.{Kind}
use Rattle.smol_line.specs.declared.refusal.Refusal.{Refusal}
use Rattle.smol_line.specs.declared.refusal.Refusal.TheVariants.{At, OutOfMemory}
use Rattle.smol_line.specs.Fault.{Fault, TellsFault}
use Rattle.smol_blocks.specs.BlockText.{InBlock, passes, says, ends}
use Rattle.smol_blocks.specs.Compartment.{CompartmentSaid, compartment_of}

-- the block stays open behind a line
abbrev pub stays_open : {S : Type 0} → InBlock S → Bool
stays_open passes = true
stays_open (says more) = true
stays_open ends = false

-- what the lines say so far, with one more
abbrev pub said_with : {S : Type 0} → InBlock S → List S → List S
said_with passes said = said
said_with (says more) said = more ∷ said
said_with ends said = said

-- how the reading of a line ends, where a table holds what the lines before say: the line is taken, the table holds what it says
-- too, and it is answered whether the block stays open; or its fault is told, or memory ran out
abbrev pub ReadsIn : {S Table : Type 0} → (Table → List S → Type 0) → (List S → Result (InBlock S) Kind) → Table → Table
    → Result Bool Refusal → Type 0
ReadsIn {S = S} Holds rule old new (Ok stays) =
    (said : List S) → Holds old said
    → (one : InBlock S) × (rule said ≡ Ok one) × (stays_open one ≡ stays) × Holds new (said_with one said)
ReadsIn {S = S} Holds rule old new (Err (At kind)) = (said : List S) → Holds old said → rule said ≡ Err kind
ReadsIn Holds rule old new (Err OutOfMemory) = Unit {0}

-- a table holds what the lines of a block say that was read to its end, and the index is that of the line behind it
abbrev pub HoldsBlock : {S Table : Type 0} → (Table → List S → Type 0) → Result (List S × ℕ) Fault → Table → ℕ → Type 0
HoldsBlock {S = S} Holds read table next = (said : List S) × (read ≡ Ok (said, next)) × Holds table said

-- a compartment holds what the lines of its block say
abbrev pub HoldsCompartment : Compartment → List CompartmentSaid → Type 0
HoldsCompartment compartment said = compartment ≡ compartment_of said

-- a draft and an index are answered, or the fault told, unless memory runs out
abbrev pub AnswersBlock : {T : Type 0} → Result (T × ℕ) Fault → Result (T × ℕ) ConfigFault → Type 0
AnswersBlock outcome (Ok answer) = outcome ≡ Ok answer
AnswersBlock outcome (Err fault) = TellsFault fault outcome
