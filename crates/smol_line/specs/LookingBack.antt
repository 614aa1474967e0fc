-- Looking back over what the lines before a line say. These stand nearest first.
use Rattle.std.specs.Prelude.{◌≡◌, List, [], ◌∷◌, Option, None, Some, Result, Ok, Err}
use Rattle.smol_types.specs.declared.fault.Kind.{Kind}
use Rattle.smol_line.specs.declared.refusal.Refusal.{Refusal}
use Rattle.smol_line.specs.declared.refusal.Refusal.TheVariants.{At, OutOfMemory}

-- what is said by a value, where there is one
abbrev pub say : {T S : Type 0} → (T → S) → Result T Kind → Result S Kind
say said (Ok value) = Ok (said value)
say said (Err kind) = Err kind

-- what is there in the first place, and else in the second
abbrev pub nearer : {T : Type 0} → Option T → Option T → Option T
nearer None older = older
nearer (Some value) older = Some value

-- what the nearest line before says of the matter
abbrev pub nearest : {S T : Type 0} → (S → Option T) → List S → Option T
nearest matter [] = None
nearest matter (said ∷ before) = nearer (matter said) (nearest matter before)

-- how the reading of a line ends, where a table holds what the lines before say: the line is taken and the table holds
-- what it says too, or its fault is told, or memory ran out. This is no part of what a text means
abbrev pub Reads : {T S Table : Type 0} → (Table → List S → Type 0) → (List S → Result S Kind) → Table → Table
    → Result T Refusal → Type 0
Reads {S = S} Holds rule old new (Ok done) =
    (before : List S) → Holds old before → (said : S) × (rule before ≡ Ok said) × Holds new (said ∷ before)
Reads {S = S} Holds rule old new (Err (At kind)) = (before : List S) → Holds old before → rule before ≡ Err kind
Reads Holds rule old new (Err OutOfMemory) = Unit {0}
