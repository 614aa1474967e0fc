-- How the reading of a line that takes memory ends. This is no part of what a text means.
use Rattle.std.specs.Prelude.{◌≡◌, Result, Ok, Err}
use Rattle.smol_types.specs.declared.fault.Kind.{Kind}
use Rattle.smol_line.specs.declared.refusal.Refusal.{Refusal}
use Rattle.smol_line.specs.declared.refusal.Refusal.TheVariants.{At, OutOfMemory}

-- the value of a rule is answered, or its fault told, unless memory runs out
abbrev pub Answers : {T : Type 0} → Result T Kind → Result T Refusal → Type 0
Answers rule (Ok value) = rule ≡ Ok value
Answers rule (Err (At kind)) = rule ≡ Err kind
Answers rule (Err OutOfMemory) = Unit {0}
