-- What a call answers by what its parts answered.
use Rattle.std.proofs.Common.{◌≡◌, ℕ, List, [], ◌++◌, Result, Ok, Err, refl, sym, ap, ◌∙◌, subst, append_assoc}
use Rattle.std.proofs.lemmas.List.{append-nil}
use Rattle.smol_macro.specs.declared.expand_fault.ExpandFault.{ExpandFault}
use Rattle.smol_macro.specs.declared.expand_fault.ExpandFault.TheVariants.{At, ReadFault, OutOfMemory}
use Rattle.smol_macro.specs.Refusal.{Refusal, RefusesLine}
use Rattle.smol_macro.specs.Files.{IsFront}
use Rattle.smol_macro.specs.Expanding.{go_on}
use Rattle.smol_macro.specs.Including.{Progress, Outcome, met_behind, files_in}
use Rattle.smol_macro.specs.Walking.{Reaches}
use Rattle.smol_macro.proofs.Behind.{Grows}

-- a front of a front
pub IsFront-then : (a b c : List (List ℕ)) → IsFront a b → IsFront b c → IsFront a c
IsFront-then a b c first second = record {
  rest = first.rest ++ second.rest;
  is_front = second.is_front ∙ ap (λ t. t ++ second.rest) first.is_front ∙ append_assoc a first.rest second.rest;
}

pub IsFront-same : (a : List (List ℕ)) → IsFront a a
IsFront-same a = record { rest = []; is_front = sym (append-nil a) }

pub IsFront-append : (a b : List (List ℕ)) → IsFront a (a ++ b)
IsFront-append a b = record { rest = b; is_front = refl }

-- the files of an outcome stay where it is gone on from
pub grows_on : (outcome : Outcome) (on : Progress → Outcome) → Grows on → IsFront (files_in outcome) (files_in (go_on outcome on))
grows_on (Ok progress) on grows = grows progress
grows_on (Err stopped) on grows = IsFront-same stopped.files

-- a fault of a part is that of the whole
pub fault_on : (fault : ExpandFault) (outcome : Outcome) (on : Progress → Outcome) (end last : Progress) (asked : List (List ℕ)) → Grows on → Reaches (Err fault) outcome end asked → Reaches (Err fault) (go_on outcome on) last asked
fault_on (At line kind) outcome on end last asked grows reached = ap (λ o. go_on o on) reached
fault_on ReadFault outcome on end last asked grows reached = IsFront-then asked (files_in outcome) (files_in (go_on outcome on)) reached (grows_on outcome on grows)
fault_on OutOfMemory outcome on end last asked grows reached = IsFront-then asked (files_in outcome) (files_in (go_on outcome on)) reached (grows_on outcome on grows)

-- as is a refusal of a line, behind which nothing was read
pub grows_met : {T : Type 0} (files : List (List ℕ)) (outcome : Result T Refusal) (on : T → Outcome) → ((x : T) → IsFront files (files_in (on x))) → IsFront files (files_in (go_on (met_behind files outcome) on))
grows_met files (Ok x) on grows = grows x
grows_met files (Err refusal) on grows = IsFront-same files

pub refusal_on : {T : Type 0} (fault : ExpandFault) (files : List (List ℕ)) (outcome : Result T Refusal) (on : T → Outcome) (last : Progress) → ((x : T) → IsFront files (files_in (on x))) → RefusesLine fault outcome → Reaches (Err fault) (go_on (met_behind files outcome) on) last files
refusal_on (At line kind) files outcome on last grows refused = ap (λ o. go_on (met_behind files o) on) refused
refusal_on ReadFault files outcome on last grows refused = absurd refused
refusal_on OutOfMemory files outcome on last grows refused = grows_met files outcome on grows

-- an outcome that is another one reaches what that one reaches
pub Reaches-same : (result : Result (Unit {0}) ExpandFault) (outcome other : Outcome) (end last : Progress) (asked : List (List ℕ)) → outcome ≡ other → end ≡ last → Reaches result outcome end asked → Reaches result other last asked
Reaches-same result outcome other end last asked same same_end reached =
    subst (λ o. Reaches result o last asked) same (subst (λ e. Reaches result outcome e asked) same_end reached)
