-- How a run ends, as it is told.
use Rattle.std.proofs.Common.{ℕ, ◌+◌, ◌≤◌, List, [], ◌∷◌, All, Option, Result, Err, arith, length}
use Rattle.std.proofs.lemmas.List.Elements.{All-cons, All-nil}
use Rattle.smol_edge.specs.Faults.{Tells}
use Rattle.smol_edge.specs.Outlets.{Written}
use Rattle.smol_types.specs.declared.draft.Draft.{Draft}
use Rattle.smol_types.specs.declared.species.Species.{Species}
use Rattle.smol_types.specs.declared.state.Mol.{Mol}
use Rattle.smol_types.specs.declared.state.State.{State}
use Rattle.smol_types.specs.Sound.{IsSound}
use Rattle.smol_types.specs.State.{Fits}
use Rattle.smol_meaning.specs.Lines.{counts_from, number_of}
use Rattle.smol_meaning.specs.Placement.{NoPlace}
use Rattle.smol_meaning.specs.Stretch.{Stretch}
use Rattle.smol_commands.proofs.SpeciesCounts.{count_is_small, length_counts}
use Rattle.smol_sweep.specs.declared.outcome.Outcome.TheVariants as outcome
use Rattle.smol_sweep.specs.Table.{IsAlike}
use Rattle.smol_loop.specs.declared.run_fault.RunFault.{RunFault}
use Rattle.smol_loop.specs.declared.run_fault.RunFault.TheVariants as fault
use Rattle.smol_loop.specs.EndOfRun.{counts_in}
use Rattle.smol_loop.specs.Simulation.{EndsAs, Prints}

-- a fault tells the same of a run, whatever the run was to give
pub ends_alike : (T U : Type 0) (run : Result Stretch NoPlace) (one : RunFault) → EndsAs {T = T} run (Err one) → EndsAs {T = U} run (Err one)
ends_alike T U run (fault.NoPlace line serial) ends = ends
ends_alike T U run (fault.TooManyMolecules step) ends = ends
ends_alike T U run fault.OutputFault ends = ends
ends_alike T U run fault.OutOfMemory ends = ends

pub prints_alike : (T U : Type 0) (run : Result Stretch NoPlace) (one : RunFault) (a b : Option Written)
    → Tells a b (Prints {T = T} run (Err one)) → Tells a b (Prints {T = U} run (Err one))
prints_alike T U run (fault.NoPlace line serial) a b prints = prints
prints_alike T U run (fault.TooManyMolecules step) a b prints = prints
prints_alike T U run fault.OutputFault a b prints = prints
prints_alike T U run fault.OutOfMemory a b prints = prints

few_counts : (mols : List Mol) (most number : ℕ) (species : List Species) → length mols ≤ most → All (λ (count : ℕ). count ≤ most) (counts_from mols number species)
few_counts mols most number [] few = All-nil (λ (count : ℕ). count ≤ most)
few_counts mols most number (one ∷ more) few =
    All-cons (λ (count : ℕ). count ≤ most) (number_of mols number) (counts_from mols (number + 1) more)
    (omega (arith, few, count_is_small mols number)) (few_counts mols most (number + 1) more few)

-- a state has a count of each species, and none above 1,000,000
pub counts_alike : (draft : Draft) (state : State) → IsSound draft → Fits draft state → IsAlike (length draft.species) (outcome.Ended (counts_in draft state))
counts_alike draft state sound fits =
    (length_counts state.mols 0 draft.species, few_counts state.mols 1000000 0 draft.species (let most = fits.count in omega (arith, most, sound.max_below)))
