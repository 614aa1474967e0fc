-- Commands that a configuration may have.
use Rattle.std.specs.Prelude.{◌≡◌, ℕ, ◌+◌, ◌<◌, ◌≤◌, pos, ◌<ℤ◌, ℤ, List, length, All, unsigned_abs}
use Rattle.smol_geom.specs.Axes.{IsWithin}
use Rattle.smol_types.specs.declared.wall.Wall.{Wall}
use Rattle.smol_types.specs.declared.command.When.{When}
use Rattle.smol_types.specs.declared.command.When.TheVariants as «when»
use Rattle.smol_types.specs.declared.command.Test.{Test}
use Rattle.smol_types.specs.declared.command.Test.TheVariants as test
use Rattle.smol_types.specs.declared.command.Act.{Act}
use Rattle.smol_types.specs.declared.command.Act.TheVariants as act
use Rattle.smol_types.specs.declared.command.Command.{Command}
use Rattle.smol_types.specs.Limits.{most_bins, most_molecules, most_steps, most_tests, farthest, farthest_micros, longest, latest, certain}
use Rattle.smol_types.specs.Walls.{AreBetween}

-- when commands may be due
abbrev pub IsWhen : When → Type 0
IsWhen «when».Before = Unit {0}
IsWhen «when».After = Unit {0}
IsWhen «when».Every = Unit {0}
IsWhen («when».Each m) = (0 < m) × (m ≤ most_steps)
IsWhen («when».AtTime t) = unsigned_abs t ≤ latest
IsWhen («when».Times on off dt) = (unsigned_abs on ≤ latest) × (unsigned_abs off ≤ latest) × (unsigned_abs dt ≤ latest) × (pos 0 <ℤ dt)
IsWhen («when».Steps on off m) = (on ≤ most_steps) × (off ≤ most_steps) × (0 < m) × (m ≤ most_steps)

-- numbers of species that there are
abbrev pub AreSpecies : ℕ → List ℕ → Type 0
AreSpecies species_count who = All (λ (species : ℕ). species < species_count) who

abbrev pub IsTest : ℕ → Test → Type 0
IsTest species_count (test.IfNo who) = AreSpecies species_count who
IsTest species_count (test.IfLess who n) = AreSpecies species_count who × (n ≤ most_molecules)
IsTest species_count (test.IfMore who n) = AreSpecies species_count who × (n ≤ most_molecules)

-- standard output, standard error or one of the files
abbrev pub IsOutlet : ℕ → ℕ → Type 0
IsOutlet output_count out = out < 2 + output_count

-- a range between two coordinates, in ticks
abbrev pub IsRange : ℤ → ℤ → Type 0
IsRange low high = (unsigned_abs low ≤ farthest) × (unsigned_abs high ≤ farthest) × (low <ℤ high)

-- so many parts of a range
abbrev pub AreBins : ℕ → Type 0
AreBins bins = (0 < bins) × (bins ≤ most_bins)

abbrev pub IsAct : ℕ → ℕ → ℕ → List Wall → Act → Type 0
IsAct species_count compartment_count output_count walls (act.CountHeader out) = IsOutlet output_count out
IsAct species_count compartment_count output_count walls (act.Count out) = IsOutlet output_count out
IsAct species_count compartment_count output_count walls (act.CountIn compartment out) =
    (compartment < compartment_count) × IsOutlet output_count out
IsAct species_count compartment_count output_count walls (act.List out) = IsOutlet output_count out
IsAct species_count compartment_count output_count walls (act.Positions who out) =
    AreSpecies species_count who × IsOutlet output_count out
IsAct species_count compartment_count output_count walls (act.CountSpace who axis low high bins out) =
    AreSpecies species_count who × (axis < 3) × IsRange low high × AreBins bins × IsOutlet output_count out
IsAct species_count compartment_count output_count walls (act.Moments who out) = AreSpecies species_count who × IsOutlet output_count out
IsAct species_count compartment_count output_count walls (act.MeanSquare who at out) =
    AreSpecies species_count who × IsWithin farthest_micros at × IsOutlet output_count out
IsAct species_count compartment_count output_count walls (act.Radial first second radius bins out) =
    (first < species_count) × (second < species_count) × (0 < radius) × (radius ≤ longest) × AreBins bins × IsOutlet output_count out
IsAct species_count compartment_count output_count walls (act.Echo out text) = IsOutlet output_count out
IsAct species_count compartment_count output_count walls (act.Kill who) = AreSpecies species_count who
IsAct species_count compartment_count output_count walls (act.KillProb who p) = AreSpecies species_count who × (p.0 ≤ certain)
IsAct species_count compartment_count output_count walls (act.Replace who to p) =
    AreSpecies species_count who × (to < species_count) × (p.0 ≤ certain)
IsAct species_count compartment_count output_count walls (act.PointSource species n place) =
    (species < species_count) × (n ≤ most_molecules) × (length place.0 ≡ 3) × AreBetween walls place.0
IsAct species_count compartment_count output_count walls act.Stop = Unit {0}

pub record IsCommand (species_count compartment_count output_count : ℕ) (walls : List Wall) (command : Command) : Type 0 where
  pub timing : IsWhen command.«when»
  pub test_count : length command.tests ≤ most_tests
  pub tests : All (IsTest species_count) command.tests
  pub does : IsAct species_count compartment_count output_count walls command.act
