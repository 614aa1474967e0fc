-- What commands do.
use Rattle.std.specs.Prelude.{ℕ, zero, suc, ◌+◌, ◌*◌, ◌&&◌, ◌==◌, Bool, not, nat_eq, nat_lt, List, [], ◌∷◌, ◌++◌, length, if◌then◌else◌, count_by, filter, flat_map}
use Rattle.std.specs.List.{list_all, list_any}
use Rattle.smol_num.specs.declared.quantities.Threshold.{Threshold}
use Rattle.smol_geom.specs.declared.place.Place.{Place}
use Rattle.smol_types.specs.declared.draft.Draft.{Draft}
use Rattle.smol_types.specs.declared.command.Test.{Test}
use Rattle.smol_types.specs.declared.command.Test.TheVariants as test
use Rattle.smol_types.specs.declared.command.Act.{Act}
use Rattle.smol_types.specs.declared.command.Act.TheVariants as act
use Rattle.smol_types.specs.declared.command.Command.{Command}
use Rattle.smol_types.specs.declared.state.Mol.{Mol}
use Rattle.smol_types.specs.declared.state.State.{State}
use Rattle.smol_streams.specs.Chance.{command_word}
use Rattle.smol_meaning.specs.Inside.{is_inside}
use Rattle.smol_stats.specs.Bins.{bins_of}
use Rattle.smol_stats.specs.Radial.{radial_of}
use Rattle.smol_meaning.specs.Lines.{count_line, counts_from, header_line, mol_line, number_line, positions_line}
use Rattle.smol_meaning.specs.Statistics.{marks_of, mean_square_of, moments_of}
use Rattle.smol_meaning.specs.Stretch.{Stretch, becomes, idle, is_over, prints, stops}
use Rattle.smol_meaning.specs.Timing.{time_of}

-- whether a molecule is of one of these species
abbrev pub is_meant : List ℕ → Mol → Bool
is_meant who mol = list_any (nat_eq mol.species) who

abbrev pub number_meant : List ℕ → List Mol → ℕ
number_meant who mols = count_by (is_meant who) mols

-- whether a test holds of these molecules
abbrev pub holds_of : List Mol → Test → Bool
holds_of mols (test.IfNo who) = number_meant who mols == 0
holds_of mols (test.IfLess who n) = nat_lt (number_meant who mols) n
holds_of mols (test.IfMore who n) = nat_lt n (number_meant who mols)

-- the molecules that pass a test on their rank and themselves, from this rank on
abbrev pub filter_ranked : (ℕ → Mol → Bool) → ℕ → List Mol → List Mol
filter_ranked p rank [] = []
filter_ranked p rank (mol ∷ mols) = if p rank mol then mol ∷ filter_ranked p (rank + 1) mols else filter_ranked p (rank + 1) mols

-- what becomes of molecules by their rank, from this rank on
abbrev pub map_ranked : (ℕ → Mol → Mol) → ℕ → List Mol → List Mol
map_ranked f rank [] = []
map_ranked f rank (mol ∷ mols) = f rank mol ∷ map_ranked f (rank + 1) mols

-- whether command c hits the molecule of a rank at step k: it is meant, and its word is below the threshold
abbrev pub is_hit : ℕ → ℕ → ℕ → List ℕ → Threshold → ℕ → Mol → Bool
is_hit seed c k who p rank mol = is_meant who mol && nat_lt (command_word seed c k rank) p.0

-- the molecule as one of another species
abbrev pub turned_into : ℕ → Mol → Mol
turned_into species mol = record mol { species = species }

-- so many molecules of a species at a place, with serials from this one on
abbrev pub molecules_at : ℕ → ℕ → Place → ℕ → List Mol
molecules_at serial species place zero = []
molecules_at serial species place (suc n) =
    record { serial = serial; species = species; place = place } ∷ molecules_at (serial + 1) species place n

-- the state with these molecules
abbrev pub with_mols : State → List Mol → State
with_mols state mols = record state { mols = mols }

-- the state with so many molecules more at a place, which take the next serials
abbrev pub with_more : State → ℕ → Place → ℕ → State
with_more state species place n = record state { mols = state.mols ++ molecules_at state.next species place n; next = state.next + n }

-- what an act of command c does at a state. The random words that it draws are those of the state's step
unfoldable pub effect_of : Draft → ℕ → ℕ → State → Act → Stretch
effect_of draft seed c state (act.CountHeader out) = prints state out (header_line draft)
effect_of draft seed c state (act.Count out) =
    prints state out (count_line (time_of draft state.step) (counts_from state.mols 0 draft.species))
effect_of draft seed c state (act.CountIn compartment out) =
    prints state out (count_line (time_of draft state.step)
    (counts_from (filter (λ (mol : Mol). is_inside draft compartment mol.place) state.mols) 0 draft.species))
effect_of draft seed c state (act.List out) = prints state out (flat_map (mol_line draft) state.mols)
effect_of draft seed c state (act.Positions who out) =
    prints state out (positions_line draft (time_of draft state.step) (filter (is_meant who) state.mols))
effect_of draft seed c state (act.CountSpace who axis low high bins out) =
    prints state out (count_line (time_of draft state.step) (bins_of (marks_of (length draft.species) who) axis low high bins state.mols))
effect_of draft seed c state (act.Moments who out) =
    prints state out (number_line (time_of draft state.step) (moments_of draft.dims (marks_of (length draft.species) who) state.mols))
effect_of draft seed c state (act.MeanSquare who at out) =
    prints state out (number_line (time_of draft state.step) (mean_square_of draft.dims (marks_of (length draft.species) who) at state.mols))
effect_of draft seed c state (act.Radial first second radius bins out) =
    prints state out (count_line (time_of draft state.step) (radial_of first second (2 * radius) bins state.mols))
effect_of draft seed c state (act.Echo out text) = prints state out text
effect_of draft seed c state (act.Kill who) = becomes (with_mols state (filter (λ mol. not (is_meant who mol)) state.mols))
effect_of draft seed c state (act.KillProb who p) =
    becomes (with_mols state (filter_ranked (λ rank mol. not (is_hit seed c state.step who p rank mol)) 0 state.mols))
effect_of draft seed c state (act.Replace who to p) =
    becomes (with_mols state
    (map_ranked (λ rank mol. if is_hit seed c state.step who p rank mol then turned_into to mol else mol) 0 state.mols))
effect_of draft seed c state (act.PointSource species n place) =
    if nat_lt draft.max_mol (length state.mols + n)
    then is_over state state.step
    else becomes (with_more state species place n)
effect_of draft seed c state act.Stop = stops state

-- a command is performed where all tests before it hold
abbrev pub performed : Draft → ℕ → ℕ → State → Command → Stretch
performed draft seed c state command =
    if list_all (holds_of state.mols) command.tests then effect_of draft seed c state command.act else idle state
