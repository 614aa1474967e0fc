-- When a state is one of a configuration's run.
use Rattle.std.specs.Prelude.{◌≡◌, ℕ, ◌+◌, ◌*◌, ◌<◌, ◌≤◌, List, [], ◌∷◌, length, All}
use Rattle.smol_types.specs.declared.draft.Draft.{Draft}
use Rattle.smol_types.specs.declared.state.Mol.{Mol}
use Rattle.smol_types.specs.declared.state.State.{State}
use Rattle.smol_types.specs.Coordinates.{AreCoordinates}
use Rattle.smol_types.specs.Limits.{farthest, last_serial}
use Rattle.smol_types.specs.Steps.{last_step}

-- serials ascend from at least this one, and stay below the next
abbrev pub Ascend : ℕ → ℕ → List Mol → Type 0
Ascend least next [] = least ≤ next
Ascend least next (mol ∷ mols) = (least ≤ mol.serial) × Ascend (mol.serial + 1) next mols

-- how far from the origin a molecule may have come after these steps, in ticks
abbrev pub reach : ℕ → ℕ
reach step = farthest + 15000000000 * step

pub record Fits (draft : Draft) (state : State) : Type 0 where
  pub serials : Ascend 0 state.next state.mols
  pub next : state.next ≤ last_serial
  pub species : All (λ (mol : Mol). mol.species < length draft.species) state.mols
  pub count : length state.mols ≤ draft.max_mol
  pub step : state.step ≤ last_step draft.start draft.stop draft.step
  pub axes : All (λ (mol : Mol). length mol.place.0 ≡ 3) state.mols
  pub places : All (λ (mol : Mol). AreCoordinates (reach state.step) draft.dims mol.place.0) state.mols
