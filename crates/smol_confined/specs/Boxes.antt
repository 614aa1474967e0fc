-- Where the molecules of a state are, seen from a box.
use Rattle.std.specs.Prelude.{◌≡◌, ℕ, All, Contains}
use Rattle.smol_geom.specs.declared.cuboid.Cuboid.{Cuboid}
use Rattle.smol_types.specs.declared.state.Mol.{Mol}
use Rattle.smol_types.specs.declared.state.State.{State}
use Rattle.smol_meaning.specs.Box.{IsInside}

-- the molecule stands inside the box
abbrev pub StandsIn : Cuboid → Mol → Type 0
StandsIn box mol = IsInside box mol.place

-- the molecule of this serial is in the state, and it stands inside the box
pub record IsIn (box : Cuboid) (serial : ℕ) (state : State) : Type 0 where
  pub mol : Mol
  pub listed : Contains state.mols mol
  pub is : mol.serial ≡ serial
  pub stands : StandsIn box mol

-- if a molecule of this serial is in the state, it stands inside the box: it is inside, or it is gone
abbrev pub IsInOrGone : Cuboid → ℕ → State → Type 0
IsInOrGone box serial state = All (λ (mol : Mol). mol.serial ≡ serial → StandsIn box mol) state.mols
