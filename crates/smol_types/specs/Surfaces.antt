-- Surfaces that a configuration may have.
use Rattle.std.specs.Prelude.{◌≡◌, ℕ, ◌<◌, List, length, All, Option, IfSome}
use Rattle.smol_types.specs.declared.surface.Surface.{Surface}

-- what becomes of species, where anything does, is one of so many species
abbrev pub AreChanges : ℕ → List (Option ℕ) → Type 0
AreChanges count changes = All (λ (new : Option ℕ). IfSome new (λ species. species < count)) changes

-- each face has as many entries for what it makes of species as for what it does to them, and makes one of so many species of them
pub record IsSurface (species : ℕ) (surface : Surface) : Type 0 where
  pub front_count : length surface.front_new ≡ length surface.front
  pub back_count : length surface.back_new ≡ length surface.back
  pub front_new : AreChanges species surface.front_new
  pub back_new : AreChanges species surface.back_new
