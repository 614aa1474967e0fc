-- Molecules that were moved where they stand.
use Rattle.std.specs.Prelude.{◌≡◌, ℕ, ◌≤◌, List, Option, length, map, take}
use Rattle.smol_types.specs.declared.draft.Draft.{Draft}
use Rattle.smol_types.specs.declared.state.Mol.{Mol}
use Rattle.smol_meaning.specs.Events.{lone_reaction}
use Rattle.smol_meaning.specs.Motion.{all_diffused}

-- so many molecules are left after the motion of step k. They stand at the front in their order, and beside each the reaction
-- that it makes alone
pub record AreDiffused (draft : Draft) (seed k : ℕ) (before after : List Mol) (reactions : List (Option ℕ)) (left : ℕ) : Type 0 where
  pub moved : take left after ≡ all_diffused draft seed k before
  pub chosen : take left reactions ≡ map (lone_reaction draft seed k) (all_diffused draft seed k before)
  pub within : left ≤ length before
  pub count : length after ≡ length before
  pub beside : length reactions ≡ length before
