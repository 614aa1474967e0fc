-- Who meets whom in a step.
use Rattle.std.specs.Prelude.{◌≡◌, ℕ, ◌<◌, true, List, length, Some, slice_get}
use Rattle.smol_types.specs.declared.draft.Draft.{Draft}
use Rattle.smol_types.specs.declared.state.Mol.{Mol}
use Rattle.smol_meaning.specs.Encounters.{Encounter}
use Rattle.smol_meaning.specs.Events.{is_free}

-- two free molecules of the list at their ranks, the first before the second, and a reaction that there is
pub record IsEncounter (draft : Draft) (seed k : ℕ) (mols : List Mol) (e : Encounter) : Type 0 where
  pub first : slice_get mols e.rank_a ≡ Some e.a
  pub second : slice_get mols e.rank_b ≡ Some e.b
  pub apart : e.rank_a < e.rank_b
  pub first_free : is_free draft seed k e.a ≡ true
  pub second_free : is_free draft seed k e.b ≡ true
  pub reaction : e.reaction < length draft.reactions
