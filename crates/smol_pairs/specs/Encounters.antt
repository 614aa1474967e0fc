-- Encounters by the ranks of their molecules.
use Rattle.std.specs.Prelude.{ℕ, ◌<◌, List, length, slice_get}
use Rattle.std.specs.Option.{option_map_or}
use Rattle.smol_plan.specs.declared.pair.Pair.{Pair}
use Rattle.smol_types.specs.declared.state.Mol.{Mol}
use Rattle.smol_meaning.specs.Encounters.{Encounter}
use Rattle.smol_pairs.specs.declared.encounter.Encounter.{Encounter as Ranks}

-- an encounter by the ranks of its molecules
abbrev pub ranks_of : Encounter → Ranks
ranks_of e = record { rank_a = e.rank_a; rank_b = e.rank_b; reaction = e.reaction }

-- two ranks of molecules of a list, the lower one first
pub record AreRanksIn (mols : List Mol) (ranks : Ranks) : Type 0 where
  pub apart : ranks.rank_a < ranks.rank_b
  pub within : ranks.rank_b < length mols

-- the serial of the molecule at a rank
abbrev pub serial_at : List Mol → ℕ → ℕ
serial_at mols rank = option_map_or (λ (mol : Mol). mol.serial) (slice_get mols rank) 0

-- the pair of serials that stand at these ranks
abbrev pub pair_at : List Mol → Ranks → Pair
pair_at mols ranks = record { a = serial_at mols ranks.rank_a; b = serial_at mols ranks.rank_b; reaction = ranks.reaction }
