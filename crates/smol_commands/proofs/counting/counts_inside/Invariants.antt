use Rattle.std.proofs.Common.{◌≡◌, ◌<◌, ℕ, length, slice_index_or, take, vec_len, filter}
use Rattle.smol_types.specs.declared.state.Mol.{Mol}
use Rattle.smol_meaning.specs.Inside.{is_inside}
use Rattle.smol_meaning.specs.Lines.{number_of}
use Rattle.smol_commands.proofs.counting.counts_inside.Given as goal

-- each count is that of the molecules so far that are inside
abbrev pub invariant-loop-mol : goal.invariant-loop-mol
invariant-loop-mol l = record {
  species : vec_len l.counts ≡ length l.config.species;
  counted : (k : ℕ) → k < length l.config.species → slice_index_or l.counts.items k 0 ≡ number_of (filter (λ (mol : Mol). is_inside l.config l.compartment mol.place) (take l.mol-index l.mols)) k;
}
