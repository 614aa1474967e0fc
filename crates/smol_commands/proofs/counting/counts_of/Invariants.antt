use Rattle.std.proofs.Common.{◌≡◌, ◌<◌, ℕ, length, slice_index_or, take, vec_len}
use Rattle.smol_meaning.specs.Lines.{number_of}
use Rattle.smol_commands.proofs.counting.counts_of.Given as goal

-- each count is that of the molecules so far
abbrev pub invariant-loop-mol : goal.invariant-loop-mol
invariant-loop-mol l = record {
  species : vec_len l.counts ≡ length l.species;
  counted : (k : ℕ) → k < length l.species → slice_index_or l.counts.items k 0 ≡ number_of (take l.mol-index l.mols) k;
}
