use Rattle.std.proofs.Common.{ap, ◌∙◌, ℕ, List, ◌++◌, replicate}
use Rattle.rand_chacha.specs.ChaCha.{ChaCha, key_of}
use Rattle.smol_streams.specs.Words.{key_of_seed}
use Rattle.smol_streams.proofs.streams.Streams.of_seed.Goals as goal

pub invariant_of-result : goal.invariant_of-result
unfolding key_of_seed
invariant_of-result c =
    ap (λ (g : ChaCha). g.key) c.from_seed.ensures
    ∙ ap (λ (bytes : List ℕ). key_of (bytes ++ replicate 24 0)) (c.copy_from_slice.ensures.after ∙ c.to_le_bytes.ensures)
