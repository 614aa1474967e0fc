use Rattle.std.proofs.Common.{ap, ◌∙◌, ℕ, List}
use Rattle.rand_chacha.specs.ChaCha.{ChaCha, word_at}
use Rattle.smol_streams.specs.Words.{key_of_seed, word_under}
use Rattle.smol_streams.proofs.streams.Streams.word.Goals as goal

pub returns-clause-value : goal.returns-clause-value
unfolding word_under
returns-clause-value c =
    let key = c.self.invariant ∙ ap key_of_seed c.self.view_is in
    ap (λ (p : _). p.0) c.next_word.ensures ∙ ap (λ (g : ChaCha). word_at 4 g.key g.stream g.word_pos) c.bring.ensures
    ∙ ap (λ (k : List ℕ). word_at 4 k c.args.stream c.args.place) key
