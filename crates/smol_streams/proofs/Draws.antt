-- What the next word of a generator is, and what it adds to a sum of draws.
use Rattle.std.proofs.Common.{◌≡◌, ℕ, ◌+◌, ◌%◌, ◌^◌, ◌<◌, ◌≤◌, List, sum, flat_map, ◌∙◌, ap, arith}
use Rattle.std.proofs.lemmas.Grind.{common_steps}
use Rattle.rand_chacha.specs.ChaCha.{ChaCha, word_at, next_word}
use Rattle.smol_streams.specs.Displacement.{draws_of, words_from}
use Rattle.smol_streams.specs.Generator.{moved}
use Rattle.smol_streams.specs.Words.{word_under}

-- a generator that stands n words behind a place draws the word there, and stands at the next place
pub drawn : (g h new : ChaCha) (word stream place n : ℕ) → place + 6 ≤ 2 ^ 68 → n < 6
    → h ≡ moved g stream ((place + n) % 2 ^ 68) → (word, new) ≡ next_word 4 h
    → (word ≡ word_under g.key stream (place + n)) × (new ≡ moved g stream ((place + (n + 1)) % 2 ^ 68))
unfolding word_under
drawn g h new word stream place n room more stands step =
    let here : (place + n) % 2 ^ 68 ≡ place + n = omega arith in
    let next : ((place + n) % 2 ^ 68 + 1) % 2 ^ 68 ≡ (place + (n + 1)) % 2 ^ 68 = omega arith in (
      ap (λ (p : ℕ × ChaCha). p.0) step ∙ ap (λ (c : ChaCha). word_at 4 c.key c.stream c.word_pos) stands
          ∙ ap (λ (k : ℕ). word_at 4 g.key stream k) here,
      ap (λ (p : ℕ × ChaCha). p.1) step ∙ ap (λ (c : ChaCha). (next_word 4 c).1) stands ∙ ap (λ (k : ℕ). moved g stream k) next,
    )

-- one word more adds its two draws
pub more_draws : (key : List ℕ) (stream place n total word added : ℕ) → total ≡ sum (flat_map draws_of (words_from key stream place n))
    → word ≡ word_under key stream (place + n) → added ≡ sum (draws_of word)
    → total + added ≡ sum (flat_map draws_of (words_from key stream place (n + 1)))
more_draws key stream place n total word added so_far is_word is_added = grind (arith, common_steps)
