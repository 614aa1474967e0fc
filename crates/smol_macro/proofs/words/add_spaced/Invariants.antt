use Rattle.std.proofs.Common.{◌≡◌, ◌++◌, length}
use Rattle.smol_text.specs.Lines.{words_in}
use Rattle.smol_macro.specs.Meanings.{spaced}
use Rattle.smol_macro.proofs.words.add_spaced.Given as goal

abbrev pub invariant-loop-word : goal.invariant-loop-word
invariant-loop-word l = l.text.items ++ spaced (words_in l.rest) ≡ l.fn.text.items ++ spaced (words_in l.fn.part)

abbrev pub decreases-loop-word : goal.decreases-loop-word
decreases-loop-word l = length l.rest
