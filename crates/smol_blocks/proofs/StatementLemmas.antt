-- The words of the code's tables are those of the definitions.
use Rattle.std.proofs.Common.{◌≡◌, ℕ, List, refl}
use Rattle.std.specs.List.{list_any}
use Rattle.std.specs.Str.{bytes_eq}
use Rattle.smol_blocks.specs.declared.statement.TheConstants.{PASSED_OVER, NOT_IN_PROFILE}
use Rattle.smol_blocks.specs.Statement.{passed_over_words, left_out_words}

pub passed_over_words_are_looked_for : (word : List ℕ) → list_any (λ name. bytes_eq word name.now) PASSED_OVER ≡ list_any (bytes_eq word) passed_over_words
passed_over_words_are_looked_for word = refl

pub left_out_words_are_looked_for : (word : List ℕ) → list_any (λ name. bytes_eq word name.now) NOT_IN_PROFILE ≡ list_any (bytes_eq word) left_out_words
left_out_words_are_looked_for word = refl
