-- Names of output files: their bytes are text, and there are no more of them than there may be.
use Rattle.std.proofs.Common.{◌≡◌, ℕ, ◌+◌, ◌<◌, ◌≤◌, true, List, [], ◌∷◌, ◌++◌, length, Ok, nat_le, arith, subst, length-append}
use Rattle.std.proofs.lemmas.Bool.Decides.{nat_tests}
use Rattle.std.specs.List.{list_all}
use Rattle.std.specs.Str.{IsAscii, IsUtf8}
use Rattle.std.proofs.lemmas.Str.{IsUtf8-from_ascii}
use Rattle.std.proofs.lemmas.Str.Ascii.{IsAscii-nil, IsAscii-cons}
use Rattle.smol_text.specs.Reading.{Stated, words_of}
use Rattle.smol_types.specs.declared.fault.Kind.TheVariants.{TooMany, WrongWordCount}
use Rattle.smol_types.specs.Limits.{most_outputs}
use Rattle.smol_line.specs.Checks.{unless}
use Rattle.smol_line.specs.Names.{names_fault}
use Rattle.smol_line.proofs.Passing.{passed, held, same_value, both}
use Rattle.smol_cmd.specs.OutputFiles.{given_names, is_plain, output_fault, output_files_in}

plain_is_ascii : (byte : ℕ) → is_plain byte ≡ true → byte < 128
plain_is_ascii byte plain = grind (arith, nat_tests)

all_are_ascii : (word : List ℕ) → list_all is_plain word ≡ true → IsAscii word
all_are_ascii [] all = IsAscii-nil
all_are_ascii (byte ∷ bytes) all =
    let parts = both (is_plain byte) (list_all is_plain bytes) all in
    IsAscii-cons byte bytes (plain_is_ascii byte parts.0) (all_are_ascii bytes parts.1)

-- the bytes of a word that is plain are text
pub plain_is_text : (word : List ℕ) → list_all is_plain word ≡ true → IsUtf8 word
plain_is_text word plain = IsUtf8-from_ascii word (all_are_ascii word plain)

-- names that a line gives leave no more files than there may be
pub files_are_few : (outputs : List (List ℕ)) (line : Stated) (more : List (List ℕ)) → output_files_in outputs line ≡ Ok more → length (outputs ++ more) ≤ most_outputs
unfolding output_files_in
files_are_few outputs line more is =
    let two = passed (unless (nat_le 2 (length (words_of line))) WrongWordCount) _ _ more is in
    let new = passed (names_fault output_fault outputs (given_names line)) _ _ more two.1 in
    let few = held (nat_le (length outputs + length (given_names line)) most_outputs) TooMany [] _ more new.1 in
    let test = few.0 in
    let size : length outputs + length (given_names line) ≤ most_outputs = grind (arith, nat_tests) in
    let both = length-append outputs (given_names line) in
    subst (λ (more : List (List ℕ)). length (outputs ++ more) ≤ most_outputs) (same_value (given_names line) more few.1) (omega (arith, both))
