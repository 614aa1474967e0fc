-- The tests before a command, one after another.
use Rattle.std.proofs.Common.{◌≡◌, ℕ, zero, suc, ◌+◌, ◌<◌, ◌≤◌, Bool, true, false, nat_lt, List, [], ◌∷◌, ◌++◌, length, None, Some, Result, Ok, Err, refl, sym, ap, ◌∙◌, arith, append_assoc}
use Rattle.std.proofs.lemmas.Bool.{lt-ltb, le-ltb}
use Rattle.std.proofs.lemmas.Bool.Decides.{nat_tests}
use Rattle.smol_text.specs.Reading.{Stated, words_of}
use Rattle.smol_types.specs.declared.command.Act.{Act}
use Rattle.smol_types.specs.declared.command.Test.{Test}
use Rattle.smol_types.specs.declared.fault.Kind.{Kind}
use Rattle.smol_types.specs.declared.fault.Kind.TheVariants.{WrongWordCount}
use Rattle.smol_line.specs.declared.refusal.Refusal.{Refusal}
use Rattle.smol_line.specs.declared.refusal.Refusal.TheVariants.{At, OutOfMemory}
use Rattle.smol_line.specs.Answers.{Answers}
use Rattle.smol_line.specs.Checks.{unless, passing, with_value}
use Rattle.smol_line.specs.Words.{word_at}
use Rattle.smol_cmd.specs.declared.condition.Condition.{Condition}
use Rattle.smol_cmd.specs.Known.{Known}
use Rattle.smol_cmd.specs.Act.{act_in}
use Rattle.smol_cmd.specs.Test.{condition_in, condition_words, test_in}
use Rattle.smol_cmd.specs.Cmd.{behind_test, command_in, command_of}

-- tests before what comes of a COMMAND
abbrev pub with_tests : List Test → List Test × Act → Result (List Test × Act) Kind
with_tests tests inner = Ok (tests ++ inner.0, inner.1)

abbrev pub behind_tests : List Test → Result (List Test × Act) Kind → Result (List Test × Act) Kind
behind_tests tests rest = with_value rest (with_tests tests)

pub begun : (rest : Result (List Test × Act) Kind) → rest ≡ behind_tests [] rest
begun (Ok inner) = refl
begun (Err kind) = refl

-- a COMMAND that is there
there_is : (left : ℕ) (known : Known) (line : Stated) (at : ℕ) → at < length (words_of line) → command_in (suc left) known line at ≡ command_of (condition_in (word_at line at)) known line at (λ next. command_in left known line next)
there_is left known line at within =
    ap (λ (there : Bool). passing (unless there WrongWordCount ∷ []) (command_of (condition_in (word_at line at)) known line at (λ next. command_in left known line next)))
    (lt-ltb at (length (words_of line)) within)

-- no COMMAND is there
pub none_is : (left : ℕ) (known : Known) (line : Stated) (at : ℕ) → length (words_of line) ≤ at → command_in left known line at ≡ Err WrongWordCount
none_is zero known line at past = refl
none_is (suc left) known line at past =
    ap (λ (there : Bool). passing (unless there WrongWordCount ∷ []) (command_of (condition_in (word_at line at)) known line at (λ next. command_in left known line next)))
    (le-ltb at (length (words_of line)) past)

-- a COMMAND that is no test does this
pub act_is_last : (left : ℕ) (known : Known) (line : Stated) (at : ℕ) (tests : List Test) (act : Act) → at < length (words_of line) → condition_in (word_at line at) ≡ None → act_in known line at ≡ Ok act → behind_tests tests (command_in (suc left) known line at) ≡ Ok (tests ++ [], act)
act_is_last left known line at tests act within untested does =
    ap (behind_tests tests)
    (there_is left known line at within
    ∙ ap (λ condition. command_of condition known line at (λ next. command_in left known line next)) untested
    ∙ ap (λ act. with_value act (λ act. Ok ([], act))) does)

-- or has this fault
pub act_fails : (left : ℕ) (known : Known) (line : Stated) (at : ℕ) (tests : List Test) (kind : Kind) → at < length (words_of line) → condition_in (word_at line at) ≡ None → act_in known line at ≡ Err kind → behind_tests tests (command_in (suc left) known line at) ≡ Err kind
act_fails left known line at tests kind within untested fails =
    ap (behind_tests tests)
    (there_is left known line at within
    ∙ ap (λ condition. command_of condition known line at (λ next. command_in left known line next)) untested
    ∙ ap (λ act. with_value act (λ act. Ok ([], act))) fails)

-- a test has this fault
pub test_fails : (left : ℕ) (known : Known) (line : Stated) (at : ℕ) (tests : List Test) (condition : Condition) (kind : Kind) → at < length (words_of line) → condition_in (word_at line at) ≡ Some condition → test_in condition known.species line at ≡ Err kind → behind_tests tests (command_in (suc left) known line at) ≡ Err kind
test_fails left known line at tests condition kind within is fails =
    ap (behind_tests tests)
    (there_is left known line at within
    ∙ ap (λ condition. command_of condition known line at (λ next. command_in left known line next)) is
    ∙ ap (λ test. with_value test (λ test. with_value (command_in left known line (at + condition_words condition)) (behind_test test))) fails)

one_behind : (tests : List Test) (test : Test) (rest : Result (List Test × Act) Kind) → behind_tests tests (with_value rest (behind_test test)) ≡ behind_tests (tests ++ test ∷ []) rest
one_behind tests test (Ok inner) = ap (λ all. Ok (all, inner.1)) (sym (append_assoc tests (test ∷ []) inner.0))
one_behind tests test (Err kind) = refl

-- a test comes behind the tests before it
pub test_is_next : (left : ℕ) (known : Known) (line : Stated) (at : ℕ) (tests : List Test) (condition : Condition) (test : Test) → at < length (words_of line) → condition_in (word_at line at) ≡ Some condition → test_in condition known.species line at ≡ Ok test → behind_tests tests (command_in (suc left) known line at) ≡ behind_tests (tests ++ test ∷ []) (command_in left known line (at + condition_words condition))
test_is_next left known line at tests condition test within is does =
    ap (behind_tests tests)
    (there_is left known line at within
    ∙ ap (λ condition. command_of condition known line at (λ next. command_in left known line next)) is
    ∙ ap (λ test. with_value test (λ test. with_value (command_in left known line (at + condition_words condition)) (behind_test test))) does)
    ∙ one_behind tests test (command_in left known line (at + condition_words condition))

-- what a test whether a COMMAND is there says
pub is_below : (at len count : ℕ) → nat_lt at len ≡ true → len ≡ count → at < count
is_below at len count test is = grind (arith, nat_tests)

pub is_past : (at len count : ℕ) (kind : Kind) → Some kind ≡ unless (nat_lt at len) WrongWordCount → len ≡ count → (count ≤ at) × (kind ≡ WrongWordCount)
is_past at len count kind fails is = by (nat_lt at len) refl fails
  where
    by : (test : Bool) → nat_lt at len ≡ test → Some kind ≡ unless test WrongWordCount → (count ≤ at) × (kind ≡ WrongWordCount)
    by true below fails = absurd (let no_fault : Some kind ≡ None = fails in cc)
    by false past fails = (grind (arith, nat_tests), cc)

-- what refuses a part refuses the whole
pub carried : {T U : Type 0} (rule : Result T Kind) (whole : Result U Kind) (refusal : Refusal) → ((kind : Kind) → rule ≡ Err kind → whole ≡ Err kind) → Answers rule (Err refusal) → Answers whole (Err refusal)
carried rule whole (At kind) fails is = fails kind is
carried rule whole OutOfMemory fails is = tt
