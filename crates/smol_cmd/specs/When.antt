-- `WHEN ...`: when a command is due.
use Rattle.std.specs.Prelude.{ℕ, ◌+◌, ◌||◌, nat_le, nat_lt, List, [], ◌∷◌, length, Result, Ok, Err, if◌then◌else◌, codes}
use Rattle.std.specs.Str.{bytes_eq}
use Rattle.smol_text.specs.Reading.{Stated, words_of}
use Rattle.smol_types.specs.declared.command.When.{When}
use Rattle.smol_types.specs.declared.command.When.TheVariants as due
use Rattle.smol_types.specs.declared.fault.Kind.{Kind}
use Rattle.smol_types.specs.declared.fault.Kind.TheVariants.{BadTiming, WrongWordCount}
use Rattle.smol_types.specs.Limits.{most_steps}
use Rattle.smol_line.specs.Words.{word_at}
use Rattle.smol_line.specs.Checks.{unless, passing, with_value}
use Rattle.smol_line.specs.Numbers.{count_in}
use Rattle.smol_cmd.specs.declared.timing.Timing.{Timing}
use Rattle.smol_cmd.specs.declared.timing.Timing.TheVariants as timing
use Rattle.smol_cmd.specs.Times.{time_in, interval_in}

-- what the word WHEN says of the words behind it
unfoldable pub timing_in : List ℕ → Result Timing Kind
timing_in word =
    if bytes_eq word (codes "b")
    then Ok timing.Before
    else (if bytes_eq word (codes "a")
    then Ok timing.After
    else (if bytes_eq word (codes "e") || bytes_eq word (codes "E")
    then Ok timing.Every
    else (if bytes_eq word (codes "n") || bytes_eq word (codes "N")
    then Ok timing.Each
    else (if bytes_eq word (codes "@")
    then Ok timing.AtTime
    else (if bytes_eq word (codes "i")
    then Ok timing.Times
    else (if bytes_eq word (codes "j") then Ok timing.Steps else Err BadTiming))))))

-- how many words WHEN has, its first one included
abbrev pub timing_words : Timing → ℕ
timing_words timing.Before = 1
timing_words timing.After = 1
timing_words timing.Every = 1
timing_words timing.Each = 2
timing_words timing.AtTime = 2
timing_words timing.Times = 4
timing_words timing.Steps = 4

-- the number of a step
abbrev pub step_in : List ℕ → Result ℕ Kind
step_in word = count_in 0 most_steps word

-- how many steps there are from one to the next, which is above 0
abbrev pub stride_in : List ℕ → Result ℕ Kind
stride_in word = with_value (step_in word) (λ steps. passing (unless (nat_lt 0 steps) BadTiming ∷ []) (Ok steps))

-- when a command is due, by the words behind the first one of WHEN, which stand from word 2 of the line on
unfoldable pub due_in : Timing → Stated → Result When Kind
due_in timing.Before line = Ok due.Before
due_in timing.After line = Ok due.After
due_in timing.Every line = Ok due.Every
due_in timing.Each line = with_value (stride_in (word_at line 2)) (λ m. Ok (due.Each m))
due_in timing.AtTime line = with_value (time_in (word_at line 2)) (λ t. Ok (due.AtTime t))
due_in timing.Times line =
    with_value (time_in (word_at line 2)) (λ on.
    with_value (time_in (word_at line 3)) (λ off.
    with_value (interval_in (word_at line 4)) (λ dt.
    Ok (due.Times on off dt))))
due_in timing.Steps line =
    with_value (step_in (word_at line 2)) (λ on.
    with_value (step_in (word_at line 3)) (λ off.
    with_value (stride_in (word_at line 4)) (λ m.
    Ok (due.Steps on off m))))

-- when the command of a line is due, and at which word it stands. The word WHEN is word 1
unfoldable pub when_in : Stated → Result (When × ℕ) Kind
when_in line =
    passing (unless (nat_le 2 (length (words_of line))) WrongWordCount ∷ [])
    (with_value (timing_in (word_at line 1)) (λ timing.
    passing (unless (nat_le (1 + timing_words timing) (length (words_of line))) WrongWordCount ∷ [])
    (with_value (due_in timing line) (λ due.
    Ok (due, 1 + timing_words timing)))))
