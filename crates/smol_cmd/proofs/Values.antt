-- Words of a command with a value: what the value's range is.
use Rattle.std.proofs.Common.{◌≡◌, ◌+◌, ◌<◌, ◌≤◌, ℕ, zero, suc, ℤ, pos, ◌<ℤ◌, Bool, true, false, nat_le, nat_lt, int_lt, List, [], length, Option, None, Some, Result, Ok, Err, unsigned_abs, if◌then◌else◌, codes, position, refl, arith, subst}
use Rattle.std.specs.List.{range_with_len}
use Rattle.std.specs.Str.{bytes_eq}
use Rattle.std.proofs.lemmas.Bool.Decides.{nat_tests}
use Rattle.std.proofs.lemmas.Int.{ints}
use Rattle.std.proofs.lemmas.List.Elements.{All-nil, All-cons}
use Rattle.std.proofs.lemmas.List.Quantifiers.{position-Some}
use Rattle.smol_num.specs.declared.quantities.Threshold.{Threshold}
use Rattle.smol_text.specs.Reading.{Stated, words_of}
use Rattle.smol_types.specs.declared.command.When.{When}
use Rattle.smol_types.specs.declared.command.When.TheVariants as due
use Rattle.smol_types.specs.declared.fault.Kind.{Kind}
use Rattle.smol_types.specs.declared.fault.Kind.TheVariants.{BadTiming, UnknownOutlet, WrongWordCount}
use Rattle.smol_types.specs.Commands.{AreSpecies, IsOutlet, IsWhen}
use Rattle.smol_types.specs.Limits.{certain, latest, most_steps}
use Rattle.smol_line.specs.declared.species_word.Chosen.{Chosen}
use Rattle.smol_line.specs.Probability.{chance_in, threshold_of}
use Rattle.smol_line.specs.SpeciesWord.{chosen_in, one_chosen, species_word_in}
use Rattle.smol_line.specs.Words.{word_at}
use Rattle.smol_line.proofs.Passing.{valued, held, no_value, same_value}
use Rattle.smol_line.proofs.Ranges.{count_in-high, decimal_in-within, species_word_in-within, chance_in-within, threshold_of-within}
use Rattle.smol_cmd.specs.declared.timing.Timing.{Timing}
use Rattle.smol_cmd.specs.declared.timing.Timing.TheVariants as timing
use Rattle.smol_cmd.specs.Times.{earliest, interval_in, time_in}
use Rattle.smol_cmd.specs.When.{due_in, step_in, stride_in, timing_in, timing_words, when_in}
use Rattle.smol_cmd.specs.Who.{numbers_of, who_in}
use Rattle.smol_cmd.specs.Probability.{probability_in}
use Rattle.smol_cmd.specs.Outlet.{file_outlet, outlet_in}

-- a time is no further from 0 than there may be
time_small : (word : List ℕ) (time : ℤ) → time_in word ≡ Ok time → unsigned_abs time ≤ latest
time_small word time is =
    let range = decimal_in-within 9 earliest (pos latest) word time is in
    let low = range.0 in
    let high = range.1 in
    omega (arith, ints)

interval_small : (word : List ℕ) (time : ℤ) → interval_in word ≡ Ok time → (unsigned_abs time ≤ latest) × (pos 0 <ℤ time)
interval_small word time is =
    let found = valued (time_in word) _ time is in
    let above = held (int_lt (pos 0) found.0) BadTiming [] _ time found.2 in
    let test = above.0 in
    let some : pos 0 <ℤ found.0 = grind (arith, nat_tests) in
    subst (λ (time : ℤ). (unsigned_abs time ≤ latest) × (pos 0 <ℤ time)) (same_value found.0 time above.1) (time_small word found.0 found.1, some)

stride_small : (word : List ℕ) (steps : ℕ) → stride_in word ≡ Ok steps → (0 < steps) × (steps ≤ most_steps)
stride_small word steps is =
    let found = valued (step_in word) _ steps is in
    let above = held (nat_lt 0 found.0) BadTiming [] _ steps found.2 in
    let test = above.0 in
    let some : 0 < found.0 = grind (arith, nat_tests) in
    subst (λ (steps : ℕ). (0 < steps) × (steps ≤ most_steps)) (same_value found.0 steps above.1) (some, count_in-high 0 most_steps word found.0 found.1)

-- when a command is due
due_is : (timing : Timing) (line : Stated) (found : When) → due_in timing line ≡ Ok found → IsWhen found
unfolding due_in
due_is timing.Before line found is = subst IsWhen (same_value due.Before found is) tt
due_is timing.After line found is = subst IsWhen (same_value due.After found is) tt
due_is timing.Every line found is = subst IsWhen (same_value due.Every found is) tt
due_is timing.Each line found is =
    let m = valued (stride_in (word_at line 2)) _ found is in
    subst IsWhen (same_value (due.Each m.0) found m.2) (stride_small (word_at line 2) m.0 m.1)
due_is timing.AtTime line found is =
    let t = valued (time_in (word_at line 2)) _ found is in
    subst IsWhen (same_value (due.AtTime t.0) found t.2) (time_small (word_at line 2) t.0 t.1)
due_is timing.Times line found is =
    let on = valued (time_in (word_at line 2)) _ found is in
    let off = valued (time_in (word_at line 3)) _ found on.2 in
    let dt = valued (interval_in (word_at line 4)) _ found off.2 in
    let interval = interval_small (word_at line 4) dt.0 dt.1 in
    subst IsWhen (same_value (due.Times on.0 off.0 dt.0) found dt.2)
    (time_small (word_at line 2) on.0 on.1, time_small (word_at line 3) off.0 off.1, interval.0, interval.1)
due_is timing.Steps line found is =
    let on = valued (step_in (word_at line 2)) _ found is in
    let off = valued (step_in (word_at line 3)) _ found on.2 in
    let m = valued (stride_in (word_at line 4)) _ found off.2 in
    let stride = stride_small (word_at line 4) m.0 m.1 in
    subst IsWhen (same_value (due.Steps on.0 off.0 m.0) found m.2)
    (count_in-high 0 most_steps (word_at line 2) on.0 on.1, count_in-high 0 most_steps (word_at line 3) off.0 off.1, stride.0, stride.1)

pub when_is : (line : Stated) (found : When × ℕ) → when_in line ≡ Ok found → IsWhen found.0
unfolding when_in
when_is line found is =
    let two = held (nat_le 2 (length (words_of line))) WrongWordCount [] _ found is in
    let timing = valued (timing_in (word_at line 1)) _ found two.1 in
    let enough = held (nat_le (1 + timing_words timing.0) (length (words_of line))) WrongWordCount [] _ found timing.2 in
    let moment = valued (due_in timing.0 line) _ found enough.1 in
    subst (λ (found : When × ℕ). IsWhen found.0) (same_value (moment.0, 1 + timing_words timing.0) found moment.2)
    (due_is timing.0 line moment.0 moment.1)

-- numbers in a row are those of species, where the last one is
in_a_row : (first n count : ℕ) → first + n ≤ count → AreSpecies count (range_with_len first n)
in_a_row first zero count to = All-nil (λ (species : ℕ). species < count)
in_a_row first (suc n) count to =
    All-cons (λ (species : ℕ). species < count) first (range_with_len (first + 1) n) (omega arith)
    (in_a_row (first + 1) n count (omega arith))

-- species that a word means are there
abbrev AreThere : ℕ → Chosen → Type 0
AreThere count chosen = (chosen.first ≤ chosen.end) × (chosen.end ≤ count)

one_is : (count : ℕ) (number : Result ℕ Kind) (chosen : Chosen) → ((n : ℕ) → number ≡ Ok n → n < count) → one_chosen number ≡ Ok chosen → AreThere count chosen
one_is count (Ok n) chosen below is =
    let there = below n refl in
    subst (AreThere count) (same_value (record { first = n; end = n + 1 }) chosen is) (omega arith, omega arith)
one_is count (Err kind) chosen below is = no_value kind chosen is

chosen_is : (all : Bool) (names : List (List ℕ)) (word : List ℕ) (chosen : Chosen) → (if all then Ok (record { first = 0; end = length names }) else one_chosen (species_word_in names word)) ≡ Ok chosen → AreThere (length names) chosen
chosen_is true names word chosen is =
    subst (AreThere (length names)) (same_value (record { first = 0; end = length names }) chosen is) (omega arith, omega arith)
chosen_is false names word chosen is = one_is (length names) (species_word_in names word) chosen (species_word_in-within names word) is

pub who_is : (species : List (List ℕ)) (word : List ℕ) (who : List ℕ) → who_in species word ≡ Ok who → AreSpecies (length species) who
who_is species word who is =
    let chosen = valued (chosen_in species word) _ who is in
    let there = chosen_is (bytes_eq word (codes "all")) species word chosen.0 chosen.1 in
    let ordered = there.0 in
    let within = there.1 in
    subst (AreSpecies (length species)) (same_value (numbers_of chosen.0) who chosen.2)
    (in_a_row chosen.0.first _ (length species) (omega arith))

-- an outlet is one of those that there are
file_is : (outputs : List (List ℕ)) (word : List ℕ) (place : Option ℕ) (out : ℕ) → position (bytes_eq word) outputs ≡ place → file_outlet place ≡ Ok out → IsOutlet (length outputs) out
file_is outputs word None out at is = no_value UnknownOutlet out is
file_is outputs word (Some number) out at is =
    let there = position-Some (bytes_eq word) outputs number [] at in
    let within = there.0 in
    subst (IsOutlet (length outputs)) (same_value (2 + number) out is) (omega arith)

pub outlet_is : (outputs : List (List ℕ)) (word : List ℕ) (out : ℕ) → outlet_in outputs word ≡ Ok out → IsOutlet (length outputs) out
unfolding outlet_in
outlet_is outputs word out is = by (bytes_eq word (codes "stdout")) (bytes_eq word (codes "stderr")) is
  where
    by : (first second : Bool) → (if first then Ok 0 else (if second then Ok 1 else file_outlet (position (bytes_eq word) outputs))) ≡ Ok out → IsOutlet (length outputs) out
    by true second is = subst (IsOutlet (length outputs)) (same_value 0 out is) (omega arith)
    by false true is = subst (IsOutlet (length outputs)) (same_value 1 out is) (omega arith)
    by false false is = file_is outputs word (position (bytes_eq word) outputs) out refl is

pub probability_is : (word : List ℕ) (p : Threshold) → probability_in word ≡ Ok p → p.0 ≤ certain
probability_is word p is =
    let chance = valued (chance_in word) _ p is in
    subst (λ (p : Threshold). p.0 ≤ certain) (same_value (threshold_of chance.0) p chance.2)
    (threshold_of-within chance.0 (chance_in-within word chance.0 chance.1))
