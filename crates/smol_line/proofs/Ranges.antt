-- Words with a value: what the value's range is.
use Rattle.std.proofs.Common.{◌≡◌, ◌≤◌, ◌<◌, ◌≤ℤ◌, ◌&&◌, Bool, true, false, ℕ, ℤ, pos, nat_le, nat_lt, int_le, List, [], length, Option, None, Some, Result, Ok, Err, unsigned_abs, arith, refl, if◌then◌else◌, position}
use Rattle.std.specs.Str.{bytes_eq}
use Rattle.std.proofs.lemmas.Bool.Decides.{nat_tests}
use Rattle.std.proofs.lemmas.Int.{ints}
use Rattle.std.proofs.lemmas.List.Quantifiers.{position-Some}
use Rattle.smol_num.specs.declared.num_fault.NumFault.{NumFault}
use Rattle.smol_num.specs.declared.num_fault.NumFault.TheVariants.{NotNumber, TooLarge}
use Rattle.smol_num.specs.Digits.{is_count, digits_value, count_of}
use Rattle.smol_num.specs.Decimal.{decimal_of}
use Rattle.smol_types.specs.declared.fault.Kind.{Kind}
use Rattle.smol_types.specs.Limits.{certain}
use Rattle.smol_line.specs.Axis.{axis_below, axis_in, axis_named}
use Rattle.smol_line.specs.Numbers.{count_between, count_in, decimal_between, decimal_in, unsigned, unsigned_in}
use Rattle.smol_line.specs.Probability.{chance_in, threshold_of, whole_chance}
use Rattle.smol_line.specs.SpeciesWord.{number_found, number_in, number_among, species_name, species_word_in}
use Rattle.smol_line.proofs.Passing.{both}

chosen_low : (test : Bool) (n found : ℕ) (kind : Kind) → (if test then Ok n else Err kind) ≡ Ok found → (test ≡ true) × (n ≡ found)
chosen_low true n found kind is = (refl, cc)
chosen_low false n found kind is = absurd cc

-- a count is at least the least
count_between-low : (least : ℕ) (value : Result ℕ NumFault) (found : ℕ) → count_between least value ≡ Ok found → least ≤ found
count_between-low least (Ok n) found is = let p = chosen_low (nat_le least n) n found _ is in let test = p.0 in let same = p.1 in grind (arith, nat_tests)
count_between-low least (Err fault) found is = absurd cc

pub count_in-low : (least most : ℕ) (word : List ℕ) (found : ℕ) → count_in least most word ≡ Ok found → least ≤ found
count_in-low least most word found is = count_between-low least (count_of word most) found is

counted-most : (is test : Bool) (n most found : ℕ) → test ≡ nat_le n most → (if is then (if test then Ok n else Err TooLarge) else Err NotNumber) ≡ Ok found → found ≤ most
counted-most true true n most found passes is = let same : n ≡ found = cc in grind (arith, nat_tests)
counted-most true false n most found passes is = absurd cc
counted-most false test n most found passes is = absurd cc

-- and at most the most
count_of-most : (word : List ℕ) (most found : ℕ) → count_of word most ≡ Ok found → found ≤ most
count_of-most word most found is = counted-most (is_count word) (nat_le (digits_value word) most) (digits_value word) most found refl is

count_between-high : (least most : ℕ) (value : Result ℕ NumFault) (found : ℕ) → ((n : ℕ) → value ≡ Ok n → n ≤ most) → count_between least value ≡ Ok found → found ≤ most
count_between-high least most (Ok n) found high is = let p = chosen_low (nat_le least n) n found _ is in let same = p.1 in let top = high n refl in omega arith
count_between-high least most (Err fault) found high is = absurd cc

pub count_in-high : (least most : ℕ) (word : List ℕ) (found : ℕ) → count_in least most word ≡ Ok found → found ≤ most
count_in-high least most word found is = count_between-high least most (count_of word most) found (count_of-most word most) is

chosen_whole : (test : Bool) (x found : ℤ) (kind : Kind) → (if test then Ok x else Err kind) ≡ Ok found → (test ≡ true) × (x ≡ found)
chosen_whole true x found kind is = (refl, cc)
chosen_whole false x found kind is = absurd cc

-- a decimal lies between the least and the most
decimal_between-within : (least most : ℤ) (value : Result ℤ NumFault) (found : ℤ) → decimal_between least most value ≡ Ok found → (least ≤ℤ found) × (found ≤ℤ most)
decimal_between-within least most (Ok x) found is =
    let p = chosen_whole (int_le least x && int_le x most) x found _ is in
    let tests = both (int_le least x) (int_le x most) p.0 in
    let low = tests.0 in let high = tests.1 in let same = p.1 in (grind (arith, nat_tests), grind (arith, nat_tests))
decimal_between-within least most (Err fault) found is = absurd cc

pub decimal_in-within : (places : ℕ) (least most : ℤ) (word : List ℕ) (found : ℤ) → decimal_in places least most word ≡ Ok found → (least ≤ℤ found) × (found ≤ℤ most)
decimal_in-within places least most word found is = decimal_between-within least most (decimal_of word places) found is

-- and one without a sign is at most the most
unsigned-within : (most : ℕ) (value : Result ℤ Kind) (found : ℕ) → ((x : ℤ) → value ≡ Ok x → (pos 0 ≤ℤ x) × (x ≤ℤ pos most)) → unsigned value ≡ Ok found → found ≤ most
unsigned-within most (Ok x) found within is =
    let range = within x refl in
    let low = range.0 in
    let high = range.1 in
    let same : unsigned_abs x ≡ found = cc in
    omega (arith, ints, same)
unsigned-within most (Err kind) found within is = absurd cc

pub unsigned_in-within : (places most : ℕ) (word : List ℕ) (found : ℕ) → unsigned_in places most word ≡ Ok found → found ≤ most
unsigned_in-within places most word found is =
    unsigned-within most (decimal_in places (pos 0) (pos most) word) found (decimal_in-within places (pos 0) (pos most) word) is

-- a probability is one whole at most
pub chance_in-within : (word : List ℕ) (chance : ℕ) → chance_in word ≡ Ok chance → chance ≤ whole_chance
chance_in-within word chance is = unsigned_in-within 9 whole_chance word chance is

-- and its threshold at most the one that is certain
pub threshold_of-within : (chance : ℕ) → chance ≤ whole_chance → (threshold_of chance).0 ≤ certain
threshold_of-within chance within = omega (arith, within)

-- an axis in use is below the number of axes
axis_below-within : (dims : ℕ) (named : Option ℕ) (axis : ℕ) → axis_below dims named ≡ Ok axis → axis < dims
axis_below-within dims None axis is = absurd cc
axis_below-within dims (Some named) axis is = let p = chosen_low (nat_lt named dims) named axis _ is in let test = p.0 in let same = p.1 in grind (arith, nat_tests)

pub axis_in-within : (dims : ℕ) (word : List ℕ) (axis : ℕ) → axis_in dims word ≡ Ok axis → axis < dims
axis_in-within dims word axis is = axis_below-within dims (axis_named word) axis is

-- a number that was found of a name is one of the names'
number_found-within : (names : List (List ℕ)) (word : List ℕ) (place : Option ℕ) (number : ℕ) → position (bytes_eq word) names ≡ place → number_found place ≡ Ok number → number < length names
number_found-within names word None number at is = absurd cc
number_found-within names word (Some found) number at is =
    let same : found ≡ number = cc in
    let there = position-Some (bytes_eq word) names found [] at in
    let within = there.0 in omega arith

pub number_in-within : (names : List (List ℕ)) (word : List ℕ) (number : ℕ) → number_in names word ≡ Ok number → number < length names
number_in-within names word number is = number_found-within names word (position (bytes_eq word) names) number refl is

number_among-within : (names : List (List ℕ)) (name : Result (List ℕ) Kind) (number : ℕ) → number_among names name ≡ Ok number → number < length names
number_among-within names (Ok name) number is = number_in-within names name number is
number_among-within names (Err kind) number is = absurd cc

pub species_word_in-within : (names : List (List ℕ)) (word : List ℕ) (number : ℕ) → species_word_in names word ≡ Ok number → number < length names
species_word_in-within names word number is = number_among-within names (species_name word) number is
