-- A greater rate has no smaller share of the words.
use Rattle.std.proofs.Common.{◌≡◌, ℕ, ◌+◌, ◌-◌, ◌*◌, ◌/◌, ◌≤◌, ◌<◌, true, false, nat_le, inl, inr, refl, ap, ◌∙◌, arith}
use Rattle.std.proofs.lemmas.Bool.{cases_lt}
use Rattle.std.proofs.lemmas.Bool.Decides.{nat_tests}
use Rattle.std.proofs.lemmas.Nat.{mul-le, div_below}
use Rattle.smol_rates.specs.Series.{unit, series, exponential}
use Rattle.smol_rates.specs.Rates.{all_words, certain_from, part_of_32, rounded_up, no_words, threshold_of}
use Rattle.smol_rates.proofs.SeriesLemmas.{div-le, exponential_grows, exponential_some}

-- a quotient that is rounded up is no more than each number whose product with the divisor is enough
rounded_up-least : (n divisor q : ℕ) → 0 < divisor → n ≤ q * divisor → rounded_up n divisor ≤ q
rounded_up-least n divisor q some enough =
    let below : (n + (divisor - 1)) / divisor < q + 1 = div_below (n + (divisor - 1)) divisor (q + 1) some (omega arith) in
    omega (arith, below)

rest_below : (n divisor : ℕ) → 0 < divisor → n ≤ rounded_up n divisor * divisor
rest_below n divisor some = omega arith

-- a greater power leaves no more words that are a no
pub no_words-shrink : (e f : ℕ) → 0 < e → e ≤ f → no_words f ≤ no_words e
no_words-shrink e f some less =
    let enough = rest_below (all_words * unit) e some in
    let more : no_words e * e ≤ no_words e * f = mul-le (no_words e) e (no_words e) f (omega arith) less in
    rounded_up-least (all_words * unit) f (no_words e) (omega arith) (omega (arith, enough, more))

-- where the power is one or more, they are no more than all
pub few_no_words : (e : ℕ) → unit ≤ e → no_words e ≤ all_words
few_no_words e some = rounded_up-least (all_words * unit) e all_words (omega arith) (omega arith)

-- from 32 on every word is a yes, and before it not every one is
pub threshold_certain : (rate step : ℕ) → certain_from ≤ rate * step → (threshold_of rate step).0 ≡ all_words
unfolding threshold_of
threshold_certain rate step enough =
    let yes : nat_le certain_from (rate * step) ≡ true = grind (arith, nat_tests) in rw yes refl

pub threshold_other : (rate step : ℕ) → rate * step < certain_from → (threshold_of rate step).0 ≡ all_words - no_words (exponential (part_of_32 rate step))
unfolding threshold_of
threshold_other rate step less =
    let no : nat_le certain_from (rate * step) ≡ false = grind (arith, nat_tests) in rw no refl

pub threshold_most : (rate step : ℕ) → (threshold_of rate step).0 ≤ all_words
threshold_most rate step =
    elim (cases_lt (rate * step) certain_from) [
      | inl less ↦ let is = threshold_other rate step less in omega (arith, is)
      | inr more ↦ let is = threshold_certain rate step more in omega (arith, is)
    ]

power_none : exponential 0 ≡ unit
unfolding exponential series
power_none = refl

-- at rate 0 no word is a yes
pub threshold_none : (rate step : ℕ) → rate ≡ 0 → (threshold_of rate step).0 ≡ 0
threshold_none rate step none =
    let product : rate * step ≡ 0 = rw none (omega arith) in
    let part : part_of_32 rate step ≡ 0 = rw product refl in
    let power : exponential (part_of_32 rate step) ≡ unit = ap exponential part ∙ power_none in
    threshold_other rate step (omega (arith, product)) ∙ ap (λ power. all_words - no_words power) power

-- a greater rate has no smaller threshold
pub threshold_grows : (less more time : ℕ) → less ≤ more → (threshold_of less time).0 ≤ (threshold_of more time).0
threshold_grows less more time order =
    let products : less * time ≤ more * time = mul-le less time more time order (omega arith) in
    elim (cases_lt (more * time) certain_from) [
      | inr certain ↦ let all = threshold_certain more time certain in let most = threshold_most less time in omega (arith, all, most)
      | inl below ↦
          let is_less = threshold_other less time (omega (arith, products, below)) in
          let is_more = threshold_other more time below in
          let parts : part_of_32 less time ≤ part_of_32 more time = div-le (less * time * unit) (more * time * unit) certain_from (omega arith) (omega (arith, products)) in
          let powers = exponential_grows (part_of_32 less time) (part_of_32 more time) parts in
          let some = exponential_some (part_of_32 less time) in
          let fewer = no_words-shrink (exponential (part_of_32 less time)) (exponential (part_of_32 more time)) (omega (arith, some)) powers in
          omega (arith, is_less, is_more, fewer)
    ]
