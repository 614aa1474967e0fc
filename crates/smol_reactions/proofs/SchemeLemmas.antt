-- What holds of a reaction that a line gives.
use Rattle.std.proofs.Common.{◌≡◌, ℕ, suc, ◌+◌, ◌<◌, ◌≤◌, ◌&&◌, Bool, true, false, not, nat_le, nat_lt, ◌==◌, Option, None, Some, IfSome, List, [], ◌∷◌, length, take, drop, Ok, Err, refl, ap, arith, subst, position, All, if◌then◌else◌}
use Rattle.std.proofs.lemmas.Bool.{eqb-true}
use Rattle.std.proofs.lemmas.Bool.Decides.{nat_tests}
use Rattle.std.proofs.lemmas.List.Elements.{All-nil, All-cons}
use Rattle.smol_text.specs.Reading.{Stated, words_of}
use Rattle.smol_types.specs.declared.fault.Kind.TheVariants.{TooMany, NotInProfile, RepeatedName, BadReaction, WrongWordCount}
use Rattle.smol_types.specs.Limits.{fastest, most_products, most_reactions}
use Rattle.smol_line.specs.Words.{word_at}
use Rattle.smol_line.specs.Checks.{unless, there, with_value}
use Rattle.smol_line.specs.LookingBack.{say}
use Rattle.smol_line.specs.Names.{is_name, is_named, new_name_in}
use Rattle.smol_line.specs.SpeciesWord.{species_word_in}
use Rattle.smol_line.proofs.Passing.{valued, held, no_value, said_by, same_value}
use Rattle.smol_line.proofs.Ranges.{species_word_in-within, unsigned_in-within}
use Rattle.smol_reactions.specs.declared.scheme.Scheme.{Scheme}
use Rattle.smol_reactions.specs.Arrangement.{Sides, arrangement_in, is_arrow, is_nothing, is_sum, left_in, right_in, summands}
use Rattle.smol_reactions.specs.Reaction.{arranged_words, numbers_in, rate_in, rate_word, reaction_in, sides_in}
use Rattle.smol_reactions.specs.Sound.{IsScheme}

-- these numbers are as many as the words, and each is one of so many
record AreBelow (count : ℕ) (words : List (List ℕ)) (numbers : List ℕ) : Type 0 where
  as_many : length numbers ≡ length words
  all : All (λ (n : ℕ). n < count) numbers

none_below : (count : ℕ) → AreBelow count [] []
none_below count = record { as_many = refl; all = All-nil (λ (n : ℕ). n < count) }

one_below : (count number : ℕ) (word : List ℕ) (words : List (List ℕ)) (numbers : List ℕ) → number < count → AreBelow count words numbers → AreBelow count (word ∷ words) (number ∷ numbers)
one_below count number word words numbers below more = record {
  as_many = ap suc more.as_many;
  all = All-cons (λ (n : ℕ). n < count) number numbers below more.all;
}

-- the numbers of words are as many as the words, each one of the names'
numbers_below : (species words : List (List ℕ)) (numbers : List ℕ) → numbers_in species words ≡ Ok numbers → AreBelow (length species) words numbers
numbers_below species [] numbers is =
    subst (AreBelow (length species) []) (same_value [] numbers is) (none_below (length species))
numbers_below species (word ∷ words) numbers is =
    let first = valued (species_word_in species word) (λ number. with_value (numbers_in species words) (λ more. Ok (number ∷ more))) numbers is in
    let rest = valued (numbers_in species words) (λ more. Ok (first.0 ∷ more)) numbers first.2 in
    let both = one_below (length species) first.0 word words rest.0 (species_word_in-within species word first.0 first.1) (numbers_below species words rest.0 rest.1) in
    let made : first.0 ∷ rest.0 ≡ numbers = same_value (first.0 ∷ rest.0) numbers rest.2 in
    subst (AreBelow (length species) (word ∷ words)) made both

-- a sum has a species word
summed : (words : List (List ℕ)) → is_sum words ≡ true → 0 < length (summands words)
summed [] sum = absurd (let no : false ≡ true = sum in cc)
summed (one ∷ []) sum = omega arith
summed (one ∷ two ∷ more) sum = omega arith

-- three words have two species words at most
summed_few : (words : List (List ℕ)) → length words ≤ 3 → length (summands words) ≤ 2
summed_few [] few = omega arith
summed_few (one ∷ []) few = omega arith
summed_few (one ∷ two ∷ []) few = omega arith
summed_few (one ∷ two ∷ three ∷ []) few = omega arith
summed_few (one ∷ two ∷ three ∷ four ∷ more) few = absurd (omega arith)

record IsOneOrTwo (words : List (List ℕ)) : Type 0 where
  above : 0 < length words
  below : length words ≤ 2

both_true : (a b : Bool) → (a && b) ≡ true → (a ≡ true) × (b ≡ true)
both_true true b both = (refl, both)
both_true false b both = absurd (let no : false ≡ true = both in cc)

left_value : (words : List (List ℕ)) (nothing sum : Bool) (left : List (List ℕ)) → (if nothing then Err NotInProfile else (if sum then Ok (summands words) else Err BadReaction)) ≡ Ok left → (sum ≡ true) × (summands words ≡ left)
left_value words true sum left is = no_value NotInProfile left is
left_value words false true left is = (refl, same_value (summands words) left is)
left_value words false false left is = no_value BadReaction left is

-- LEFT has one species word or two
left_few : (words left : List (List ℕ)) → left_in words ≡ Ok left → IsOneOrTwo left
unfolding left_in
left_few words left is =
    let value = left_value words (is_nothing words) (is_sum words && nat_le (length words) 3) left is in
    let parts = both_true (is_sum words) (nat_le (length words) 3) value.0 in
    let short : length words ≤ 3 = let test = parts.1 in grind (arith, nat_tests) in
    subst IsOneOrTwo value.1 (record { above = summed words parts.0; below = summed_few words short })

sides_few : (words : List (List ℕ)) (sides : Sides) → arrangement_in words ≡ Ok sides → IsOneOrTwo sides.reactants
unfolding arrangement_in
sides_few words sides is =
    let arrow = valued (there (position is_arrow words) BadReaction) _ sides is in
    let left = valued (left_in (take arrow.0 words)) _ sides arrow.2 in
    let right = valued (right_in (drop (arrow.0 + 1) words)) _ sides left.2 in
    subst (λ (sides : Sides). IsOneOrTwo sides.reactants) (same_value (record { reactants = left.0; products = right.0.products; rate = right.0.rate }) sides right.2) (left_few (take arrow.0 words) left.0 left.1)

-- a rate is one of a reaction of one reactant, and no greater than it may be
record IsRate (reactants : ℕ) (rate : Option ℕ) : Type 0 where
  order : IfSome rate (λ _. reactants ≡ 1)
  below : IfSome rate (λ (rate : ℕ). rate ≤ fastest)

rate_is : (order : ℕ) (word : Option (List ℕ)) (rate : Option ℕ) → rate_in order word ≡ Ok rate → IsRate order rate
rate_is order None rate is = subst (IsRate order) (same_value None rate is) (record { order = tt; below = tt })
rate_is order (Some word) rate is =
    let one = held (order == 1) NotInProfile [] (say Some (rate_word word)) rate is in
    let given = said_by Some (rate_word word) rate one.1 in
    let within = unsigned_in-within 9 fastest word given.0 given.1 in
    let order_is : order ≡ 1 = eqb-true order 1 one.0 in
    subst (IsRate order) given.2 (record { order = order_is; below = within })

-- what holds of both sides of a reaction
record AreSides (count : ℕ) (sides : List ℕ × List ℕ × Option ℕ) : Type 0 where
  order_above : 0 < length sides.0
  order_below : length sides.0 ≤ 2
  reactants : All (λ (n : ℕ). n < count) sides.0
  products : All (λ (n : ℕ). n < count) sides.1
  rate_order : IfSome sides.2 (λ _. length sides.0 ≡ 1)
  rate_below : IfSome sides.2 (λ (rate : ℕ). rate ≤ fastest)

sides_are : (species words : List (List ℕ)) (sides : List ℕ × List ℕ × Option ℕ) → sides_in species words ≡ Ok sides → AreSides (length species) sides
unfolding sides_in
sides_are species words sides is =
    let arranged = valued (arrangement_in words) _ sides is in
    let left = valued (numbers_in species arranged.0.reactants) _ sides arranged.2 in
    let right = valued (numbers_in species arranged.0.products) _ sides left.2 in
    let rate = valued (rate_in (length left.0) arranged.0.rate) _ sides right.2 in
    let rated = rate_is (length left.0) arranged.0.rate rate.0 rate.1 in
    let few = sides_few words arranged.0 arranged.1 in
    let reactants = numbers_below species arranged.0.reactants left.0 left.1 in
    let products = numbers_below species arranged.0.products right.0 right.1 in
    let count = reactants.as_many in
    let above = few.above in
    let below = few.below in
    subst (AreSides (length species)) (same_value (left.0, right.0, rate.0) sides rate.2)
    (record {
      order_above = omega (arith, count, above);
      order_below = omega (arith, count, below);
      reactants = reactants.all;
      products = products.all;
      rate_order = rated.order;
      rate_below = rated.below;
    })

-- what holds of a reaction that a line gives, and of the reactions before it
pub record IsGiven (species known : List (List ℕ)) (scheme : Scheme) : Type 0 where
  pub new : is_named known scheme.name ≡ false
  pub room : length known < most_reactions
  pub sound : IsScheme (length species) scheme

not_false : (b : Bool) → not b ≡ true → b ≡ false
not_false true other = absurd (let no : false ≡ true = other in cc)
not_false false other = refl

new_is : (known : List (List ℕ)) (word name : List ℕ) → new_name_in known word ≡ Ok name → is_named known name ≡ false
new_is known word name is =
    let named = held (is_name word) NotInProfile (unless (not (is_named known word)) RepeatedName ∷ []) (Ok word) name is in
    let other = held (not (is_named known word)) RepeatedName [] (Ok word) name named.1 in
    let same : word ≡ name = same_value word name other.1 in
    subst (λ (name : List ℕ). is_named known name ≡ false) same (not_false (is_named known word) other.0)

pub given_is : (species known : List (List ℕ)) (line : Stated) (scheme : Scheme) → reaction_in species known line ≡ Ok scheme → IsGiven species known scheme
unfolding reaction_in
given_is species known line scheme is =
    let enough = held (nat_le 5 (length (words_of line))) WrongWordCount [] _ scheme is in
    let name = valued (new_name_in known (word_at line 1)) _ scheme enough.1 in
    let sides = valued (sides_in species (arranged_words line)) _ scheme name.2 in
    let few = held (nat_le (length sides.0.1) most_products) TooMany (unless (nat_lt (length known) most_reactions) TooMany ∷ []) _ scheme sides.2 in
    let room = held (nat_lt (length known) most_reactions) TooMany [] _ scheme few.1 in
    let are = sides_are species (arranged_words line) sides.0 sides.1 in
    subst (IsGiven species known) (same_value (record { name = name.0; reactants = sides.0.0; products = sides.0.1; rate = sides.0.2 }) scheme room.1)
    (record {
      new = new_is known (word_at line 1) name.0 name.1;
      room = let test = room.0 in grind (arith, nat_tests);
      sound = record {
        order_above = are.order_above;
        order_below = are.order_below;
        reactants = are.reactants;
        product_count = let test = few.0 in grind (arith, nat_tests);
        products = are.products;
        rate_order = are.rate_order;
        rate_below = are.rate_below;
      };
    })
