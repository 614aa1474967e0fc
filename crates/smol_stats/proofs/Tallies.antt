-- How many things are at each place of a row, and one more.
use Rattle.std.proofs.Common.{◌≡◌, ◌≢◌, ◌≤◌, ◌<◌, ◌+◌, ◌==◌, ℕ, zero, suc, Bool, true, false, if◌then◌else◌, List, [], ◌∷◌, ◌++◌, length, get_or, set, take, drop, map, replicate, arith, rules, refl, sym, ap, ◌∙◌, Option, None, Some, get_or-set_other, get_or-set_same, length-set, count_by, IfSome}
use Rattle.std.proofs.lemmas.Bool.Decides.{nat_tests}
use Rattle.std.proofs.lemmas.Grind.{same_number_lists}
use Rattle.std.proofs.lemmas.List.{append-nil, drop_all, get_or_default, length-map, take_all}
use Rattle.std.proofs.lemmas.List.Sums.{count_by-le-length, count_by_more_yes, count_by_more_no}
use Rattle.smol_cells.specs.Placed.{counted, indexes}
use Rattle.smol_stats.specs.Tally.{IsPlaced, raised, tally}

length_counted : (first n : ℕ) → length (counted first n) ≡ n
length_counted first zero = refl
length_counted first (suc n) = ap suc (length_counted (suc first) n)

pub length_tally : {X : Type 0} (is_at : ℕ → X → Bool) (n : ℕ) (things : List X) → length (tally is_at n things) ≡ n
length_tally is_at n things = length-map (indexes n) (λ k. count_by (is_at k) things) ∙ length_counted 0 n

at_counted : (f : ℕ → ℕ) (first n k : ℕ) → k < n → get_or (map f (counted first n)) k 0 ≡ f (first + k)
at_counted f first zero k within = absurd (omega arith)
at_counted f first (suc n) zero within = ap f (omega arith)
at_counted f first (suc n) (suc k) within = at_counted f (suc first) n k (omega arith) ∙ ap f (omega arith)

-- the count at a number
pub tally_at : {X : Type 0} (is_at : ℕ → X → Bool) (n : ℕ) (things : List X) (k : ℕ) → k < n → get_or (tally is_at n things) k 0 ≡ count_by (is_at k) things
tally_at is_at n things k within =
    at_counted (λ k. count_by (is_at k) things) 0 n k within ∙ ap (λ j. count_by (is_at j) things) (omega arith)

-- numbers that are the counts
pub tally_is : {X : Type 0} (is_at : ℕ → X → Bool) (n : ℕ) (things : List X) (counts : List ℕ) → length counts ≡ n → ((k : ℕ) → k < n → get_or counts k 0 ≡ count_by (is_at k) things) → counts ≡ tally is_at n things
tally_is is_at n things counts long are =
    same_number_lists counts (tally is_at n things) (long ∙ sym (length_tally is_at n things))
    (λ k within.
    let there : k < n = omega (arith, long) in
    are k there ∙ sym (tally_at is_at n things k there))

-- each count is at most the number of things
pub tally_small : {X : Type 0} (is_at : ℕ → X → Bool) (n : ℕ) (things : List X) (k : ℕ) → k < n → get_or (tally is_at n things) k 0 ≤ length things
tally_small is_at n things k within =
    omega (arith, tally_at is_at n things k within, count_by-le-length (is_at k) things)

-- one number of a list is one higher
one_raised : (counts : List ℕ) (number k : ℕ) (is : Bool) → number < length counts → (number == k) ≡ is → get_or (set counts number (get_or counts number 0 + 1)) k 0 ≡ get_or counts k 0 + (if is then 1 else 0)
one_raised counts number k true there same =
    let e : number ≡ k = grind (arith, nat_tests) in
    rw (← e) (get_or-set_same counts number (get_or counts number 0 + 1) 0 there)
one_raised counts number k false there other =
    let ne : k ≢ number = grind (arith, nat_tests) in rw get_or-set_other (omega arith)

more : {X : Type 0} (p : X → Bool) (things : List X) (i : ℕ) (d : X) (is : Bool) → i < length things → p (get_or things i d) ≡ is → count_by p (take (i + 1) things) ≡ count_by p (take i things) + (if is then 1 else 0)
more p things i d true within same = count_by_more_yes p things i d within same
more p things i d false within other = count_by_more_no p things i d within other ∙ omega arith

-- with one thing more, the count at its number is one higher
pub tally_more : {X : Type 0} (is_at : ℕ → X → Bool) (n : ℕ) (things : List X) (i : ℕ) (d : X) (at : Option ℕ) → i < length things → IsPlaced is_at n (get_or things i d) at → raised (tally is_at n (take i things)) at ≡ tally is_at n (take (i + 1) things)
tally_more is_at n things i d None within placed =
    tally_is is_at n (take (i + 1) things) (tally is_at n (take i things)) (length_tally is_at n (take i things))
    (λ k there. tally_at is_at n (take i things) k there ∙ sym (count_by_more_no (is_at k) things i d within (placed k)))
tally_more is_at n things i d (Some at) within placed =
    let counts = tally is_at n (take i things) in
    let long : length counts ≡ n = length_tally is_at n (take i things) in
    tally_is is_at n (take (i + 1) things) (set counts at (get_or counts at 0 + 1))
    (length-set counts at (get_or counts at 0 + 1) ∙ long)
    (λ k there.
    one_raised counts at k (at == k) (omega (arith, long, placed.0)) refl
    ∙ ap (λ (m : ℕ). m + (if at == k then 1 else 0)) (tally_at is_at n (take i things) k there)
    ∙ sym (more (is_at k) things i d (at == k) within (placed.1 k)))

none_counted : {X : Type 0} (is_at : ℕ → X → Bool) (n first : ℕ) → map (λ k. count_by (is_at k) []) (counted first n) ≡ replicate n 0
none_counted is_at zero first = refl
none_counted is_at (suc n) first = ap (λ (l : List ℕ). 0 ∷ l) (none_counted is_at n (suc first))

-- of nothing each count is 0
pub tally_none : {X : Type 0} (is_at : ℕ → X → Bool) (n : ℕ) → tally is_at n [] ≡ replicate n 0
tally_none is_at n = none_counted is_at n 0

-- where a thing is counted is inside
pub placed_inside : {X : Type 0} (is_at : ℕ → X → Bool) (n : ℕ) (thing : X) (at : Option ℕ) (counts : List ℕ) → IsPlaced is_at n thing at → length counts ≡ n → IfSome at (λ k. k < length counts)
placed_inside is_at n thing None counts placed long = search rules
placed_inside is_at n thing (Some k) counts placed long = omega (arith, long, placed.0)

-- each count of few things is small
pub counts_small : {X : Type 0} (is_at : ℕ → X → Bool) (n : ℕ) (things : List X) (counts : List ℕ) (most k d : ℕ) → counts ≡ tally is_at n things → length things ≤ most → k < length counts → get_or counts k d ≤ most
counts_small is_at n things counts most k d are few there =
    let long : length counts ≡ n = ap length are ∙ length_tally is_at n things in
    let within : k < n = omega (arith, long, there) in
    let same : get_or counts k d ≡ get_or (tally is_at n things) k 0 = get_or_default counts k d 0 there ∙ ap (λ (l : List ℕ). get_or l k 0) are in
    omega (arith, same, tally_small is_at n things k within, few)

pub tally_next : {X : Type 0} (is_at : ℕ → X → Bool) (n : ℕ) (things : List X) (i : ℕ) (d : X) (at : Option ℕ) (old new : List ℕ) → i < length things → old ≡ tally is_at n (take i things) → IsPlaced is_at n (get_or things i d) at → new ≡ raised old at → new ≡ tally is_at n (take (i + 1) things)
tally_next is_at n things i d at old new within old_is placed new_is =
    new_is ∙ ap (λ (l : List ℕ). raised l at) old_is ∙ tally_more is_at n things i d at within placed

pub length_raised : (counts : List ℕ) (at : Option ℕ) → length (raised counts at) ≡ length counts
length_raised counts None = refl
length_raised counts (Some k) = length-set counts k (get_or counts k 0 + 1)

-- counts that are all written are those that were written
pub all_written : (items new : List ℕ) (len : ℕ) → length new ≡ length items → len ≡ length items → take len (new ++ drop (length new) items) ≡ new
all_written items new len long is_len =
    let rest : drop (length new) items ≡ [] = drop_all (length new) items (omega (arith, long)) in
    rw rest (ap (λ (l : List ℕ). take len l) (append-nil new) ∙ take_all len new (omega (arith, long, is_len)))

-- a count after it was raised where a thing is
pub raised_at : {X : Type 0} (is_at : ℕ → X → Bool) (n : ℕ) (thing : X) (at : Option ℕ) (counts : List ℕ) (k : ℕ) → IsPlaced is_at n thing at → length counts ≡ n → get_or (raised counts at) k 0 ≡ get_or counts k 0 + (if is_at k thing then 1 else 0)
raised_at is_at n thing None counts k placed long =
    let same : ◌≡◌ {A = ℕ} (if false then 1 else 0) (if is_at k thing then 1 else 0) = ap (λ (b : Bool). if b then 1 else 0) (sym (placed k)) in
    omega (arith, same)
raised_at is_at n thing (Some at) counts k placed long =
    one_raised counts at k (at == k) (omega (arith, long, placed.0)) refl ∙ ap (λ (b : Bool). get_or counts k 0 + (if b then 1 else 0)) (sym (placed.1 k))
