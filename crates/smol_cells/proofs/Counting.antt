-- Indexes, one after the other.
use Rattle.std.proofs.Common.{◌≡◌, ◌∙◌, ℕ, zero, suc, ◌+◌, ◌-◌, ◌<◌, ◌≤◌, List, [], ◌∷◌, ◌++◌, Bool, true, false, length, map, refl, sym, ap, add-one, zero-add, arith}
use Rattle.std.specs.Prelude.{filter, flat_map}
use Rattle.std.proofs.lemmas.List.{flat_map_more, map_push, map-id, append_assoc}
use Rattle.std.proofs.lemmas.Bool.{false≢true}
use Rattle.smol_cells.specs.Placed.{counted, indexes}
use Rattle.smol_cells.specs.Starts.{item_of}

-- the last of one more
counted_push : (first count : ℕ) → counted first count ++ (first + count) ∷ [] ≡ counted first (suc count)
counted_push first zero = ap (λ n. n ∷ []) (omega arith)
counted_push first (suc count) =
    let next : first + suc count ≡ suc first + count = omega arith in
    ap (λ ns. first ∷ ns) (ap (λ n. counted (suc first) count ++ n ∷ []) next ∙ counted_push (suc first) count)

pub indexes_push : (count : ℕ) → indexes count ++ count ∷ [] ≡ indexes (count + 1)
indexes_push count = ap (λ n. indexes count ++ n ∷ []) (sym (zero-add count)) ∙ counted_push 0 count ∙ ap indexes (sym (add-one count))

length_counted : (first count : ℕ) → length (counted first count) ≡ count
length_counted first zero = refl
length_counted first (suc count) = ap suc (length_counted (suc first) count)

pub length_indexes : (count : ℕ) → length (indexes count) ≡ count
length_indexes count = length_counted 0 count

-- the numbers up to the next one
counted_more : (first n : ℕ) → first ≤ n → counted first (n - first) ++ n ∷ [] ≡ counted first (n + 1 - first)
counted_more first n up =
    let last : n ≡ first + (n - first) = omega arith in
    let count : suc (n - first) ≡ n + 1 - first = omega arith in
    ap (λ k. counted first (n - first) ++ k ∷ []) last ∙ counted_push first (n - first) ∙ ap (counted first) count

pub flat_more : {A : Type 0} (f : ℕ → List A) (before now next : List A) (first n : ℕ) → first ≤ n
    → now ≡ before ++ flat_map f (counted first (n - first)) → next ≡ now ++ f n
    → next ≡ before ++ flat_map f (counted first (n + 1 - first))
flat_more f before now next first n up was more =
    more ∙ ap (λ xs. xs ++ f n) was ∙ flat_map_more f before (counted first (n - first)) n
    ∙ ap (λ ns. before ++ flat_map f ns) (counted_more first n up)

pub map_more_counted : {A : Type 0} (f : ℕ → A) (before now next : List A) (first n : ℕ) → first ≤ n
    → now ≡ before ++ map f (counted first (n - first)) → next ≡ now ++ f n ∷ []
    → next ≡ before ++ map f (counted first (n + 1 - first))
map_more_counted f before now next first n up was more =
    more ∙ ap (λ xs. xs ++ f n ∷ []) was ∙ append_assoc before (map f (counted first (n - first))) (f n ∷ [])
    ∙ ap (λ xs. before ++ xs) (sym (map_push f (counted first (n - first)) n) ∙ ap (map f) (counted_more first n up))

-- in order each position is its own item
pub items_in_order : (in_order : Bool) (items ns : List ℕ) → in_order ≡ true → map (item_of in_order items) ns ≡ ns
items_in_order true items ns is = map-id ns
items_in_order false items ns is = absurd (false≢true is)

-- of numbers one after the other, none of which passes, none is left
filter_none : (p : ℕ → Bool) (first count : ℕ) → ((n : ℕ) → first ≤ n → p n ≡ false) → filter p (counted first count) ≡ []
filter_none p first zero none = refl
filter_none p first (suc count) none = rw (none first (omega arith)) (filter_none p (suc first) count (λ n above. none n (omega arith)))

filter_first : (p : ℕ → Bool) (skip first count : ℕ) → ((n : ℕ) → first ≤ n → n < first + skip → p n ≡ false) → p (first + skip) ≡ true
    → filter p (counted first (skip + suc count)) ≡ (first + skip) ∷ filter p (counted (suc (first + skip)) count)
filter_first p zero first count none passes =
    let here : first + 0 ≡ first = omega arith in
    let first_passes : p first ≡ true = ap p (sym here) ∙ passes in
    rw (zero-add (suc count), here, first_passes) refl
filter_first p (suc skip) first count none passes =
    let next : first + suc skip ≡ suc first + skip = omega arith in
    let more : suc skip + suc count ≡ suc (skip + suc count) = omega arith in
    rw (more, none first (omega arith) (omega arith))
    (filter_first p skip (suc first) count (λ n above below. none n (omega arith) (omega arith)) (ap p (sym next) ∙ passes)
    ∙ ap (λ n. n ∷ filter p (counted (suc n) count)) (sym next))

-- what is left of numbers up to a count from one on, where none is before the next that passes
pub left_first : (p : ℕ → Bool) (count from next : ℕ) → from ≤ next → next < count → ((n : ℕ) → from ≤ n → n < next → p n ≡ false) → p next ≡ true
    → filter p (counted from (count - from)) ≡ next ∷ filter p (counted (next + 1) (count - (next + 1)))
left_first p count from next up inside none passes =
    let all : count - from ≡ (next - from) + suc (count - (next + 1)) = omega arith in
    let here : from + (next - from) ≡ next = omega arith in
    ap (λ n. filter p (counted from n)) all
    ∙ filter_first p (next - from) from (count - (next + 1)) (λ n above below. none n above (omega arith)) (ap p here ∙ passes)
    ∙ ap (λ n. n ∷ filter p (counted (suc n) (count - (next + 1)))) here
    ∙ ap (λ n. next ∷ filter p (counted n (count - (next + 1)))) (sym (add-one next))

pub left_none : (p : ℕ → Bool) (count from : ℕ) → ((n : ℕ) → from ≤ n → p n ≡ false) → filter p (counted from (count - from)) ≡ []
left_none p count from none = filter_none p from (count - from) none

-- the first of what is made of numbers up to the last one
pub flat_first : {A : Type 0} (f : ℕ → List A) (first last : ℕ) → first ≤ last
    → flat_map f (counted first (last + 1 - first)) ≡ f first ++ flat_map f (counted (first + 1) (last - first))
flat_first f first last up =
    let count : last + 1 - first ≡ suc (last - first) = omega arith in
    ap (λ n. flat_map f (counted first n)) count ∙ ap (λ n. f first ++ flat_map f (counted n (last - first))) (sym (add-one first))
