-- Parts of a list, one element after another.
use Rattle.std.proofs.Common.{◌≡◌, ℕ, suc, ◌+◌, ◌-◌, ◌<◌, ◌≤◌, List, [], ◌∷◌, length, take, drop, get_or, slice_range, refl, sym, ap, ◌∙◌, arith, add-one, drop-cons, length-take, length-drop, take-take, get_or-take, get_or-drop, min}

-- a part without elements
pub part_none : {X : Type 0} (xs : List X) (end : ℕ) → slice_range xs end end ≡ []
part_none xs end = let none : end - end ≡ 0 = omega arith in rw none refl

-- a part begins with its first element
pub part_more : {X : Type 0} (xs : List X) (at end : ℕ) (d : X) → at < end → end ≤ length xs → slice_range xs at end ≡ get_or xs at d ∷ slice_range xs (at + 1) end
part_more xs at end d begun within =
    let some : at < length xs = omega arith in
    let count : end - at ≡ suc (end - (at + 1)) = omega arith in
    ap (λ n. take n (drop at xs)) count
    ∙ ap (take (suc (end - (at + 1)))) (drop-cons xs at d some)
    ∙ ap (λ n. get_or xs at d ∷ take (end - (at + 1)) (drop n xs)) (sym (add-one at))

-- a part of one element
pub part_one : {X : Type 0} (xs : List X) (at end : ℕ) (d : X) → at + 1 ≡ end → end ≤ length xs → slice_range xs at end ≡ get_or xs at d ∷ []
part_one xs at end d last within =
    part_more xs at end d (omega arith) within
    ∙ ap (λ n. get_or xs at d ∷ slice_range xs n end) last
    ∙ ap (λ rest. get_or xs at d ∷ rest) (part_none xs end)

-- a part begins with its first two elements
pub part_two : {X : Type 0} (xs : List X) (at end : ℕ) (d : X) → at + 1 < end → end ≤ length xs → slice_range xs at end ≡ get_or xs at d ∷ get_or xs (at + 1) d ∷ slice_range xs (at + 2) end
part_two xs at end d begun within =
    part_more xs at end d (omega arith) within
    ∙ ap (λ rest. get_or xs at d ∷ rest) (part_more xs (at + 1) end d begun within)
    ∙ ap (λ n. get_or xs at d ∷ get_or xs (at + 1) d ∷ slice_range xs n end) (omega arith)

-- how long a part is
pub length_of_part : {X : Type 0} (xs : List X) (start end : ℕ) → start ≤ end → end ≤ length xs → length (slice_range xs start end) ≡ end - start
length_of_part xs start end ordered within =
    let count : length (drop start xs) ≡ length xs - start = length-drop start xs in
    let least : min (end - start) (length (drop start xs)) ≡ end - start = omega arith in
    length-take (end - start) (drop start xs) ∙ least

-- a part without its last element
pub part_front : {X : Type 0} (xs : List X) (start end : ℕ) → start < end → end ≤ length xs → take (length (slice_range xs start end) - 1) (slice_range xs start end) ≡ slice_range xs start (end - 1)
part_front xs start end begun within =
    let count : length (slice_range xs start end) ≡ end - start = length_of_part xs start end (omega arith) within in
    ap (λ n. take (n - 1) (slice_range xs start end)) count
    ∙ take-take (end - start - 1) (end - start) (drop start xs) (omega arith)
    ∙ ap (λ n. take n (drop start xs)) (omega arith)

-- the last element of a part
pub part_last : {X : Type 0} (xs : List X) (start end : ℕ) (d : X) → start < end → end ≤ length xs → get_or (slice_range xs start end) (length (slice_range xs start end) - 1) d ≡ get_or xs (end - 1) d
part_last xs start end d begun within =
    let count : length (slice_range xs start end) ≡ end - start = length_of_part xs start end (omega arith) within in
    ap (λ n. get_or (slice_range xs start end) (n - 1) d) count
    ∙ get_or-take (end - start) (drop start xs) (end - start - 1) d (omega arith)
    ∙ get_or-drop start xs (end - start - 1) d
    ∙ ap (λ n. get_or xs n d) (omega arith)
