-- A list that is rewritten in place: what stays is moved to its front.
use Rattle.std.proofs.Common.{◌≡◌, ℕ, zero, suc, ◌+◌, ◌<◌, ◌≤◌, Bool, true, false, cond, List, [], ◌∷◌, ◌++◌, length, get_or, map, set, take, drop, Option, Some, None, refl, ap, sym, ◌∙◌, subst, add-one, arith}
use Rattle.std.specs.List.{cons_option, filter_map, items_where_true}
use Rattle.std.proofs.lemmas.List.{append-nil, drop-drop, drop-set-lt, get_or-drop, get_or_default, length-set, take_more, take_more_set}
use Rattle.std.proofs.lemmas.List.Elements.{filter_map-append}

-- of a list that was `old` the first i items are done. What they became stands in its first places, and the others stand as they did
pub record InPlace {X : Type 0} (front now old : List X) (left i : ℕ) : Type 0 where
  pub made : take left now ≡ front
  pub rest : drop i now ≡ drop i old
  pub behind : left ≤ i
  pub long : length now ≡ length old

pub in_place_first : {X : Type 0} (xs : List X) → InPlace [] xs xs 0 0
in_place_first xs = record { made = refl; rest = refl; behind = omega arith; long = refl }

-- the next item stands where it did
pub in_place_next : {X : Type 0} (front now old : List X) (left i : ℕ) (d : X) → InPlace front now old left i → get_or now i d ≡ get_or old i d
in_place_next front now old left i d is =
    let here : i ≡ i + 0 = omega arith in
    ap (λ n. get_or now n d) here
    ∙ sym (get_or-drop i now 0 d) ∙ ap (λ xs. get_or xs 0 d) is.rest ∙ get_or-drop i old 0 d
    ∙ ap (λ n. get_or old n d) (sym here)

drop_one_more : {X : Type 0} (now old : List X) (i : ℕ) → drop i now ≡ drop i old → drop (i + 1) now ≡ drop (i + 1) old
drop_one_more now old i same = sym (drop-drop 1 i now) ∙ ap (drop 1) same ∙ drop-drop 1 i old

-- one that leaves the list
pub in_place_gone : {X : Type 0} (front now old : List X) (left i : ℕ) → InPlace front now old left i → InPlace front now old left (i + 1)
in_place_gone front now old left i is = record {
  made = is.made;
  rest = drop_one_more now old i is.rest;
  behind = omega (arith, is.behind);
  long = is.long;
}

-- one that stays
pub in_place_stays : {X : Type 0} (front now old : List X) (left i : ℕ) (y : X) → i < length old → InPlace front now old left i
    → InPlace (front ++ y ∷ []) (set now left y) old (left + 1) (i + 1)
in_place_stays front now old left i y within is = record {
  made = take_more_set now left y (omega (arith, is.behind, is.long)) ∙ ap (λ xs. xs ++ y ∷ []) is.made;
  rest = drop-set-lt (i + 1) now left y (omega (arith, is.behind)) ∙ drop_one_more now old i is.rest;
  behind = omega (arith, is.behind);
  long = length-set now left y ∙ is.long;
}

-- what is made of one item more
pub filter_map-more : {X Y : Type 0} (made : X → Option Y) (xs : List X) (i : ℕ) (x : X) → i < length xs → x ≡ get_or xs i x
    → filter_map made (take (i + 1) xs) ≡ filter_map made (take i xs) ++ cons_option (made x) []
filter_map-more made xs i x within is =
    ap (filter_map made) (take_more xs i x within) ∙ filter_map-append made (take i xs) (get_or xs i x ∷ [])
    ∙ ap (λ y. filter_map made (take i xs) ++ cons_option (made y) []) (sym is)

-- the next item becomes this one
pub made_stays : {X : Type 0} (made : X → Option X) (now old : List X) (left i : ℕ) (x y : X) → i < length old → x ≡ get_or old i x → made x ≡ Some y
    → InPlace (filter_map made (take i old)) now old left i → InPlace (filter_map made (take (i + 1) old)) (set now left y) old (left + 1) (i + 1)
made_stays made now old left i x y within is becomes so_far =
    let front = filter_map-more made old i x within is ∙ ap (λ one. filter_map made (take i old) ++ cons_option one []) becomes in
    subst (λ front. InPlace front (set now left y) old (left + 1) (i + 1)) (sym front) (in_place_stays (filter_map made (take i old)) now old left i y within so_far)

-- the next item leaves
pub made_gone : {X : Type 0} (made : X → Option X) (now old : List X) (left i : ℕ) (x : X) → i < length old → x ≡ get_or old i x → made x ≡ None
    → InPlace (filter_map made (take i old)) now old left i → InPlace (filter_map made (take (i + 1) old)) now old left (i + 1)
made_gone made now old left i x within is becomes so_far =
    let front = filter_map-more made old i x within is ∙ ap (λ one. filter_map made (take i old) ++ cons_option one []) becomes ∙ append-nil (filter_map made (take i old)) in
    subst (λ front. InPlace front now old left (i + 1)) (sym front) (in_place_gone (filter_map made (take i old)) now old left i so_far)

-- which items are picked, with one more
pub picked_more : {X : Type 0} (picks : List Bool) (xs : List X) (i : ℕ) (x : X) → i < length picks → i < length xs → x ≡ get_or xs i x
    → items_where_true (take (i + 1) picks) (take (i + 1) xs) ≡ items_where_true (take i picks) (take i xs) ++ cond (get_or picks i false) (x ∷ []) []
picked_more [] xs i x some within is = absurd (omega arith)
picked_more (pick ∷ picks) [] i x some within is = absurd (omega arith)
picked_more (true ∷ picks) (y ∷ xs) zero x some within is = ap (λ z. z ∷ []) (sym is)
picked_more (false ∷ picks) (y ∷ xs) zero x some within is = refl
picked_more (true ∷ picks) (y ∷ xs) (suc i) x some within is =
    let step = picked_more picks xs i x (omega arith) (omega arith) is in
    rw add-one (ap (λ zs. y ∷ zs) (rw add-one at step))
picked_more (false ∷ picks) (y ∷ xs) (suc i) x some within is =
    let step = picked_more picks xs i x (omega arith) (omega arith) is in
    rw add-one (rw add-one at step)

pub picked_stays : {X : Type 0} (picks : List Bool) (now old : List X) (left i : ℕ) (x : X) → i < length picks → i < length old → x ≡ get_or old i x → get_or picks i false ≡ true
    → InPlace (items_where_true (take i picks) (take i old)) now old left i
    → InPlace (items_where_true (take (i + 1) picks) (take (i + 1) old)) (set now left x) old (left + 1) (i + 1)
picked_stays picks now old left i x some within is pick so_far =
    let front = picked_more picks old i x some within is ∙ ap (λ here. items_where_true (take i picks) (take i old) ++ cond here (x ∷ []) []) pick in
    subst (λ front. InPlace front (set now left x) old (left + 1) (i + 1)) (sym front) (in_place_stays (items_where_true (take i picks) (take i old)) now old left i x within so_far)

pub picked_gone : {X : Type 0} (picks : List Bool) (now old : List X) (left i : ℕ) → i < length picks → i < length old → get_or picks i false ≡ false
    → InPlace (items_where_true (take i picks) (take i old)) now old left i
    → InPlace (items_where_true (take (i + 1) picks) (take (i + 1) old)) now old left (i + 1)
picked_gone picks now [] left i some within pick so_far = absurd (omega arith)
picked_gone picks now (x ∷ xs) left i some within pick so_far =
    let item = get_or (x ∷ xs) i x in
    let old = x ∷ xs in
    let front = picked_more picks old i item some within (get_or_default old i x item within)
    ∙ ap (λ here. items_where_true (take i picks) (take i old) ++ cond here (item ∷ []) []) pick
    ∙ append-nil (items_where_true (take i picks) (take i old)) in
    subst (λ front. InPlace front now old left (i + 1)) (sym front) (in_place_gone (items_where_true (take i picks) (take i old)) now old left i so_far)

-- what is chosen of one item more
pub chosen_more : {X Y : Type 0} (chosen : X → Y) (front : List X) (x : X) → map chosen (front ++ x ∷ []) ≡ map chosen front ++ chosen x ∷ []
chosen_more chosen [] x = refl
chosen_more chosen (y ∷ front) x = ap (λ rest. chosen y ∷ rest) (chosen_more chosen front x)
