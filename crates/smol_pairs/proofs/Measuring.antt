-- Encounters sorted by distance.
use Rattle.std.proofs.Common.{⊎_elim, ◌≡◌, ℕ, ◌+◌, ◌*◌, ◌%◌, ◌<◌, ◌≤◌, ◌⊎◌, true, false, inl, inr, List, [], ◌∷◌, length, get_or, map, All, Ordering, refl, sym, ap, subst, ◌∙◌, arith}
use Rattle.std.specs.Prelude.{Contains, IsPermutation}
use Rattle.std.specs.List.{IsDistinct}
use Rattle.std.specs.List.Sorted.{IsNonDecreasingBy, IsStrictlyIncreasing}
use Rattle.std.specs.Ordering.{is_lt, nat_cmp, ordering_then}
use lib.Dec.{eqb}
use Rattle.std.proofs.lemmas.Bool.{cases_order, eq-eqb, false≢true, le-ltb, lt-ltb, ne_eqb}
use Rattle.std.proofs.lemmas.List.{get_or-map, length-map}
use Rattle.std.proofs.lemmas.List.Elements.{All-contains, All-contains_itself, All-head, All-map, All-tail, All-weaker}
use Rattle.std.proofs.lemmas.List.Kept.{AllPairs-from_increasing}
use Rattle.std.proofs.lemmas.List.Sorted.{All-permutation, Contains-permutation, IsNonDecreasingBy-from_all_adjacent, IsPermutation-map, IsPermutation-sym}
use Rattle.std.proofs.lemmas.Map.Keys.{IsDistinct-IsPermutation, IsDistinct-from_apart, IsStrictlyIncreasing-from_distinct, ge_from_not_lt}
use Rattle.smol_types.specs.declared.state.Mol.{Mol}
use Rattle.smol_pairs.specs.declared.encounter.Encounter.{Encounter}
use Rattle.smol_pairs.specs.declared.listing.Measured.{Measured}
use Rattle.smol_pairs.specs.Keys.{HaveSame, IsOfKey, key_of}
use Rattle.smol_pairs.specs.Listing.{HasRoom, key_in, measured_at, met_of, number_of, square_at}

-- what an order by numbers and then by something else says of two that are not the wrong way round
then_from : (a b : ℕ) (o : Ordering) → is_lt (ordering_then (nat_cmp b a) o) ≡ false → (a < b) ⊎ ((a ≡ b) × (is_lt o ≡ false))
then_from a b o e = ⊎_elim
    (λ (same : a ≡ b). let level : a ≤ b = omega (arith, same) in inr (same, rw (le-ltb b a level, eq-eqb b a (sym same)) at e))
    (λ h. ⊎_elim (λ (less : a < b). inl less) (λ (more : b < a). absurd (false≢true (sym (rw (lt-ltb b a more) at e)))) h)
    (cases_order a b)

-- encounters as they are compared
abbrev by_ranks : Encounter → Encounter → Ordering
by_ranks e f = ordering_then (nat_cmp e.rank_a f.rank_a) (ordering_then (nat_cmp e.rank_b f.rank_b) (nat_cmp e.reaction f.reaction))

ranks_lower : (e f : Encounter) → IsOfKey e → IsOfKey f → is_lt (by_ranks f e) ≡ false → key_of e ≤ key_of f
ranks_lower e f room_e room_f up = ⊎_elim
    (λ (less : e.rank_a < f.rank_a). omega (arith, less, room_e.b, room_e.reaction))
    (λ same. ⊎_elim
    (λ (less : e.rank_b < f.rank_b). omega (arith, same.0, less, room_e.reaction))
    (λ also. let last = ge_from_not_lt f.reaction e.reaction also.1 in omega (arith, same.0, also.0, last))
    (then_from e.rank_b f.rank_b (nat_cmp f.reaction e.reaction) same.1))
    (then_from e.rank_a f.rank_a (ordering_then (nat_cmp f.rank_b e.rank_b) (nat_cmp f.reaction e.reaction)) up)

short : (e : Encounter) → IsOfKey e → key_of e < 1125899906842624
short e room = omega (arith, room.a, room.b, room.reaction)

-- and with their distances
measured_lower : (x y : Measured) → HasRoom x → HasRoom y → is_lt (ordering_then (nat_cmp y.square x.square) (by_ranks y.met x.met)) ≡ false
    → number_of x ≤ number_of y
measured_lower x y room_x room_y up = ⊎_elim
    (λ (less : x.square < y.square). let few = short x.met room_x in omega (arith, less, few))
    (λ same. let is = same.0 in let most = ranks_lower x.met y.met room_x room_y same.1 in omega (arith, is, most))
    (then_from x.square y.square (by_ranks y.met x.met) up)

pub sorted_rise : (measured : List Measured) → All HasRoom measured
    → ((k : ℕ) (d : Measured) → 0 ≤ k → k + 1 < length measured
    → is_lt (ordering_then (nat_cmp (get_or measured (k + 1) d).square (get_or measured k d).square) (by_ranks (get_or measured (k + 1) d).met (get_or measured k d).met)) ≡ false)
    → IsNonDecreasingBy number_of measured
sorted_rise measured room up =
    IsNonDecreasingBy-from_all_adjacent number_of measured (λ k d within.
    measured_lower (get_or measured k d) (get_or measured (k + 1) d) (room k d (omega (arith, within))) (room (k + 1) d within)
    (up k d (omega arith) within))

-- numbers of which something else rises differ
apart_by : (f : ℕ → ℕ) (keys : List ℕ) → IsStrictlyIncreasing (map f keys) → IsDistinct eqb keys
apart_by f keys up =
    IsDistinct-from_apart eqb keys (λ i j d less within.
    let here = get_or-map f keys i d 0 (omega (arith, less, within)) in
    let there = get_or-map f keys j d 0 within in
    let lower = AllPairs-from_increasing (map f keys) up i j 0 less (omega (arith, within, length-map keys f)) in
    ne_eqb (get_or keys i d) (get_or keys j d) (λ same. let both = ap f same in omega (arith, here, there, lower, both)))

eqb_turned : (x y : ℕ) → eqb x y ≡ eqb y x
eqb_turned x y = ⊎_elim
    (λ (same : x ≡ y). eq-eqb x y same ∙ sym (eq-eqb y x (sym same)))
    (λ h. let one : x ≡ y → ⊥ = λ e. apart h e in
    let other : y ≡ x → ⊥ = λ e. apart h (sym e) in
    ne_eqb x y one ∙ sym (ne_eqb y x other))
    (cases_order x y)
  where
    apart : (x < y) ⊎ (y < x) → x ≡ y → ⊥
    apart (inl less) same = omega (arith, less, same)
    apart (inr more) same = omega (arith, more, same)

module _ (mols : List Mol) (found : List Encounter) (room : All IsOfKey found) where
  -- the encounters with their distances
  abbrev pub all_measured : List Measured
  all_measured = map (measured_at mols) found

  last_bits : (es : List Encounter) → All IsOfKey es → map (λ key. key % 1125899906842624) (map number_of (map (measured_at mols) es)) ≡ map key_of es
  last_bits [] small = refl
  last_bits (e ∷ es) small =
      let few = short e (All-head IsOfKey e es small) in
      let here : (square_at mols e * 1125899906842624 + key_of e) % 1125899906842624 ≡ key_of e = omega (arith, few) in
      let rest = last_bits es (All-tail IsOfKey e es small) in
      λ i. here i ∷ rest i

  module _ (sorted : List Measured) (moved : IsPermutation all_measured sorted) (up : IsNonDecreasingBy number_of sorted)
      (rising : IsStrictlyIncreasing (map key_of found)) where
    numbers_rise : IsStrictlyIncreasing (map number_of sorted)
    numbers_rise =
        IsStrictlyIncreasing-from_distinct (map number_of sorted)
        (λ i j d most within.
        let inside : j < length sorted = omega (arith, within, length-map sorted number_of) in
        let none : Measured = record { square = 0; met = record { rank_a = 0; rank_b = 0; reaction = 0 } } in
        let here = get_or-map number_of sorted i none d (omega (arith, most, inside)) in
        let there = get_or-map number_of sorted j none d inside in
        let rise = up i j none most inside in
        omega (arith, here, there, rise))
        (IsDistinct-IsPermutation eqb eqb_turned (map number_of all_measured) (map number_of sorted) (IsPermutation-map number_of all_measured sorted moved)
        (apart_by (λ key. key % 1125899906842624) (map number_of all_measured) (subst IsStrictlyIncreasing (sym (last_bits found room)) rising)))

    -- each has the distance of its own molecules
    each_measured : All (λ (m : Measured). m.square ≡ square_at mols m.met) sorted
    each_measured =
        All-permutation (λ (m : Measured). m.square ≡ square_at mols m.met) all_measured sorted moved
        (All-map (λ (m : Measured). m.square ≡ square_at mols m.met) (measured_at mols) found (λ k d within. refl))

    keys_are : (ms : List Measured) → All (λ (m : Measured). m.square ≡ square_at mols m.met) ms
        → map (key_in true mols) (map met_of ms) ≡ map number_of ms
    keys_are [] each = refl
    keys_are (m ∷ ms) each =
        let here = ap (λ (square : ℕ). square * 1125899906842624 + key_of m.met)
        (sym (All-head (λ (m : Measured). m.square ≡ square_at mols m.met) m ms each)) in
        let rest = keys_are ms (All-tail (λ (m : Measured). m.square ≡ square_at mols m.met) m ms each) in
        λ i. here i ∷ rest i

    -- the keys rise in the sorted order
    pub keys_sorted : IsStrictlyIncreasing (map (key_in true mols) (map met_of sorted))
    keys_sorted = subst IsStrictlyIncreasing (sym (keys_are sorted each_measured)) numbers_rise

    mets_back : (es : List Encounter) → map met_of (map (measured_at mols) es) ≡ es
    mets_back [] = refl
    mets_back (e ∷ es) = λ i. e ∷ mets_back es i

    -- and the encounters are the same
    pub same_sorted : HaveSame found (map met_of sorted)
    same_sorted =
        let all = map met_of sorted in
        let turned : IsPermutation found all = subst (λ (es : List Encounter). IsPermutation es all) (mets_back found)
        (IsPermutation-map met_of all_measured sorted moved) in
        record {
          kept = All-weaker (Contains found) (Contains all) (λ e has. Contains-permutation found all e turned has) found (All-contains_itself found);
          old = All-weaker (Contains all) (Contains found) (λ e has. Contains-permutation all found e (IsPermutation-sym found all turned) has) all (All-contains_itself all);
        }

pub same_then : (xs ys zs : List Encounter) → HaveSame xs ys → HaveSame ys zs → HaveSame xs zs
same_then xs ys zs first second = record {
  kept = All-weaker (Contains ys) (Contains zs) (λ e has. All-contains (Contains zs) ys e second.kept has) xs first.kept;
  old = All-weaker (Contains ys) (Contains xs) (λ e has. All-contains (Contains xs) ys e first.old has) zs second.old;
}
