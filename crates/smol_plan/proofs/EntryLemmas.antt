-- The entries of a list of pairs, two for each, and their order.
use Rattle.std.proofs.Common.{◌≡◌, ℕ, zero, suc, ◌+◌, ◌<◌, ◌≤◌, ◌/◌, Bool, true, false, ◌&&◌, ◌==◌, List, [], ◌∷◌, length, map, get_or, ◌⊎◌, refl, sym, ◌∙◌, ap, inl, inr, ⊎_elim, arith, if◌then◌else◌, add-zero, add-one}
use Rattle.std.specs.List.{sum_by}
use Rattle.std.specs.List.Sorted.{IsPermutation}
use Rattle.std.specs.Ordering.{is_lt, nat_cmp}
use Rattle.std.proofs.lemmas.Bool.{cases_eq, cases_lt, lt-ltb, eq-eqb, eqb-true, ne_eqb, and_parts, false≢true}
use Rattle.std.proofs.lemmas.Grind.{get_or_moved}
use Rattle.std.proofs.lemmas.List.{get_or-map, length-map}
use Rattle.std.proofs.lemmas.List.Sums.{sum_by-cons}
use Rattle.std.proofs.lemmas.List.Sorted.{sum_by-IsPermutation}
use Rattle.smol_plan.specs.declared.pair.Pair.{Pair}
use Rattle.smol_plan.specs.declared.pair.Side.{Side}
use Rattle.smol_plan.specs.declared.pair.Side.TheVariants.{Low, High}
use Rattle.smol_plan.specs.declared.entries.Entry.{Entry}
use Rattle.smol_plan.specs.Pair.{is_side, pair_at, molecule_of, molecule_at}
use Rattle.smol_plan.specs.Entries.{entry_at, entries_from, entry_of, IsNoLater, IsRising}
use Rattle.smol_plan.specs.Linked.{IsOf}
use Rattle.smol_plan.proofs.SideLemmas.{is_side-true, is_side-refl}

-- of two numbers the greater one has no earlier entry
no_later_of : (x y : ℕ) → x ≤ y → IsNoLater (entry_of x) (entry_of y)
no_later_of x y most = ⊎_elim
    (λ (less : x / 18446744073709551616 < y / 18446744073709551616). inl less)
    (λ (more : y / 18446744073709551616 ≤ x / 18446744073709551616).
    let same : x / 18446744073709551616 ≡ y / 18446744073709551616 = omega (arith, most, more) in
    inr (same, omega (arith, most, same)))
    (cases_lt (x / 18446744073709551616) (y / 18446744073709551616))

-- a sort of numbers leaves rising entries
pub IsRising-from_sorted : (numbers : List ℕ) → ((k : ℕ) (d : ℕ) → 0 ≤ k → k + 1 < length numbers → is_lt (nat_cmp (get_or numbers (k + 1) d) (get_or numbers k d)) ≡ false) → IsRising (map entry_of numbers)
IsRising-from_sorted numbers sorted k within =
    let inside : k + 1 < length numbers = omega (arith, within, length-map numbers entry_of) in
    let most : get_or numbers k 0 ≤ get_or numbers (k + 1) 0 = no_less (sorted k 0 (omega arith) inside) in
    rw (get_or-map entry_of numbers k 0 _ (omega (arith, inside)), get_or-map entry_of numbers (k + 1) 0 _ inside) (no_later_of (get_or numbers k 0) (get_or numbers (k + 1) 0) most)
  where
    no_less : {a b : ℕ} → is_lt (nat_cmp b a) ≡ false → a ≤ b
    no_less {a} {b} is = ⊎_elim (λ (less : b < a). absurd (false≢true (sym (rw (lt-ltb b a less) at is)))) (λ (more : a ≤ b). more) (cases_lt b a)

IsNoLater-trans : (x y z : Entry) → IsNoLater x y → IsNoLater y z → IsNoLater x z
IsNoLater-trans x y z (inl a) (inl b) = inl (omega arith)
IsNoLater-trans x y z (inl a) (inr b) = inl (omega (arith, b.0))
IsNoLater-trans x y z (inr a) (inl b) = inl (omega (arith, a.0))
IsNoLater-trans x y z (inr a) (inr b) = inr (a.0 ∙ b.0, omega (arith, a.1, b.1))

-- rising entries rise from any place to any later one
pub rising_far : (entries : List Entry) → IsRising entries → (p q : ℕ) → p ≤ q → q < length entries → IsNoLater (entry_at entries p) (entry_at entries q)
rising_far entries up p zero h l =
    let same : p ≡ 0 = omega arith in
    inr (ap (λ k. (entry_at entries k).molecule) same, omega (arith, ap (λ k. (entry_at entries k).pair) same))
rising_far entries up p (suc q) h l = ⊎_elim
    (λ (e : p ≡ suc q). inr (ap (λ k. (entry_at entries k).molecule) e, omega (arith, ap (λ k. (entry_at entries k).pair) e)))
    (λ (n : p ≡ suc q → ⊥). IsNoLater-trans (entry_at entries p) (entry_at entries q) (entry_at entries (suc q)) (rising_far entries up p q (omega arith) (omega arith)) (rw (← add-one q) (up q (omega arith))))
    (cases_eq p (suc q))

-- 1 for the entries of the pair j on the side
tally : ℕ → Side → Entry → ℕ
tally j side x = if (x.pair == j) && is_side x.side side then 1 else 0

IsOf-from_tally : (j : ℕ) (side : Side) (x : Entry) → 1 ≤ tally j side x → IsOf x j side
unfolding tally
IsOf-from_tally j side x h = go ((x.pair == j) && is_side x.side side) refl
  where
    go : (b : Bool) → ((x.pair == j) && is_side x.side side) ≡ b → IsOf x j side
    go true e =
        let parts = and_parts _ _ e in
        record { of_pair = eqb-true _ _ parts.0; on_side = is_side-true _ _ parts.1 }
    go false e = absurd (none (rw e at h))
      where
        none : 1 ≤ 0 → ⊥
        none w = omega arith

tally_one : (j : ℕ) (side : Side) (x : Entry) → IsOf x j side → tally j side x ≡ 1
unfolding tally
tally_one j side x h =
    rw (h.of_pair, h.on_side, eq-eqb j j refl, is_side-refl side) refl

tally_other : (j : ℕ) (side : Side) (x : Entry) → (x.pair ≡ j → ⊥) → tally j side x ≡ 0
unfolding tally
tally_other j side x n = rw (ne_eqb x.pair j n) refl

-- earlier pairs have no entry among these
tally_before : (j : ℕ) (side : Side) (i : ℕ) (pairs : List Pair) → j < i → sum_by (tally j side) (entries_from i pairs) ≡ 0
tally_before j side i [] l = refl
tally_before j side i (p ∷ pairs) l =
    let low : Entry = record { molecule = p.a; pair = i; side = Low } in
    let high : Entry = record { molecule = p.b; pair = i; side = High } in
    omega (arith, sum_by-cons (tally j side) low (high ∷ entries_from (suc i) pairs), sum_by-cons (tally j side) high (entries_from (suc i) pairs), tally_other j side low (λ e. omega arith), tally_other j side high (λ e. omega arith), tally_before j side (suc i) pairs (omega arith))

-- of the two entries of a pair one is on the side
tally_both : (j : ℕ) (side : Side) (p : Pair) (i : ℕ) → i ≡ j → tally j side record { molecule = p.a; pair = i; side = Low } + tally j side record { molecule = p.b; pair = i; side = High } ≡ 1
unfolding tally
tally_both j Low p i e = rw (eq-eqb i j e) refl
tally_both j High p i e = rw (eq-eqb i j e) refl

-- each pair of the list has one entry on each side
tally_inside : (j : ℕ) (side : Side) (i : ℕ) (pairs : List Pair) → i ≤ j → j < i + length pairs → sum_by (tally j side) (entries_from i pairs) ≡ 1
tally_inside j side i [] a b = absurd (omega arith)
tally_inside j side i (p ∷ pairs) a b =
    let low : Entry = record { molecule = p.a; pair = i; side = Low } in
    let high : Entry = record { molecule = p.b; pair = i; side = High } in
    ⊎_elim
    (λ (e : i ≡ j). omega (arith, sum_by-cons (tally j side) low (high ∷ entries_from (suc i) pairs), sum_by-cons (tally j side) high (entries_from (suc i) pairs), tally_both j side p i e, tally_before j side (suc i) pairs (omega arith)))
    (λ (n : i ≡ j → ⊥). omega (arith, sum_by-cons (tally j side) low (high ∷ entries_from (suc i) pairs), sum_by-cons (tally j side) high (entries_from (suc i) pairs), tally_other j side low n, tally_other j side high n, tally_inside j side (suc i) pairs (omega arith) (omega arith)))
    (cases_eq i j)

-- what adds up to more than nothing has a part that is more than nothing
some_part : (f : Entry → ℕ) (entries : List Entry) → 1 ≤ sum_by f entries → (k : ℕ) × (k < length entries) × (1 ≤ f (entry_at entries k))
some_part f [] h = absurd (omega arith)
some_part f (x ∷ entries) h = ⊎_elim
    (λ (l : f x < 1). let r = some_part f entries (omega (arith, sum_by-cons f x entries)) in (suc r.0, omega (arith, r.1), r.2))
    (λ (l : 1 ≤ f x). (0, omega arith, l))
    (cases_lt (f x) 1)

-- two parts are no more than the sum
one_part : (f : Entry → ℕ) (entries : List Entry) (k : ℕ) → k < length entries → f (entry_at entries k) ≤ sum_by f entries
one_part f [] k l = absurd (omega arith)
one_part f (x ∷ entries) zero l = omega (arith, sum_by-cons f x entries)
one_part f (x ∷ entries) (suc k) l =
    omega (arith, sum_by-cons f x entries, one_part f entries k (omega arith))

two_parts : (f : Entry → ℕ) (entries : List Entry) (p q : ℕ) → p < q → q < length entries → f (entry_at entries p) + f (entry_at entries q) ≤ sum_by f entries
two_parts f [] p q a l = absurd (omega arith)
two_parts f (x ∷ entries) p zero a l = absurd (omega arith)
two_parts f (x ∷ entries) zero (suc q) a l =
    omega (arith, sum_by-cons f x entries, one_part f entries q (omega arith))
two_parts f (x ∷ entries) (suc p) (suc q) a l =
    omega (arith, sum_by-cons f x entries, two_parts f entries p q (omega arith) (omega arith))

module _ (h : ℕ → Pair) where
  -- the pairs from the place i on are those of the list
  abbrev Gives : ℕ → List Pair → Type 0
  Gives i pairs = (k : ℕ) → k < length pairs → h (i + k) ≡ pair_at pairs k

  first_given : (i : ℕ) (p : Pair) (pairs : List Pair) → Gives i (p ∷ pairs) → h i ≡ p
  first_given i p pairs g = ap h (sym (add-zero i)) ∙ g 0 (omega arith)

  rest_given : (i : ℕ) (p : Pair) (pairs : List Pair) → Gives i (p ∷ pairs) → Gives (suc i) pairs
  rest_given i p pairs g k l =
      let same : suc i + k ≡ i + suc k = omega arith in
      ap h same ∙ g (suc k) (omega arith)

  -- each entry is of its pair
  entries_real : (i : ℕ) (pairs : List Pair) → Gives i pairs → (q : ℕ) → q < length (entries_from i pairs) → ((entry_at (entries_from i pairs) q).pair < i + length pairs) × ((entry_at (entries_from i pairs) q).molecule ≡ molecule_of (h (entry_at (entries_from i pairs) q).pair) (entry_at (entries_from i pairs) q).side)
  entries_real i [] g q l = absurd (omega arith)
  entries_real i (p ∷ pairs) g zero l = (omega arith, rw (first_given i p pairs g) refl)
  entries_real i (p ∷ pairs) g (suc zero) l = (omega arith, rw (first_given i p pairs g) refl)
  entries_real i (p ∷ pairs) g (suc (suc q)) l =
      let r = entries_real (suc i) pairs (rest_given i p pairs g) q (omega arith) in
      (omega (arith, r.0), r.1)

-- what holds of the sorted entries of a list of pairs
pub record AreEntries (pairs : List Pair) (entries : List Entry) : Type 0 where
  -- they rise
  pub rising : IsRising entries
  -- each is of a pair of the list and has its molecule
  pub in_list : (q : ℕ) → q < length entries → (entry_at entries q).pair < length pairs
  pub molecule : (q : ℕ) → q < length entries → (entry_at entries q).molecule ≡ molecule_at pairs (entry_at entries q).pair (entry_at entries q).side
  -- each pair has an entry for each side, and no two
  pub found : (j : ℕ) (side : Side) → j < length pairs → (q : ℕ) × (q < length entries) × IsOf (entry_at entries q) j side
  pub apart : (p q j : ℕ) (side : Side) → p < q → q < length entries → IsOf (entry_at entries p) j side → IsOf (entry_at entries q) j side → ⊥

-- the entries of a list of pairs, in another order
pub AreEntries-from_permutation : (pairs : List Pair) (entries : List Entry) → IsPermutation (entries_from 0 pairs) entries → IsRising entries → AreEntries pairs entries
AreEntries-from_permutation pairs entries perm up =
    record { rising = up; in_list = in_list; molecule = molecule; found = found; apart = apart }
  where
    from : (q : ℕ) → q < length entries → (k : ℕ) × (k < length (entries_from 0 pairs)) × (entry_at entries q ≡ entry_at (entries_from 0 pairs) k)
    from q l =
        let r = get_or_moved (entries_from 0 pairs) perm.moves q (record { molecule = 0; pair = 0; side = Low }) perm.below (rw (← perm.is) l) in
        (r.1.0, r.1.1, ap (λ es. entry_at es q) perm.is ∙ r.1.2)

    gives : (k : ℕ) → k < length pairs → pair_at pairs (0 + k) ≡ pair_at pairs k
    gives k l =
        let same : 0 + k ≡ k = omega arith in
        ap (pair_at pairs) same

    in_list : (q : ℕ) → q < length entries → (entry_at entries q).pair < length pairs
    in_list q l =
        let r = from q l in
        let s = entries_real (pair_at pairs) 0 pairs gives r.0 r.1 in
        omega (arith, ap (λ x. x.pair) r.2, s.0)

    molecule : (q : ℕ) → q < length entries → (entry_at entries q).molecule ≡ molecule_at pairs (entry_at entries q).pair (entry_at entries q).side
    molecule q l =
        let r = from q l in
        let s = entries_real (pair_at pairs) 0 pairs gives r.0 r.1 in
        rw r.2 s.1

    one : (j : ℕ) (side : Side) → j < length pairs → sum_by (tally j side) entries ≡ 1
    one j side l =
        sum_by-IsPermutation (tally j side) _ _ perm ∙ tally_inside j side 0 pairs (omega arith) (omega arith)

    found : (j : ℕ) (side : Side) → j < length pairs → (q : ℕ) × (q < length entries) × IsOf (entry_at entries q) j side
    found j side l =
        let r = some_part (tally j side) entries (omega (arith, one j side l)) in
        (r.0, r.1, IsOf-from_tally j side _ r.2)

    apart : (p q j : ℕ) (side : Side) → p < q → q < length entries → IsOf (entry_at entries p) j side → IsOf (entry_at entries q) j side → ⊥
    apart p q j side h l a b =
        let inside : j < length pairs = omega (arith, b.of_pair, in_list q l) in
        omega (arith, one j side inside, two_parts (tally j side) entries p q h l, tally_one j side _ a, tally_one j side _ b)
