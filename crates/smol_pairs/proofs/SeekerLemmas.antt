-- Seekers, in any order.
use Rattle.std.proofs.Common.{◌≡◌, ℕ, zero, suc, ◌+◌, ◌^◌, ◌<◌, ◌≤◌, ⊎_elim, Bool, true, false, List, [], ◌++◌, ◌∷◌, length, get_or, map, All, sym, ap, subst, refl, ◌∙◌, arith}
use Rattle.std.specs.Prelude.{Contains, IsPermutation, is_some}
use Rattle.std.proofs.lemmas.Bool.{cases_lt}
use Rattle.std.proofs.lemmas.List.{get_or-map, length-map, map-append}
use Rattle.std.proofs.lemmas.List.Elements.{All-nil, All-cons, All-head, All-tail, All-map, All-weaker, Contains-append_left, Contains-push}
use Rattle.std.proofs.lemmas.List.Sorted.{All-permutation, Contains-permutation}
use Rattle.smol_geom.specs.declared.place.Place.{Place}
use Rattle.smol_geom.specs.Axes.{IsWithin}
use Rattle.smol_types.specs.declared.draft.Draft.{Draft}
use Rattle.smol_types.specs.declared.state.Mol.{Mol}
use Rattle.smol_meaning.specs.Events.{is_free}
use Rattle.smol_meaning.specs.Sighted.{IsPlaceWithin}
use Rattle.smol_cells.specs.Placed.{counted, indexes, nowhere, place_at}
use Rattle.smol_cells.proofs.Counting.{length_indexes}
use Rattle.smol_pairs.specs.declared.search.Search.{Search}
use Rattle.smol_pairs.specs.declared.seeker.Seeker.{Seeker}
use Rattle.smol_pairs.specs.Reach.{reach_of}
use Rattle.smol_pairs.specs.Searching.{place_in}
use Rattle.smol_pairs.specs.Seekers.{AreCovered, IsSeeker, mol_at, no_seeker, nobody, place_of, rank_of, seeker_at}
use Rattle.smol_pairs.proofs.Members.{contains_map, mapped_twice}

-- a seeker stands no farther away than molecules may
pub small_seeker : (draft : Draft) (seed k : ℕ) (mols : List Mol) (seeker : Seeker) → All (λ (mol : Mol). IsPlaceWithin (2 ^ 57) mol.place) mols
    → IsSeeker draft seed k mols seeker → IsWithin (2 ^ 57) seeker.place.0
small_seeker draft seed k mols seeker small is =
    subst (λ (place : Place). IsWithin (2 ^ 57) place.0) (sym is.place) (small seeker.rank nobody is.rank).size

pub small_place : (search : Search) (q : ℕ) → q < length search.seekers.now → IsWithin (2 ^ 57) (place_in search q).0
small_place search q inside =
    small_seeker search.panels.now search.seed search.k search.mols.now (seeker_at search.seekers.now q) search.places (search.known q no_seeker inside)

-- what is said of a molecule that is free
pub free_there : (draft : Draft) (seed k : ℕ) (free : List Bool) (mols : List Mol) (rank : ℕ) → free ≡ map (is_free draft seed k) mols → rank < length mols
    → get_or free rank false ≡ is_free draft seed k (mol_at mols rank)
free_there draft seed k free mols rank is within =
    ap (λ (free : List Bool). get_or free rank false) is ∙ get_or-map (is_free draft seed k) mols rank nobody false within

module _ (draft : Draft) (seed k : ℕ) (mols : List Mol) (rank : ℕ) (seekers : List Seeker) (so_far : AreCovered draft seed k mols rank seekers) where
  -- with the molecule of the next rank one more is covered
  pub covered_next : (seeker : Seeker) → seeker.rank ≡ rank → AreCovered draft seed k mols (rank + 1) (seekers ++ seeker ∷ [])
  covered_next seeker is = λ i below free some.
      subst (λ (ranks : List ℕ). Contains ranks i) (sym (map-append rank_of seekers (seeker ∷ [])))
      (⊎_elim
      (λ (less : i < rank). Contains-append_left (map rank_of seekers) (seeker.rank ∷ []) i (so_far i less free some))
      (λ (more : rank ≤ i). let same : seeker.rank ≡ i = omega (arith, is, more, below) in
      subst (Contains (map rank_of seekers ++ seeker.rank ∷ [])) same (Contains-push (map rank_of seekers) seeker.rank))
      (cases_lt i rank))

  -- and without it, where it isn't free or reaches nobody
  pub covered_passed : (is_free draft seed k (mol_at mols rank) ≡ true → is_some (reach_of (mol_at mols rank).species draft.reactions) ≡ true → ⊥)
      → AreCovered draft seed k mols (rank + 1) seekers
  covered_passed never = λ i below free some. ⊎_elim
      (λ (less : i < rank). so_far i less free some)
      (λ (more : rank ≤ i). let same : i ≡ rank = omega (arith, more, below) in
      absurd (never (subst (λ (r : ℕ). is_free draft seed k (mol_at mols r) ≡ true) same free)
      (subst (λ (r : ℕ). is_some (reach_of (mol_at mols r).species draft.reactions) ≡ true) same some)))
      (cases_lt i rank)

-- the places of seekers are no farther away either
pub places_small : (draft : Draft) (seed k : ℕ) (mols : List Mol) (seekers : List Seeker) → All (λ (mol : Mol). IsPlaceWithin (2 ^ 57) mol.place) mols
    → All (IsSeeker draft seed k mols) seekers → All (λ (place : Place). IsWithin (2 ^ 58) place.0) (map place_of seekers)
places_small draft seed k mols seekers small each =
    All-map (λ (place : Place). IsWithin (2 ^ 58) place.0) place_of seekers
    (All-weaker (IsSeeker draft seed k mols) (λ (seeker : Seeker). IsWithin (2 ^ 58) seeker.place.0)
    (λ seeker is. let near = small_seeker draft seed k mols seeker small is in (omega (arith, near.0), omega (arith, near.1), omega (arith, near.2))) seekers each)

-- the indexes of so many things are those below
counted_below : (first count : ℕ) → All (λ index. index < first + count) (counted first count)
counted_below first zero = All-nil (λ index. index < first + 0)
counted_below first (suc count) = All-cons (λ index. index < first + suc count) first (counted (suc first) count) (omega arith)
    (All-weaker (λ index. index < suc first + count) (λ index. index < first + suc count) (λ index below. omega (arith, below)) (counted (suc first) count) (counted_below (suc first) count))

counted_at : (first count i d : ℕ) → i < count → get_or (counted first count) i d ≡ first + i
counted_at first zero i d inside = absurd (omega arith)
counted_at first (suc count) zero d inside = omega arith
counted_at first (suc count) (suc i) d inside = counted_at (suc first) count i d (omega arith) ∙ (let e : suc first + i ≡ first + suc i = omega arith in e)

-- an order of the places of seekers is one of the seekers
pub order_of_seekers : (seekers : List Seeker) (places : List Place) (order : List ℕ) → places ≡ map place_of seekers
    → IsPermutation (indexes (length places)) order → IsPermutation (indexes (length seekers)) order
order_of_seekers seekers places order are is =
    subst (λ (count : ℕ). IsPermutation (indexes count) order) (ap length are ∙ length-map seekers place_of) is

module _ (seekers : List Seeker) (order : List ℕ) (is : IsPermutation (indexes (length seekers)) order) where
  pub order_below : All (λ index. index < length seekers) order
  order_below = All-permutation (λ index. index < length seekers) (indexes (length seekers)) order is
      (All-weaker (λ index. index < 0 + length seekers) (λ index. index < length seekers) (λ index below. omega (arith, below)) (indexes (length seekers)) (counted_below 0 (length seekers)))

  -- what holds of the seekers holds of them in order
  pub all_ordered : (P : Seeker → Type 0) → All P seekers → All P (map (seeker_at seekers) order)
  all_ordered P each = All-map P (seeker_at seekers) order
      (All-weaker (λ index. index < length seekers) (λ index. P (seeker_at seekers index)) (λ index below. each index no_seeker below) order order_below)

  -- each index is one of the order
  index_there : (i : ℕ) → i < length seekers → Contains order i
  index_there i inside = Contains-permutation (indexes (length seekers)) order i is
      (i, omega (arith, inside, length_indexes (length seekers)), counted_at 0 (length seekers) i i inside ∙ (let e : 0 + i ≡ i = omega arith in e))

  -- each rank is there in order
  pub rank_ordered : (rank : ℕ) → Contains (map rank_of seekers) rank → Contains (map rank_of (map (seeker_at seekers) order)) rank
  rank_ordered rank has =
      let inside : has.0 < length seekers = omega (arith, has.1, length-map seekers rank_of) in
      let there = contains_map rank_of (map (seeker_at seekers) order) (seeker_at seekers has.0) (contains_map (seeker_at seekers) order has.0 (index_there has.0 inside)) in
      subst (Contains (map rank_of (map (seeker_at seekers) order))) (sym (get_or-map rank_of seekers has.0 no_seeker rank inside) ∙ has.2) there

  -- the places in order are the ordered places
  pub places_ordered : map (place_at (map place_of seekers)) order ≡ map place_of (map (seeker_at seekers) order)
  places_ordered = each order order_below ∙ sym (mapped_twice place_of (seeker_at seekers) order)
    where
      each : (order : List ℕ) → All (λ index. index < length seekers) order
          → map (place_at (map place_of seekers)) order ≡ map (λ index. place_of (seeker_at seekers index)) order
      each [] below = refl
      each (index ∷ order) below =
          let here = get_or-map place_of seekers index no_seeker nowhere (All-head (λ index. index < length seekers) index order below) in
          let rest = each order (All-tail (λ index. index < length seekers) index order below) in
          λ i. here i ∷ rest i
