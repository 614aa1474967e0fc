-- Two molecules that react are on one side of a closed reflecting box, and so is what they make.
use Rattle.std.proofs.Common.{◌≡◌, ℕ, ◌+◌, ◌*◌, ◌^◌, Bool, true, false, not, ◌||◌, List, [], ◌∷◌, get_or, All, Some, slice_get, cond, length, nat_le, refl, subst}
use Rattle.std.specs.Prelude.{◌↔◌}
use Rattle.std.proofs.lemmas.Bool.{and_parts, cond_both, lt-ltb}
use Rattle.std.proofs.lemmas.List.Elements.{All-append, All-cons, All-nil}
use Rattle.std.proofs.lemmas.List.Sorted.{All-permutation}
use Rattle.std.proofs.lemmas.Option.{get_or_from_slice_get, slice_get_within}
use Rattle.smol_geom.specs.declared.cuboid.Cuboid.{Cuboid}
use Rattle.smol_streams.proofs.Sizes.{word_small}
use Rattle.smol_streams.specs.Words.{key_of_seed}
use Rattle.smol_types.specs.declared.draft.Draft.{Draft}
use Rattle.smol_types.specs.declared.reaction.Reaction.{Reaction}
use Rattle.smol_types.specs.declared.state.Mol.{Mol}
use Rattle.smol_types.specs.declared.state.State.{State}
use Rattle.smol_types.specs.Sound.{IsSound}
use Rattle.smol_meaning.specs.Box.{IsInside}
use Rattle.smol_streams.specs.Chance.{pair_stream}
use Rattle.smol_meaning.specs.Encounters.{Encounter, encounters_from, encounters_of, encounters_of_two, encounters_with, event_of_two, listed, may_react}
use Rattle.smol_meaning.specs.Events.{is_free}
use Rattle.smol_meaning.specs.Meeting.{IsEncounter}
use Rattle.smol_meaning.specs.Motion.{difstep_of}
use Rattle.smol_meaning.specs.Placed.{IsPlaced}
use Rattle.smol_meaning.specs.Seen.{IsClosedBox, is_species}
use Rattle.smol_meaning.specs.Sight.{are_hidden, is_barred}
use Rattle.smol_meaning.proofs.Kept.{All-picked}
use Rattle.smol_meaning.proofs.Listing.{listed_moves}
use Rattle.smol_meaning.proofs.Meeting.{encounter, encounters_are}
use Rattle.smol_meaning.proofs.Stepping.{diffused_near}
use Rattle.smol_confined.specs.Boxes.{StandsIn}
use Rattle.smol_confined.specs.Laws.{IsBoxedStep, PairsAreConfined, ReactsOnOneSide, after_motion}
use Rattle.smol_confined.proofs.Barring.{seen_inside}
use Rattle.smol_confined.proofs.Making.{StandsNear, drawn_below, makes_inside}

-- two that meet see each other
abbrev pub SeeEachOther : Draft → Encounter → Type 0
SeeEachOther draft e = are_hidden draft e.a e.b ≡ false

module _ (draft : Draft) (seed k : ℕ) where
  none_hidden : (hidden : Bool) → not hidden ≡ true → hidden ≡ false
  none_hidden true e = absurd (cc e)
  none_hidden false e = refl

  may_see : (reaction : Reaction) (e : Encounter) → may_react draft seed k reaction e ≡ true → SeeEachOther draft e
  may_see reaction e may = none_hidden (are_hidden draft e.a e.b) (and_parts _ _ (and_parts _ _ (and_parts _ _ may).1).1).0

  two_see : (rank_a : ℕ) (a : Mol) (rank_b : ℕ) (b : Mol) (number : ℕ) (reactions : List Reaction)
      → All (SeeEachOther draft) (encounters_of_two draft seed k rank_a a rank_b b number reactions)
  two_see rank_a a rank_b b number [] = All-nil (SeeEachOther draft)
  two_see rank_a a rank_b b number (reaction ∷ reactions) =
      first (may_react draft seed k reaction (encounter rank_a a rank_b b number)) (may_see reaction (encounter rank_a a rank_b b number))
      (two_see rank_a a rank_b b (number + 1) reactions)
    where
      first : (here : Bool) → (here ≡ true → SeeEachOther draft (encounter rank_a a rank_b b number))
          → All (SeeEachOther draft) (encounters_of_two draft seed k rank_a a rank_b b (number + 1) reactions)
          → All (SeeEachOther draft) (cond here (encounter rank_a a rank_b b number ∷ encounters_of_two draft seed k rank_a a rank_b b (number + 1) reactions)
          (encounters_of_two draft seed k rank_a a rank_b b (number + 1) reactions))
      first true see more = All-cons (SeeEachOther draft) _ _ (see refl) more
      first false see more = more

  where_free : (free : Bool) (encounters : List Encounter) → All (SeeEachOther draft) encounters → All (SeeEachOther draft) (cond free encounters [])
  where_free true encounters see = see
  where_free false encounters see = All-nil (SeeEachOther draft)

  with_see : (rank_a : ℕ) (a : Mol) (rank_b : ℕ) (mols : List Mol) → All (SeeEachOther draft) (encounters_with draft seed k rank_a a rank_b mols)
  with_see rank_a a rank_b [] = All-nil (SeeEachOther draft)
  with_see rank_a a rank_b (b ∷ mols) =
      All-append (SeeEachOther draft) _ _ (where_free (is_free draft seed k b) _ (two_see rank_a a rank_b b 0 draft.reactions)) (with_see rank_a a (rank_b + 1) mols)

  from_see : (rank : ℕ) (mols : List Mol) → All (SeeEachOther draft) (encounters_from draft seed k rank mols)
  from_see rank [] = All-nil (SeeEachOther draft)
  from_see rank (a ∷ mols) =
      All-append (SeeEachOther draft) _ _ (where_free (is_free draft seed k a) _ (with_see rank a (rank + 1) mols)) (from_see (rank + 1) mols)

  -- all that meet in a step see each other
  all_see : (mols : List Mol) → All (SeeEachOther draft) (encounters_of draft seed k mols)
  unfolding encounters_of
  all_see mols =
      let serial = encounters_from draft seed k 0 mols in
      All-permutation (SeeEachOther draft) serial (listed draft.nearest serial) (listed_moves draft.nearest serial) (from_see 0 mols)

neither : (first second : Bool) → first || second ≡ false → (first ≡ false) × (second ≡ false)
neither true second e = absurd (cc e)
neither false second e = (refl, e)

-- two that see each other are both inside or both outside
one_side : (draft : Draft) → IsSound draft → (most : ℕ) (box : Cuboid) → IsClosedBox draft box → (a b : Mol) → IsPlaced draft most a → IsPlaced draft most b
    → are_hidden draft a b ≡ false → StandsIn box a ↔ StandsIn box b
unfolding are_hidden
one_side draft sound most box closed a b first second see =
    let seen = neither (is_barred draft a.species a.place b.place) (is_barred draft b.species b.place a.place) see in (
      λ inside. seen_inside draft sound most (is_species draft) box closed a.species (known a first) a.place b.place first.place second.place inside seen.0,
      λ inside. seen_inside draft sound most (is_species draft) box closed b.species (known b second) b.place a.place second.place first.place inside seen.1,
    )
  where
    known : (mol : Mol) → IsPlaced draft most mol → is_species draft mol.species ≡ true
    known mol is = lt-ltb mol.species (length draft.species) is.species

-- what holds of all holds of the one at a place
pub at_place : (P : Mol → Type 0) (mols : List Mol) (i : ℕ) (mol : Mol) → slice_get mols i ≡ Some mol → All P mols → P mol
at_place P mols i mol is all = subst P (get_or_from_slice_get mols i mol mol is) (all i mol (slice_get_within mols i mol is))

-- an encounter of molecules near enough for ways to be defined
reacts_on_one_side : (draft : Draft) → IsSound draft → (seed k : ℕ) (box : Cuboid) → IsClosedBox draft box → (mols : List Mol) → All (IsPlaced draft (2 ^ 57)) mols → (e : Encounter)
    → IsEncounter draft seed k mols e → SeeEachOther draft e → ReactsOnOneSide draft seed k box e
reacts_on_one_side draft sound seed k box closed mols placed e is see =
    let first = at_place (IsPlaced draft (2 ^ 57)) mols e.rank_a e.a is.first placed in
    let second = at_place (IsPlaced draft (2 ^ 57)) mols e.rank_b e.b is.second placed in
    let side = one_side draft sound (2 ^ 57) box closed e.a e.b first second see in
    let smaller = nat_le (difstep_of draft e.a.species) (difstep_of draft e.b.species) in
    record {
      side = side;
      products = λ inside.
          makes_inside draft sound box closed (event_of_two draft seed k e)
          (record {
            reaction = is.reaction;
            axis = drawn_below draft.dims _ sound.dims_above (word_small (key_of_seed seed) (pair_stream e.rank_a e.rank_b) (2048 * k + 2 * e.reaction + 1));
          })
          (cond_both smaller e.a.place e.b.place (StandsNear draft) (λ here. first.place) (λ there. second.place))
          (cond_both smaller e.a.place e.b.place (IsInside box) (λ here. inside) (λ there. side.0 inside));
    }

-- no molecule inside reacts with one outside, and no product of two leaves the box
pub pairs_are_confined : (draft : Draft) (seed : ℕ) (state : State) (box : Cuboid) → IsBoxedStep draft state box → PairsAreConfined draft seed state box
pairs_are_confined draft seed state box step =
    let k = state.step + 1 in
    let mols = after_motion draft seed state in
    All-picked (ReactsOnOneSide draft seed k box) _ (encounters_of draft seed k mols)
    (λ i d within.
    reacts_on_one_side draft step.sound seed k box step.closed mols (diffused_near draft step.sound seed state step.fits step.left)
    (get_or (encounters_of draft seed k mols) i d) (encounters_are draft seed k mols i d within) (all_see draft seed k mols i d within))
