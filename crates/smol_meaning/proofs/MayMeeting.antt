-- The pairs that may react are those that meet the conditions, and are listed in order.
use Rattle.std.proofs.Common.{⊎_elim, ◌≡◌, ℕ, ◌+◌, ◌*◌, ◌≤◌, Bool, true, false, ◌&&◌, ◌==◌, not, inl, inr, List, [], ◌∷◌, map, Option, None, Some, refl, sym, ap, subst, ◌∙◌, arith, unsigned_abs}
use Rattle.std.specs.Prelude.{◌↔◌, Contains, slice_get}
use Rattle.std.proofs.lemmas.Bool.{and_from, and_parts, eq-eqb, eqb-true, leb-true, le-leb, lt-ltb, ltb-true, not_from_false, or_cases, or_left, or_right}
use Rattle.smol_num.specs.declared.quantities.Micro.{Micro}
use Rattle.smol_geom.specs.declared.place.Place.{Place}
use Rattle.smol_geom.specs.Place.{square_of_distance}
use Rattle.smol_geom.specs.Moments.{Has}
use Rattle.smol_geom.proofs.Lists.{contains_had, has_contained}
use Rattle.smol_plan.specs.declared.pair.Pair.{Pair}
use Rattle.smol_types.specs.declared.draft.Draft.{Draft}
use Rattle.smol_types.specs.declared.state.Mol.{Mol}
use Rattle.smol_types.specs.Reactions.{reacts_together}
use Rattle.smol_streams.specs.Chance.{pair_word}
use Rattle.smol_meaning.specs.Encounters.{Encounter, are_near, candidates_of, encounters_from, encounters_of, encounters_of_two, may_react, pair_of}
use Rattle.smol_meaning.specs.Sight.{are_hidden}
use Rattle.smol_meaning.specs.Who.{AreOfTwo, DrawsNone, MayMeet}
use Rattle.smol_meaning.proofs.Candidates.{are_from, are_two, from_are, two_are}
use Rattle.smol_meaning.proofs.Drawing.{draws_free, free_draws}
use Rattle.smol_meaning.proofs.Listing.{has_listed, listed_has}
use Rattle.smol_meaning.proofs.Meeting.{encounter}

-- the reactants of a reaction of two
of_two : (a b : ℕ) (reactants : List ℕ) → reacts_together a b reactants ≡ true → AreOfTwo a b reactants
of_two a b [] is = absurd (cc)
of_two a b (one ∷ []) is = absurd (cc)
of_two a b (one ∷ two ∷ []) is =
    ⊎_elim
    (λ h.
    let parts = and_parts (one == a) (two == b) h in
    let first = eqb-true one a parts.0 in
    let second = eqb-true two b parts.1 in
    inl (λ i. first i ∷ second i ∷ []))
    (λ h.
    let parts = and_parts (one == b) (two == a) h in
    let first = eqb-true one b parts.0 in
    let second = eqb-true two a parts.1 in
    inr (λ i. first i ∷ second i ∷ []))
    (or_cases ((one == a) && (two == b)) ((one == b) && (two == a)) is)
of_two a b (one ∷ two ∷ three ∷ more) is = absurd (cc)

together : (a b : ℕ) (reactants : List ℕ) → AreOfTwo a b reactants → reacts_together a b reactants ≡ true
together a b reactants (inl is) =
    ap (reacts_together a b) is
    ∙ or_left ((a == a) && (b == b)) ((a == b) && (b == a)) (and_from (a == a) (b == b) (eq-eqb a a refl) (eq-eqb b b refl))
together a b reactants (inr is) =
    ap (reacts_together a b) is
    ∙ or_right ((b == a) && (a == b)) ((b == b) && (a == a)) (and_from (b == b) (a == a) (eq-eqb b b refl) (eq-eqb a a refl))

-- a radius that is given and isn't exceeded
record IsNear (given : Option Micro) (a b : Place) : Type 0 where
  radius : Micro
  is : given ≡ Some radius
  near : square_of_distance a b ≤ 4 * (unsigned_abs radius.0 * unsigned_abs radius.0)

near_by : (given : Option Micro) (a b : Place) → are_near given a b ≡ true → IsNear given a b
near_by None a b is = absurd (cc)
near_by (Some radius) a b is =
    record { radius = radius; is = refl; near = leb-true (square_of_distance a b) (4 * (unsigned_abs radius.0 * unsigned_abs radius.0)) is }

near_from : (given : Option Micro) (a b : Place) (radius : Micro) → given ≡ Some radius
    → square_of_distance a b ≤ 4 * (unsigned_abs radius.0 * unsigned_abs radius.0) → are_near given a b ≡ true
near_from given a b radius is near =
    ap (λ g. are_near g a b) is ∙ le-leb (square_of_distance a b) (4 * (unsigned_abs radius.0 * unsigned_abs radius.0)) near

seen_from : (hidden : Bool) → not hidden ≡ true → hidden ≡ false
seen_from true is = absurd (cc)
seen_from false is = refl

module _ (draft : Draft) (seed k : ℕ) (mols : List Mol) where
  -- an encounter meets the conditions
  meets : (e : Encounter) → Has (encounters_of draft seed k mols) e → MayMeet draft seed k mols e
  unfolding encounters_of
  meets e has =
      let found = from_are draft seed k 0 mols e (listed_has draft.nearest (encounters_from draft seed k 0 mols) e has) in
      let m = found.2 in
      let by = two_are draft seed k (0 + found.0) m.one (0 + found.1) m.other 0 draft.reactions e m.has in
      let r = by.1 in
      let at : by.0 ≡ 0 + by.0 = omega arith in
      let at_one : found.0 ≡ 0 + found.0 = omega arith in
      let at_other : found.1 ≡ 0 + found.1 = omega arith in
      let parts = and_parts (reacts_together e.a.species e.b.species r.reaction.reactants) _ r.may in
      let further = and_parts (are_near r.reaction.radius e.a.place e.b.place) _ parts.1 in
      let last = and_parts (not (are_hidden draft e.a e.b)) _ further.1 in
      let near = near_by r.reaction.radius e.a.place e.b.place further.0 in
      let one_is : m.one ≡ e.a = ap (λ (f : Encounter). f.a) r.same in
      let other_is : m.other ≡ e.b = ap (λ (f : Encounter). f.b) r.same in
      let first_rank : found.0 ≡ e.rank_a = at_one ∙ ap (λ (f : Encounter). f.rank_a) r.same in
      let second_rank : found.1 ≡ e.rank_b = at_other ∙ ap (λ (f : Encounter). f.rank_b) r.same in
      let number : by.0 ≡ e.reaction = at ∙ ap (λ (f : Encounter). f.reaction) r.same in
      record {
        first = ap (slice_get mols) (sym first_rank) ∙ m.one_listed ∙ ap Some one_is;
        second = ap (slice_get mols) (sym second_rank) ∙ m.other_listed ∙ ap Some other_is;
        apart = let l = m.apart in omega (arith, l, first_rank, second_rank);
        first_free = subst (DrawsNone draft seed k) one_is (free_draws draft seed k m.one m.one_free);
        second_free = subst (DrawsNone draft seed k) other_is (free_draws draft seed k m.other m.other_free);
        reaction = r.reaction;
        listed = ap (slice_get draft.reactions) (sym number) ∙ r.listed;
        species = of_two e.a.species e.b.species r.reaction.reactants parts.0;
        radius = near.radius;
        given = near.is;
        near = near.near;
        seen = seen_from (are_hidden draft e.a e.b) last.0;
        word = ltb-true (pair_word seed e.rank_a e.rank_b k e.reaction) r.reaction.threshold.0 last.1;
      }

  may_react_by : (e : Encounter) (is : MayMeet draft seed k mols e) → may_react draft seed k is.reaction e ≡ true
  may_react_by e is =
      and_from (reacts_together e.a.species e.b.species is.reaction.reactants) _
      (together e.a.species e.b.species is.reaction.reactants is.species)
      (and_from (are_near is.reaction.radius e.a.place e.b.place) _
      (near_from is.reaction.radius e.a.place e.b.place is.radius is.given is.near)
      (and_from (not (are_hidden draft e.a e.b)) _ (not_from_false (are_hidden draft e.a e.b) is.seen)
      (lt-ltb (pair_word seed e.rank_a e.rank_b k e.reaction) is.reaction.threshold.0 is.word)))

  -- and what meets them is one
  met : (e : Encounter) → MayMeet draft seed k mols e → Has (encounters_of draft seed k mols) e
  unfolding encounters_of
  met e is =
      let at : 0 + e.reaction ≡ e.reaction = omega arith in
      let at_one : e.rank_a ≡ 0 + e.rank_a = omega arith in
      let at_other : e.rank_b ≡ 0 + e.rank_b = omega arith in
      let here : encounter e.rank_a e.a e.rank_b e.b (0 + e.reaction) ≡ e = ap (encounter e.rank_a e.a e.rank_b e.b) at in
      let may : may_react draft seed k is.reaction (encounter e.rank_a e.a e.rank_b e.b (0 + e.reaction)) ≡ true = ap
      (may_react draft seed k is.reaction) here ∙ may_react_by e is in
      let two = subst (Has (encounters_of_two draft seed k e.rank_a e.a e.rank_b e.b 0 draft.reactions)) here
      (are_two draft seed k e.rank_a e.a e.rank_b e.b 0 draft.reactions e.reaction is.reaction is.listed may) in
      has_listed draft.nearest (encounters_from draft seed k 0 mols) e
      (are_from draft seed k 0 mols e e.rank_a e.rank_b e.a e.b is.first is.second is.apart
      (draws_free draft seed k e.a is.first_free) (draws_free draft seed k e.b is.second_free)
      (subst (λ n. Has (encounters_of_two draft seed k n e.a (0 + e.rank_b) e.b 0 draft.reactions) e) at_one
      (subst (λ n. Has (encounters_of_two draft seed k e.rank_a e.a n e.b 0 draft.reactions) e) at_other two)))

  pub may_meet : (e : Encounter) → Contains (encounters_of draft seed k mols) e ↔ MayMeet draft seed k mols e
  may_meet e = (
    λ has. meets e (has_contained (encounters_of draft seed k mols) e has),
    λ is. contains_had
        (encounters_of draft seed k mols) e (met e is),
  )

  -- a candidate is the pair of one of them
  mapped : (es : List Encounter) (pair : Pair) → Has (map pair_of es) pair → (e : Encounter) × (pair_of e ≡ pair) × Has es e
  mapped [] pair has = absurd has
  mapped (e ∷ es) pair (inl is) = (e, is, inl refl)
  mapped (e ∷ es) pair (inr has) = let rest = mapped es pair has in (rest.0, rest.1, inr rest.2)

  maps : (es : List Encounter) (e : Encounter) → Has es e → Has (map pair_of es) (pair_of e)
  maps [] e has = absurd has
  maps (f ∷ es) e (inl is) = inl (ap pair_of is)
  maps (f ∷ es) e (inr has) = inr (maps es e has)

  pub is_candidate : (pair : Pair) → Contains (candidates_of draft seed k mols) pair ↔
      ((e : Encounter) × (pair_of e ≡ pair) × MayMeet draft seed k mols e)
  is_candidate pair = (
    λ has.
        let found = mapped (encounters_of draft seed k mols) pair (has_contained (candidates_of draft seed k mols) pair has) in
        (found.0, found.1, meets found.0 found.2),
    λ is.
        contains_had (candidates_of draft seed k mols) pair
        (subst (Has (candidates_of draft seed k mols)) is.1 (maps (encounters_of draft seed k mols) is.0 (met is.0 is.2))),
  )
