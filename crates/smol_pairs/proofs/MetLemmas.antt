-- What was found grows.
use Rattle.std.proofs.Common.{◌≡◌, ℕ, ◌<◌, true, List, [], ◌++◌, length, map, All, Option, Some, None, sym, subst, ◌∙◌, arith}
use Rattle.std.specs.Prelude.{Contains}
use Rattle.std.proofs.lemmas.List.Elements.{All-weaker, All-contains, All-append, All-nil, All-map, All-contains_itself, Contains-append_left, Contains-append_right}
use Rattle.smol_types.specs.declared.draft.Draft.{Draft}
use Rattle.smol_types.specs.declared.state.Mol.{Mol}
use Rattle.smol_meaning.specs.Encounters.{Encounter, encounters_of, encounters_of_two}
use Rattle.smol_meaning.specs.Events.{is_free}
use Rattle.smol_geom.specs.declared.place.Place.{Place}
use Rattle.smol_pairs.specs.declared.encounter.Encounter.{Encounter as Ranks}
use Rattle.smol_pairs.specs.declared.seeker.Seeker.{Seeker}
use Rattle.smol_pairs.specs.Encounters.{ranks_of}
use Rattle.smol_pairs.specs.Met.{Has, HaveMet, IsGrown, two_at}
use Rattle.smol_pairs.specs.Reach.{is_out_of_reach, longest_of, reach_of, reaches_of}
use Rattle.smol_pairs.specs.Seekers.{IsSeeker, mol_at, nobody}
use Rattle.smol_pairs.proofs.KeyMembers.{encounters_have}
use Rattle.smol_pairs.proofs.LongestReach.{beyond_longest, beyond_turned}
use Rattle.smol_pairs.proofs.Meetings.{none_of_second, none_of_two}
use Rattle.smol_pairs.proofs.Members.{contains_map}
use Rattle.smol_pairs.proofs.Reaching.{IsBeyond}

pub grown_same : (all found : List Ranks) → IsGrown all found found
grown_same all found = record { kept = All-contains_itself found; sound = λ each. each }

pub grown_more : (all one two three : List Ranks) → IsGrown all one two → IsGrown all two three → IsGrown all one three
grown_more all one two three first second = record {
  kept = All-weaker (Contains two) (Contains three) (λ e has. All-contains (Contains three) two e second.kept has) one first.kept;
  sound = λ each. second.sound (first.sound each);
}

pub grown_append : (all old more : List Ranks) → All (Contains all) more → IsGrown all old (old ++ more)
grown_append all old more each = record {
  kept = All-weaker (Contains old) (Contains (old ++ more)) (λ e has. Contains-append_left old more e has) old (All-contains_itself old);
  sound = λ olds. All-append (Contains all) old more olds each;
}

pub grown_behind : (all old more : List Ranks) → All (Contains all) more → IsGrown all old (more ++ old)
grown_behind all old more each = record {
  kept = All-weaker (Contains old) (Contains (more ++ old)) (λ e has. Contains-append_right more old e has) old (All-contains_itself old);
  sound = λ olds. All-append (Contains all) more old each olds;
}

module _ (draft : Draft) (seed k : ℕ) (mols : List Mol) where
  -- all encounters of a step
  abbrev all : List Ranks
  all = map ranks_of (encounters_of draft seed k mols)

  has_more : (old new : List Ranks) (i j : ℕ) → IsGrown all old new → Has draft seed k mols old i j → Has draft seed k mols new i j
  has_more old new i j grown has =
      All-weaker (λ (e : Encounter). Contains old (ranks_of e)) (λ (e : Encounter). Contains new (ranks_of e))
      (λ e here. All-contains (Contains new) old (ranks_of e) grown.kept here) (two_at draft seed k mols i j) has

  -- those that have met stay so
  pub met_more : (old new : List Ranks) (i j : ℕ) → IsGrown all old new → HaveMet draft seed k mols old i j → HaveMet draft seed k mols new i j
  met_more old new i j grown met = record {
    first = λ less. has_more old new i j grown (met.first less);
    second = λ less. has_more old new j i grown (met.second less);
  }

  pub met_turned : (found : List Ranks) (i j : ℕ) → HaveMet draft seed k mols found i j → HaveMet draft seed k mols found j i
  met_turned found i j met = record { first = met.second; second = met.first }

  -- the encounters of two free molecules, which are added
  two_added : (old new : List Ranks) (i j : ℕ) → i < j → j < length mols → is_free draft seed k (mol_at mols i) ≡ true
      → is_free draft seed k (mol_at mols j) ≡ true → new ≡ old ++ map ranks_of (two_at draft seed k mols i j)
      → IsGrown all old new × Has draft seed k mols new i j
  two_added old new i j less within free_i free_j is =
      let here = two_at draft seed k mols i j in
      let sound : All (Contains all) (map ranks_of here) =
      All-map (Contains all) ranks_of here
      (All-weaker (Contains (encounters_of draft seed k mols)) (λ (e : Encounter). Contains all (ranks_of e))
      (λ e has. contains_map ranks_of (encounters_of draft seed k mols) e has) here
      (encounters_have draft seed k nobody mols i j less within free_i free_j)) in
      let has : All (λ (e : Encounter). Contains (old ++ map ranks_of here) (ranks_of e)) here =
      All-weaker (Contains here) (λ (e : Encounter). Contains (old ++ map ranks_of here) (ranks_of e))
      (λ e is_here. Contains-append_right old (map ranks_of here) (ranks_of e) (contains_map ranks_of here e is_here)) here (All-contains_itself here) in (
        subst (IsGrown all old) (sym is) (grown_append all old (map ranks_of here) sound),
        subst (λ found. Has draft seed k mols found i j) (sym is) has,
      )

  -- two that have no encounter have met
  none_met : (found : List Ranks) (i j : ℕ) → (i < j → two_at draft seed k mols i j ≡ []) → (j < i → two_at draft seed k mols j i ≡ [])
      → HaveMet draft seed k mols found i j
  none_met found i j first second = record {
    first = λ less. subst (All (λ (e : Encounter). Contains found (ranks_of e))) (sym (first less)) (All-nil (λ (e : Encounter). Contains found (ranks_of e)));
    second = λ less. subst (All (λ (e : Encounter). Contains found (ranks_of e))) (sym (second less)) (All-nil (λ (e : Encounter). Contains found (ranks_of e)));
  }

  -- the encounters of two seekers, the one with the lower rank first, which are added
  pub in_order_met : (old new : List Ranks) (one other : Seeker) → IsSeeker draft seed k mols one → IsSeeker draft seed k mols other → one.rank < other.rank
      → (a b : Mol) (x y s : ℕ) → a ≡ mol_at mols one.rank → b ≡ mol_at mols other.rank → x ≡ one.rank → y ≡ other.rank → s ≡ seed
      → new ≡ old ++ map ranks_of (encounters_of_two draft s k x a y b 0 draft.reactions)
      → IsGrown all old new × HaveMet draft seed k mols new one.rank other.rank
  in_order_met old new one other is_one is_other less a b x y s is_a is_b is_x is_y is_s is =
      let both = two_added old new one.rank other.rank less is_other.rank is_one.free is_other.free
      (is ∙ (λ t. old ++ map ranks_of (encounters_of_two draft (is_s t) k (is_x t) (is_a t) (is_y t) (is_b t) 0 draft.reactions))) in
      (both.0, record { first = λ _. both.1; second = λ more. absurd (omega arith) })

  -- two seekers that are out of the longest reach have met
  pub beyond_met : (found : List Ranks) (one other : Seeker) (reach : ℕ) → All (λ (mol : Mol). mol.species < length draft.species) mols
      → IsSeeker draft seed k mols one → IsSeeker draft seed k mols other
      → longest_of (reaches_of draft) ≡ Some reach → is_out_of_reach reach one.place other.place ≡ true → HaveMet draft seed k mols found one.rank other.rank
  beyond_met found one other reach species is_one is_other is out =
      let a = mol_at mols one.rank in
      let b = mol_at mols other.rank in
      let beyond : IsBeyond (longest_of (reaches_of draft)) one.place other.place = subst (λ (r : Option ℕ). IsBeyond r one.place other.place) (sym is) out in
      let there : IsBeyond (longest_of (reaches_of draft)) a.place b.place =
      subst (λ (p : Place). IsBeyond (longest_of (reaches_of draft)) p b.place) is_one.place
      (subst (λ (p : Place). IsBeyond (longest_of (reaches_of draft)) one.place p) is_other.place beyond) in
      let turned = beyond_turned (longest_of (reaches_of draft)) a.place b.place there in
      none_met found one.rank other.rank
      (λ less. none_of_two draft seed k one.rank a other.rank b 0 draft.reactions
      (beyond_longest draft a.species a.place b.place (species one.rank nobody is_one.rank) there))
      (λ less. none_of_two draft seed k other.rank b one.rank a 0 draft.reactions
      (beyond_longest draft b.species b.place a.place (species other.rank nobody is_other.rank) turned))

  -- a molecule whose species reaches nobody has no encounter
  pub no_first : (found : List Ranks) (i j : ℕ) → reach_of (mol_at mols i).species draft.reactions ≡ None → Has draft seed k mols found i j
  no_first found i j none =
      let a = mol_at mols i in
      let b = mol_at mols j in
      let out = subst (λ (reach : Option ℕ). IsBeyond reach a.place b.place) (sym none) tt in
      subst (All (λ (e : Encounter). Contains found (ranks_of e))) (sym (none_of_two draft seed k i a j b 0 draft.reactions out))
      (All-nil (λ (e : Encounter). Contains found (ranks_of e)))

  pub no_second : (found : List Ranks) (i j : ℕ) → reach_of (mol_at mols j).species draft.reactions ≡ None → Has draft seed k mols found i j
  no_second found i j none =
      let a = mol_at mols i in
      let b = mol_at mols j in
      let out = subst (λ (reach : Option ℕ). IsBeyond reach a.place b.place) (sym none) tt in
      subst (All (λ (e : Encounter). Contains found (ranks_of e))) (sym (none_of_second draft seed k i a j b 0 draft.reactions out))
      (All-nil (λ (e : Encounter). Contains found (ranks_of e)))
