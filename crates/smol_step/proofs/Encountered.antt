-- The encounters of a step, one after the other.
use Rattle.std.proofs.Common.{◌≡◌, ℕ, ◌<◌, ◌≤◌, Bool, false, List, length, get_or, map, take, ap, sym, ◌∙◌, arith}
use Rattle.std.specs.List.{items_where_true}
use Rattle.std.proofs.lemmas.List.{get_or-map, length-map, take_all}
use Rattle.std.proofs.lemmas.Option.{get_or_from_slice_get}
use Rattle.smol_plan.specs.Matching.{serial}
use Rattle.smol_plan.proofs.MatchingLemmas.{length-serial_from}
use Rattle.smol_types.specs.declared.draft.Draft.{Draft}
use Rattle.smol_types.specs.declared.state.Mol.{Mol}
use Rattle.smol_meaning.specs.Encounters.{Encounter, candidates_of, encounters_of, pair_of}
use Rattle.smol_meaning.specs.Meeting.{IsEncounter}
use Rattle.smol_meaning.specs.Step.{reactions_of_two}
use Rattle.smol_meaning.proofs.Kept.{item_at}
use Rattle.smol_meaning.proofs.Meeting.{encounters_are}
use Rattle.smol_pairs.specs.declared.encounter.Encounter.{Encounter as Ranks}
use Rattle.smol_pairs.specs.Encounters.{ranks_of}
use Rattle.smol_step.specs.Meeting.{IsAt}

module _ (draft : Draft) (seed k : ℕ) (mols : List Mol) (ranks : List Ranks) (are : ranks ≡ map ranks_of (encounters_of draft seed k mols)) where
  pub rank_count : length ranks ≡ length (encounters_of draft seed k mols)
  rank_count = ap length are ∙ length-map (encounters_of draft seed k mols) ranks_of

  -- the encounter whose ranks stand at a place
  pub encounter_at : (i : ℕ) (none : Ranks) → i < length ranks
      → (e : Encounter) × (e ≡ get_or (encounters_of draft seed k mols) i e) × IsAt draft seed k mols (get_or ranks i none) e
  encounter_at i none inside =
      let encounters = encounters_of draft seed k mols in
      let within : i < length encounters = omega (arith, rank_count, inside) in
      let found = item_at (IsEncounter draft seed k mols) encounters i within (encounters_are draft seed k mols) in
      let e = found.0 in
      let here = get_or_from_slice_get encounters i e e found.1 in
      let at : ranks_of e ≡ get_or ranks i none =
      sym (ap (λ rs. get_or rs i none) are ∙ get_or-map ranks_of encounters i e none within ∙ ap ranks_of here) in
      (e, sym here, record { met = found.2; is = at })

  module _ (fired : List Bool) (matched : fired ≡ serial (candidates_of draft seed k mols)) where
    pub fired_count : length fired ≡ length ranks
    fired_count =
        ap length matched ∙ length-serial_from (λ _. false) (candidates_of draft seed k mols)
        ∙ length-map (encounters_of draft seed k mols) pair_of ∙ sym rank_count

    -- when all encounters are looked at, those are picked that come to a reaction
    pub picked_all : (i : ℕ) → length ranks ≤ i → items_where_true (take i fired) (take i (encounters_of draft seed k mols)) ≡ reactions_of_two draft seed k mols
    picked_all i past =
        let encounters = encounters_of draft seed k mols in
        let first : take i fired ≡ fired = take_all i fired (omega (arith, fired_count, past)) in
        let second : take i encounters ≡ encounters = take_all i encounters (omega (arith, rank_count, past)) in
        (λ j. items_where_true (first j) (second j)) ∙ ap (λ bs. items_where_true bs encounters) matched
