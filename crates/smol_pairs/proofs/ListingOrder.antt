-- The keys of encounters rise, whichever order they are listed in.
use Rattle.std.proofs.Common.{◌≡◌, ℕ, ◌+◌, ◌*◌, ◌<◌, ◌≤◌, Bool, true, false, inl, inr, List, [], ◌∷◌, length, get_or, map, All, refl, sym, ap, subst, arith}
use Rattle.std.proofs.lemmas.List.Elements.{All-nil, All-cons, All-head, All-tail, All-weaker}
use Rattle.std.proofs.lemmas.Option.{get_or_from_slice_get}
use Rattle.smol_types.specs.declared.draft.Draft.{Draft}
use Rattle.smol_types.specs.declared.state.Mol.{Mol}
use Rattle.smol_meaning.specs.Encounters.{Encounter, encounters_from, encounters_of, listed, nearest_first, square_between}
use Rattle.smol_meaning.specs.Meeting.{IsEncounter}
use Rattle.smol_meaning.specs.Who.{AreOrderedBy}
use Rattle.smol_meaning.proofs.Listing.{Sooner, nearest_order}
use Rattle.smol_meaning.proofs.Meeting.{encounters_are}
use Rattle.smol_pairs.specs.Encounters.{ranks_of}
use Rattle.smol_pairs.specs.Keys.{key_at, key_of}
use Rattle.smol_pairs.specs.Listing.{key_in, square_at}
use Rattle.smol_pairs.specs.Rising.{Rises}
use Rattle.smol_pairs.specs.Seekers.{mol_at, nobody}
use Rattle.smol_geom.specs.Place.{square_of_distance}
use Rattle.smol_pairs.proofs.KeyOrder.{keys_rise, number_of}
use Rattle.smol_pairs.proofs.Members.{mapped_twice}

-- the first has the lower number
abbrev IsLower : Encounter → Encounter → Type 0
IsLower e f = number_of e < number_of f

-- the number of an encounter has 50 bits
abbrev pub IsShort : Encounter → Type 0
IsShort e = number_of e < 1125899906842624

above : (low next : ℕ) (es : List Encounter) → Rises low next (map number_of es) → All (λ e. low ≤ number_of e) es
above low next [] up = All-nil (λ e. low ≤ number_of e)
above low next (e ∷ es) up =
    All-cons (λ f. low ≤ number_of f) e es up.0
    (All-weaker (λ f. number_of e + 1 ≤ number_of f) (λ f. low ≤ number_of f) (λ f more. omega (arith, more, up.0)) es (above (number_of e + 1) next es up.1))

-- of rising numbers each is lower than all that follow it
each_lower : (low next : ℕ) (es : List Encounter) → Rises low next (map number_of es) → AreOrderedBy IsLower es
each_lower low next [] up = tt
each_lower low next (e ∷ es) up = (
  All-weaker (λ f. number_of e + 1 ≤ number_of f) (IsLower e) (λ f more. omega (arith, more)) es (above (number_of e + 1) next es up.1),
  each_lower (number_of e + 1) next es up.1,
)

-- the number of an encounter behind the square of its distance
abbrev far_number : Encounter → ℕ
far_number e = square_between e * 1125899906842624 + number_of e

sooner_lower : (e f : Encounter) → IsShort e → Sooner IsLower e f → far_number e + 1 ≤ far_number f
sooner_lower e f short (inl less) = omega (arith, short, less)
sooner_lower e f short (inr same) = let is = same.0 in let lower = same.1 in omega (arith, is, lower)

rises_by_distance : (low : ℕ) (es : List Encounter) → All IsShort es → AreOrderedBy (Sooner IsLower) es → All (λ e. low ≤ far_number e) es
    → (next : ℕ) × Rises low next (map far_number es)
rises_by_distance low [] short order above = (low, omega arith)
rises_by_distance low (e ∷ es) short order above =
    let first = All-head IsShort e es short in
    let rest = rises_by_distance (far_number e + 1) es (All-tail IsShort e es short) order.1
    (λ k d within. sooner_lower e (get_or es k d) first (order.0 k d within)) in
    (rest.0, (All-head (λ f. low ≤ far_number f) e es above, rest.1))

module _ (draft : Draft) (seed k : ℕ) (mols : List Mol) where
  -- the square of the distance between the molecules at the ranks is that between the molecules
  square_there : (e : Encounter) → IsEncounter draft seed k mols e → square_at mols (ranks_of e) ≡ square_between e
  square_there e is =
      let a : mol_at mols e.rank_a ≡ e.a = get_or_from_slice_get mols e.rank_a e.a nobody is.first in
      let b : mol_at mols e.rank_b ≡ e.b = get_or_from_slice_get mols e.rank_b e.b nobody is.second in
      λ i. square_of_distance (a i).place (b i).place

  keys_there : (es : List Encounter) → All (IsEncounter draft seed k mols) es → map (key_in true mols) (map ranks_of es) ≡ map far_number es
  keys_there [] are = refl
  keys_there (e ∷ es) are =
      let here : key_in true mols (ranks_of e) ≡ far_number e = ap (λ (square : ℕ). square * 1125899906842624 + number_of e)
      (square_there e (All-head (IsEncounter draft seed k mols) e es are)) in
      let rest = keys_there es (All-tail (IsEncounter draft seed k mols) e es are) in
      λ i. here i ∷ rest i

  -- the keys of all encounters rise
  pub keys_in_rise : length draft.reactions ≤ 1024 → length mols ≤ 1048576 → All IsShort (encounters_of draft seed k mols)
      → (next : ℕ) × Rises 0 next (map (key_in draft.nearest mols) (map ranks_of (encounters_of draft seed k mols)))
  unfolding encounters_of
  keys_in_rise few few_mols short =
      go draft.nearest short (encounters_are draft seed k mols)
    where
      serial : List Encounter
      serial = encounters_from draft seed k 0 mols

      go : (nearest : Bool) → All IsShort (listed nearest serial) → All (IsEncounter draft seed k mols) (listed nearest serial)
          → (next : ℕ) × Rises 0 next (map (key_in nearest mols) (map ranks_of (listed nearest serial)))
      go false short are =
          (key_at (length mols) 0 0, subst (Rises 0 (key_at (length mols) 0 0)) (sym (mapped_twice key_of ranks_of serial)) (keys_rise draft seed k few mols few_mols))
      go true short are =
          let up = rises_by_distance 0 (nearest_first serial) short
          (nearest_order IsLower serial (each_lower 0 (key_at (length mols) 0 0) serial (keys_rise draft seed k few mols few_mols)))
          (λ k d within. omega arith) in
          (up.0, subst (Rises 0 up.0) (sym (keys_there (nearest_first serial) are)) up.1)
