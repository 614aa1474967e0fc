-- What happens in a step: no more events than molecules, each of the configuration, and its products start where molecules stand.
use Rattle.std.proofs.Common.{◌≡◌, ℕ, zero, suc, ◌+◌, ◌*◌, ◌^◌, ◌<◌, ◌≤◌, Bool, true, false, not, ◌&&◌, inl, inr, nat_lt, nat_le, List, [], ◌∷◌, length, All, Option, Some, None, slice_get, map, cond, refl, sym, ap, ◌∙◌, subst, arith}
use Rattle.std.specs.Prelude.{IfSome, is_none}
use Rattle.std.specs.List.{cons_option, items_where_true}
use Rattle.std.specs.Option.{option_map}
use Rattle.std.proofs.lemmas.Bool.Decides.{nat_tests}
use Rattle.std.proofs.lemmas.Grind.{common_steps}
use Rattle.std.proofs.lemmas.List.{length-append, length-map}
use Rattle.std.proofs.lemmas.List.Elements.{All-append, All-head, All-map, All-tail, All-weaker}
use Rattle.std.proofs.lemmas.Option.{IfSome_then, get_or_from_slice_get, slice_get_within}
use Rattle.smol_geom.specs.Moments.{Has}
use Rattle.smol_plan.specs.declared.pair.Pair.{Pair}
use Rattle.smol_plan.specs.Matching.{serial_from, taken_after}
use Rattle.smol_plan.specs.Matching as matching
use Rattle.smol_streams.proofs.Sizes.{word_small}
use Rattle.smol_streams.specs.Words.{key_of_seed}
use Rattle.smol_types.specs.declared.draft.Draft.{Draft}
use Rattle.smol_types.specs.declared.reaction.Reaction.{Reaction}
use Rattle.smol_types.specs.declared.state.Mol.{Mol}
use Rattle.smol_types.specs.Reactions.{share_of}
use Rattle.smol_types.specs.Sound.{IsSound}
use Rattle.smol_meaning.specs.declared.event.Fired.{Fired}
use Rattle.smol_meaning.specs.Births.{IsEvent}
use Rattle.smol_streams.specs.Chance.{axis_drawn, first_order_word, pair_stream}
use Rattle.smol_meaning.specs.Encounters.{Encounter, encounters_of, event_of_two, pair_of, reacting}
use Rattle.smol_meaning.specs.Events.{event_of_one, is_free, lone_event, lone_events, lone_reaction, reaction_drawn}
use Rattle.smol_meaning.specs.Meeting.{IsEncounter}
use Rattle.smol_meaning.specs.Motion.{difstep_of}
use Rattle.smol_meaning.specs.Placed.{IsPlaced, StandsWithin}
use Rattle.smol_meaning.specs.Step.{events_of, reactions_of_two}
use Rattle.smol_meaning.proofs.Kept.{All-filter_map, All-picked}
use Rattle.smol_meaning.proofs.Meeting.{encounters_are}

-- how many pairs fire, where these molecules are taken at first
abbrev fired : (ℕ → Bool) → List Pair → ℕ
fired taken [] = 0
fired taken (p ∷ pairs) = cond (matching.is_free taken p) 1 0 + fired (taken_after taken p) pairs

length-picked : {X : Type 0} (taken : ℕ → Bool) (pairs : List Pair) (xs : List X) → length (items_where_true (serial_from taken pairs) xs) ≤ fired taken pairs
length-picked taken [] xs = omega arith
length-picked taken (p ∷ pairs) [] = omega arith
length-picked taken (p ∷ pairs) (x ∷ xs) = first (matching.is_free taken p) (length-picked (taken_after taken p) pairs xs)
  where
    first : (here : Bool) → length (items_where_true (serial_from (taken_after taken p) pairs) xs) ≤ fired (taken_after taken p) pairs
        → length (items_where_true (here ∷ serial_from (taken_after taken p) pairs) (x ∷ xs)) ≤ cond here 1 0 + fired (taken_after taken p) pairs
    first true few = omega (arith, few)
    first false few = omega (arith, few)

-- a molecule that is taken stays so
after_taken : (taken : ℕ → Bool) (p : Pair) (s : ℕ) → taken s ≡ true → taken_after taken p s ≡ true
after_taken taken p s was = grind (arith, common_steps)

-- a pair that fires takes its first molecule, which was not taken
after_fired : (taken : ℕ → Bool) (p : Pair) (s : ℕ) → s ≡ p.a → matching.is_free taken p ≡ true → (taken s ≡ false) × (taken_after taken p s ≡ true)
after_fired taken p s is free = (grind (arith, common_steps, nat_tests, ap taken is), grind (arith, common_steps, nat_tests))

got_has : {X : Type 0} → (xs : List X) (i : ℕ) (x : X) → slice_get xs i ≡ Some x → Has xs x
got_has [] i x is = absurd cc
got_has (y ∷ ys) zero x is = let same : x ≡ y = cc in inl (sym same)
got_has (y ∷ ys) (suc i) x is = inr (got_has ys i x is)

module _ (draft : Draft) (seed k : ℕ) where
  -- how many molecules make no reaction alone
  abbrev free_count : List Mol → ℕ
  free_count [] = 0
  free_count (mol ∷ mols) = cond (is_free draft seed k mol) 1 0 + free_count mols

  -- how many of these are not taken
  abbrev left : (ℕ → Bool) → List Mol → ℕ
  left taken [] = 0
  left taken (mol ∷ mols) = cond (is_free draft seed k mol && not (taken mol.serial)) 1 0 + left taken mols

  one_less : (here before after : Bool) → (before ≡ true → after ≡ true) → cond (here && not after) 1 0 ≤ cond (here && not before) 1 0
  one_less false before after stays = omega arith
  one_less true false true stays = omega arith
  one_less true false false stays = omega arith
  one_less true true true stays = omega arith
  one_less true true false stays = let taken = stays refl in absurd cc

  -- they become no more where all that are taken stay so
  left_less : (before after : ℕ → Bool) → ((s : ℕ) → before s ≡ true → after s ≡ true) → (mols : List Mol) → left after mols ≤ left before mols
  left_less before after stays [] = omega arith
  left_less before after stays (mol ∷ mols) =
      let first = one_less (is_free draft seed k mol) (before mol.serial) (after mol.serial) (stays mol.serial) in
      let rest = left_less before after stays mols in
      omega (arith, first, rest)

  one_taken : (here before after : Bool) → here ≡ true → before ≡ false → after ≡ true → cond (here && not after) 1 0 + 1 ≤ cond (here && not before) 1 0
  one_taken true false true is was now = omega arith
  one_taken true false false is was now = absurd cc
  one_taken true true after is was now = absurd cc
  one_taken false before after is was now = absurd cc

  -- and fewer where one of them is taken
  left_fewer : (before after : ℕ → Bool) → ((s : ℕ) → before s ≡ true → after s ≡ true) → (mols : List Mol) (one : Mol) → Has mols one
      → is_free draft seed k one ≡ true → before one.serial ≡ false → after one.serial ≡ true → left after mols + 1 ≤ left before mols
  left_fewer before after stays [] one has free was now = absurd has
  left_fewer before after stays (mol ∷ mols) one (inl same) free was now =
      let first = one_taken (is_free draft seed k mol) (before mol.serial) (after mol.serial) (ap (is_free draft seed k) same ∙ free)
      (ap (λ (m : Mol). before m.serial) same ∙ was) (ap (λ (m : Mol). after m.serial) same ∙ now) in
      let rest = left_less before after stays mols in
      omega (arith, first, rest)
  left_fewer before after stays (mol ∷ mols) one (inr has) free was now =
      let first = one_less (is_free draft seed k mol) (before mol.serial) (after mol.serial) (stays mol.serial) in
      let rest = left_fewer before after stays mols one has free was now in
      omega (arith, first, rest)

  -- a free molecule that stands first in a pair
  abbrev IsFirstOf : List Mol → Pair → Mol → Type 0
  IsFirstOf mols p mol = Has mols mol × (is_free draft seed k mol ≡ true) × (mol.serial ≡ p.a)

  -- each pair that fires takes the free molecule that stands first in it
  fired_few : (taken : ℕ → Bool) (mols : List Mol) (pairs : List Pair) → All (λ (p : Pair). (mol : Mol) × IsFirstOf mols p mol) pairs
      → fired taken pairs ≤ left taken mols
  fired_few taken mols [] each = omega arith
  fired_few taken mols (p ∷ pairs) each =
      let First : Pair → Type 0 = λ (p : Pair). (mol : Mol) × IsFirstOf mols p mol in
      first (All-head First p pairs each) (matching.is_free taken p) refl (fired_few (taken_after taken p) mols pairs (All-tail First p pairs each))
    where
      first : (mol : Mol) × IsFirstOf mols p mol → (here : Bool) → matching.is_free taken p ≡ here
          → fired (taken_after taken p) pairs ≤ left (taken_after taken p) mols → cond here 1 0 + fired (taken_after taken p) pairs ≤ left taken mols
      first is true free rest =
          let taken_now = after_fired taken p is.0.serial is.1.2 free in
          let fewer = left_fewer taken (taken_after taken p) (after_taken taken p) mols is.0 is.1.0 is.1.1 taken_now.0 taken_now.1 in
          omega (arith, fewer, rest)
      first is false free rest = let fewer = left_less taken (taken_after taken p) (after_taken taken p) mols in omega (arith, fewer, rest)

  left_first : (mols : List Mol) → left (λ _. false) mols ≤ free_count mols
  left_first [] = omega arith
  left_first (mol ∷ mols) = go (is_free draft seed k mol) (left_first mols)
    where
      go : (here : Bool) → left (λ _. false) mols ≤ free_count mols → cond (here && not false) 1 0 + left (λ _. false) mols ≤ cond here 1 0 + free_count mols
      go true rest = omega (arith, rest)
      go false rest = omega (arith, rest)

  -- the first molecule of each candidate is a free one
  firsts : (mols : List Mol) → All (λ (p : Pair). (mol : Mol) × IsFirstOf mols p mol) (map pair_of (encounters_of draft seed k mols))
  firsts mols =
      All-map (λ (p : Pair). (mol : Mol) × IsFirstOf mols p mol) pair_of (encounters_of draft seed k mols)
      (All-weaker (IsEncounter draft seed k mols) (λ (e : Encounter). (mol : Mol) × IsFirstOf mols (pair_of e) mol)
      (λ e is. (e.a, (got_has mols e.rank_a e.a is.first, is.first_free, refl))) (encounters_of draft seed k mols) (encounters_are draft seed k mols))

  lone_few : (mols : List Mol) → length (lone_events draft seed k mols) + free_count mols ≡ length mols
  lone_few [] = refl
  lone_few (mol ∷ mols) = first (lone_reaction draft seed k mol) (lone_few mols)
    where
      first : (one : Option ℕ) → length (lone_events draft seed k mols) + free_count mols ≡ length mols
          → length (cons_option (option_map (lone_event draft seed k mol) one) (lone_events draft seed k mols)) + (cond (is_none one) 1 0 + free_count mols) ≡ suc (length mols)
      first None all = omega (arith, all)
      first (Some reaction) all = omega (arith, all)

  -- no more events than molecules
  pub events_few : (mols : List Mol) → length (events_of draft seed k mols) ≤ length mols
  unfolding encounters_of
  events_few mols =
      let encounters = encounters_of draft seed k mols in
      let pairs = map pair_of encounters in
      let both = length-append (lone_events draft seed k mols) (map (event_of_two draft seed k) (reacting encounters)) in
      let two = length-map (reacting encounters) (event_of_two draft seed k) in
      let picked = length-picked (λ _. false) pairs encounters in
      let few = fired_few (λ _. false) mols pairs (firsts mols) in
      let most = left_first mols in
      let lone = lone_few mols in
      omega (arith, both, two, picked, few, most, lone)

  -- the axis that a word draws is in use
  word_below : (dims word : ℕ) → 0 < dims → word < 2 ^ 32 → axis_drawn dims word < dims
  word_below dims word some small = grind (arith, common_steps)

  drawn_within : (species passed number word : ℕ) (reactions : List Reaction) → IfSome (reaction_drawn species passed number reactions word) (λ r. r < number + length reactions)
  drawn_within species passed number word [] = tt
  drawn_within species passed number word (reaction ∷ reactions) =
      first (nat_lt word (passed + share_of species reaction)) (drawn_within species (passed + share_of species reaction) (number + 1) word reactions)
    where
      first : (here : Bool) → IfSome (reaction_drawn species (passed + share_of species reaction) (number + 1) reactions word) (λ r. r < (number + 1) + length reactions)
          → IfSome (cond here (Some number) (reaction_drawn species (passed + share_of species reaction) (number + 1) reactions word)) (λ r. r < number + length (reaction ∷ reactions))
      first true more = omega arith
      first false more = IfSome_then (reaction_drawn species (passed + share_of species reaction) (number + 1) reactions word) more (λ r within. omega (arith, within))

  -- a reaction that a molecule makes alone is one that there is
  lone_reaction_is : (mol : Mol) → IfSome (lone_reaction draft seed k mol) (λ r. r < length draft.reactions)
  lone_reaction_is mol =
      IfSome_then (lone_reaction draft seed k mol) (drawn_within mol.species 0 0 (first_order_word seed mol.serial k) draft.reactions) (λ r within. omega (arith, within))

  if_event : (P : Fired → Type 0) (mol : Mol) (one : Option ℕ) → IfSome one (λ r. P (lone_event draft seed k mol r)) → IfSome (option_map (lone_event draft seed k mol) one) P
  if_event P mol None holds = tt
  if_event P mol (Some r) holds = holds

  -- what holds of the event of each molecule with its reaction holds of all events of one
  pub lone_all : (P : Fired → Type 0) (Q : Mol → Type 0) (mols : List Mol) → All Q mols
      → ((mol : Mol) (r : ℕ) → Q mol → r < length draft.reactions → P (lone_event draft seed k mol r)) → All P (lone_events draft seed k mols)
  lone_all P Q mols are each =
      All-filter_map (event_of_one draft seed k) P mols
      (All-weaker Q (λ (mol : Mol). IfSome (event_of_one draft seed k mol) P)
      (λ (mol : Mol) is. if_event P mol (lone_reaction draft seed k mol) (IfSome_then (lone_reaction draft seed k mol) (lone_reaction_is mol) (λ r within. each mol r is within))) mols are)

  -- what holds of the event of each two molecules of the list holds of all events of two
  pub two_of_all : (P : Fired → Type 0) (mols : List Mol) → ((e : Encounter) → IsEncounter draft seed k mols e → P (event_of_two draft seed k e))
      → All P (map (event_of_two draft seed k) (reactions_of_two draft seed k mols))
  two_of_all P mols each =
      All-map P (event_of_two draft seed k) (reactions_of_two draft seed k mols)
      (All-picked (λ (e : Encounter). P (event_of_two draft seed k e)) _ (encounters_of draft seed k mols)
      (All-weaker (IsEncounter draft seed k mols) (λ (e : Encounter). P (event_of_two draft seed k e)) each (encounters_of draft seed k mols) (encounters_are draft seed k mols)))

  -- what holds of all holds of the one at a place
  at_place : (P : Mol → Type 0) (mols : List Mol) (i : ℕ) (mol : Mol) → slice_get mols i ≡ Some mol → All P mols → P mol
  at_place P mols i mol is all =
      let within = slice_get_within mols i mol is in
      subst P (get_or_from_slice_get mols i mol mol is) (all i mol within)

  -- each event is of the configuration
  pub events_are : IsSound draft → (mols : List Mol) → All (IsEvent draft) (events_of draft seed k mols)
  events_are sound mols =
      All-append (IsEvent draft) (lone_events draft seed k mols) (map (event_of_two draft seed k) (reactions_of_two draft seed k mols))
      (lone_all (IsEvent draft) (λ _. Unit {0}) mols (λ i d within. tt)
      (λ mol r is within. record { reaction = within; axis = word_below draft.dims _ sound.dims_above (word_small (key_of_seed seed) mol.serial (32 * k + 19)) }))
      (two_of_all (IsEvent draft) mols
      (λ e is. record {
        reaction = is.reaction;
        axis = word_below draft.dims _ sound.dims_above (word_small (key_of_seed seed) (pair_stream e.rank_a e.rank_b) (2048 * k + 2 * e.reaction + 1));
      }))

  start_stands : (most : ℕ) (here : Bool) (a b : Mol) → IsPlaced draft most a → IsPlaced draft most b → StandsWithin draft.dims most (cond here a.place b.place)
  start_stands most true a b first second = first.place
  start_stands most false a b first second = second.place

  -- its products start where molecules stand
  pub events_stand : (most : ℕ) (mols : List Mol) → All (IsPlaced draft most) mols → All (λ (event : Fired). StandsWithin draft.dims most event.start) (events_of draft seed k mols)
  events_stand most mols placed =
      let P : Fired → Type 0 = λ (event : Fired). StandsWithin draft.dims most event.start in
      All-append P (lone_events draft seed k mols) (map (event_of_two draft seed k) (reactions_of_two draft seed k mols))
      (lone_all P (IsPlaced draft most) mols placed (λ mol r is within. is.place))
      (two_of_all P mols
      (λ e is. start_stands most (nat_le (difstep_of draft e.a.species) (difstep_of draft e.b.species)) e.a e.b
      (at_place (IsPlaced draft most) mols e.rank_a e.a is.first placed) (at_place (IsPlaced draft most) mols e.rank_b e.b is.second placed)))
