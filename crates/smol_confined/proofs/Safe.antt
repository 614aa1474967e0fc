-- Once a molecule is inside a closed reflecting box, no molecule of its serial is ever outside.
use Rattle.std.proofs.Common.{◌≡◌, ℕ, ◌+◌, ◌<◌, ◌≤◌, Bool, true, false, nat_lt, List, [], ◌∷◌, length, get_or, slice_get, All, Some, filter, cond, Ok, Err, sym, ap, subst, ◌∙◌, arith}
use Rattle.std.specs.Prelude.{IfSome}
use Rattle.std.specs.List.{filter_map}
use Rattle.std.proofs.lemmas.List.Elements.{All-append, All-cons, All-filter, All-nil}
use Rattle.std.proofs.lemmas.Option.{get_or_from_slice_get, slice_get-get_or}
use Rattle.smol_geom.specs.declared.cuboid.Cuboid.{Cuboid}
use Rattle.smol_types.specs.declared.draft.Draft.{Draft}
use Rattle.smol_types.specs.declared.reaction.Placement.{Placement}
use Rattle.smol_types.specs.declared.reaction.Product.{Product}
use Rattle.smol_types.specs.declared.state.Mol.{Mol}
use Rattle.smol_types.specs.declared.state.State.{State}
use Rattle.smol_types.specs.Sound.{IsSound}
use Rattle.smol_types.specs.State.{Ascend, Fits}
use Rattle.smol_meaning.specs.declared.event.Birth.{Birth}
use Rattle.smol_meaning.specs.declared.event.Fired.{Fired}
use Rattle.smol_meaning.specs.declared.way.Travelled.{Travelled}
use Rattle.smol_meaning.specs.declared.way.Travelled.TheVariants.{At, Absorbed}
use Rattle.smol_meaning.specs.Events.{birth_move, births_in, births_of, births_of_event, born, placement_of, products_of}
use Rattle.smol_meaning.specs.Motion.{all_diffused, arrived, diffused, diffusion, end_of_move}
use Rattle.smol_meaning.specs.Placed.{IsMoveOf}
use Rattle.smol_meaning.specs.Seen.{IsClosedBox}
use Rattle.smol_meaning.specs.Step.{births_in_step, events_of, moves_of, next_state, reacted, reactions_of_two, remains, within_limit}
use Rattle.smol_meaning.proofs.Kept.{All-filter_map, Ascend-one}
use Rattle.smol_meaning.proofs.Stepping.{moves_are}
use Rattle.smol_confined.specs.Boxes.{IsIn, StandsIn}
use Rattle.smol_confined.specs.Laws.{IsBoxedStep, StepIsConfined}
use Rattle.smol_confined.proofs.Moving.{goes_in, motions_of}

-- a molecule of this serial stands inside, if it is one of them
abbrev pub IsNotOut : Cuboid → ℕ → Mol → Type 0
IsNotOut box serial mol = mol.serial ≡ serial → StandsIn box mol

-- the serial is given already, and no molecule of it is outside
pub record IsSafe (box : Cuboid) (serial : ℕ) (state : State) : Type 0 where
  pub given : serial < state.next
  pub inside : All (IsNotOut box serial) state.mols

-- from one state to another the molecules that are inside stay inside
abbrev pub Holds : Cuboid → State → State → Type 0
Holds box state later = (serial : ℕ) → IsSafe box serial state → IsSafe box serial later

-- serials that ascend are below the next
Ascend-ends : (least next : ℕ) (mols : List Mol) → Ascend least next mols → least ≤ next
Ascend-ends least next [] ascend = ascend
Ascend-ends least next (mol ∷ mols) ascend = let more = Ascend-ends (mol.serial + 1) next mols ascend.1 in omega (arith, ascend.0, more)

Ascend-given : (least next : ℕ) (mols : List Mol) → Ascend least next mols → All (λ (mol : Mol). mol.serial < next) mols
Ascend-given least next [] ascend = All-nil (λ (mol : Mol). mol.serial < next)
Ascend-given least next (mol ∷ mols) ascend =
    All-cons (λ (mol : Mol). mol.serial < next) mol mols (let more = Ascend-ends (mol.serial + 1) next mols ascend.1 in omega (arith, more))
    (Ascend-given (mol.serial + 1) next mols ascend.1)

-- in a state that fits, a molecule that is inside is the only one of its serial
pub safe_in : (draft : Draft) (state : State) → Fits draft state → (box : Cuboid) (serial : ℕ) → IsIn box serial state → IsSafe box serial state
safe_in draft state fits box serial there = record {
  given = subst (λ n. n < state.next) (ap (λ (mol : Mol). mol.serial) here ∙ there.is) (Ascend-given 0 state.next state.mols fits.serials at there.mol within);
  inside = λ i d below same.
      let one = get_or state.mols i d in
      let index = Ascend-one 0 state.next at i state.mols there.mol one fits.serials listed (slice_get-get_or state.mols i d below) (there.is ∙ sym same) in
      let is : get_or state.mols i d ≡ there.mol =
      ap (λ n. get_or state.mols n d) (sym index) ∙ get_or_from_slice_get state.mols at there.mol d listed in
      subst (StandsIn box) (sym is) there.stands;
}
  where
    at : ℕ
    at = there.listed.0

    within : at < length state.mols
    within = there.listed.1

    here : get_or state.mols at there.mol ≡ there.mol
    here = there.listed.2

    listed : slice_get state.mols at ≡ Some there.mol
    listed = slice_get-get_or state.mols at there.mol within ∙ ap Some here

-- what is born has serials from the next on
abbrev IsNew : ℕ → Birth → Type 0
IsNew next birth = next ≤ birth.serial

births_in_new : (placement : Placement) (event : Fired) (next serial index : ℕ) (products : List Product) → next ≤ serial
    → All (IsNew next) (births_in placement event serial index products)
births_in_new placement event next serial index [] behind = All-nil (IsNew next)
births_in_new placement event next serial index (product ∷ products) behind =
    All-cons (IsNew next) _ _ behind (births_in_new placement event next (serial + 1) (index + 1) products (omega arith))

births_of_new : (draft : Draft) (next serial : ℕ) (events : List Fired) → next ≤ serial → All (IsNew next) (births_of draft serial events)
births_of_new draft next serial [] behind = All-nil (IsNew next)
births_of_new draft next serial (event ∷ events) behind =
    All-append (IsNew next) (births_of_event draft serial event) _
    (births_in_new (placement_of draft event.reaction) event next serial 0 (products_of draft event.reaction) behind)
    (births_of_new draft next (serial + length (products_of draft event.reaction)) events (omega arith))

-- one that is new has another serial
new_other : (box : Cuboid) (serial next : ℕ) (draft : Draft) (birth : Birth) → serial < next → IsNew next birth → IfSome (born draft birth) (IsNotOut box serial)
new_other box serial next draft birth given new = by_end (end_of_move draft (birth_move birth))
  where
    by_end : (end : Travelled) → IfSome (arrived (record { serial = birth.serial; species = birth.species; place = birth.start }) end) (IsNotOut box serial)
    by_end (Absorbed number) = tt
    by_end (At place species) = λ same. absurd (omega (arith, same, given, new))

-- a state within the limit is the state
pub passed : (most : ℕ) (state next : State) → within_limit most state ≡ Ok next → state ≡ next
passed most state next is = go (nat_lt most (length state.mols)) is
  where
    go : (over : Bool) → cond over (Err (length state.mols)) (Ok state) ≡ Ok next → state ≡ next
    go true is = absurd (cc is)
    go false is = cc is

module _ (draft : Draft) (sound : IsSound draft) (seed : ℕ) (box : Cuboid) (closed : IsClosedBox draft box) where
  -- a molecule that is not out isn't out after motion
  motion_safe : (k serial : ℕ) (mol : Mol) → IsMoveOf draft (diffusion draft seed k mol) → IsNotOut box serial mol → IfSome (diffused draft seed k mol) (IsNotOut box serial)
  motion_safe k serial mol is there = by_end (end_of_move draft (diffusion draft seed k mol)) (λ same. goes_in draft sound box closed mol (diffusion draft seed k mol) is (there same))
    where
      by_end : (end : Travelled) → (mol.serial ≡ serial → IfSome (arrived mol end) (StandsIn box)) → IfSome (arrived mol end) (IsNotOut box serial)
      by_end (At place species) inside = inside
      by_end (Absorbed number) inside = tt

  -- a step whose ways are defined holds what is inside
  step_holds : (state : State) → All (IsMoveOf draft) (moves_of draft seed state)
      → Holds box state (reacted draft seed (state.step + 1) (all_diffused draft seed (state.step + 1) state.mols) state.next)
  step_holds state are = λ serial safe.
      let k = state.step + 1 in
      let mols = all_diffused draft seed k state.mols in
      let P = IsNotOut box serial in
      let births = births_in_step draft seed k mols state.next in
      let given = safe.given in
      let moved : All P mols = All-filter_map (diffused draft seed k) P state.mols
      (λ i d within. motion_safe k serial (get_or state.mols i d) (motions_of draft seed state are i d within) (safe.inside i d within)) in
      let new = births_of_new draft state.next state.next (events_of draft seed k mols) (omega arith) in
      record {
        given = omega arith;
        inside = All-append P (filter (remains draft seed k (reactions_of_two draft seed k mols)) mols) (filter_map (born draft) births)
            (All-filter (remains draft seed k (reactions_of_two draft seed k mols)) P mols moved)
            (All-filter_map (born draft) P births (λ i d within. new_other box serial state.next draft (get_or births i d) given (new i d within)));
      }

  pub next_holds : (state next : State) → All (IsMoveOf draft) (moves_of draft seed state) → next_state draft seed state ≡ Ok next → Holds box state next
  unfolding next_state
  next_holds state next are is =
      subst (Holds box state) (passed draft.max_mol _ next is) (step_holds state are)

-- a molecule that is inside before a step is inside after it, or gone
pub step_is_confined : (draft : Draft) (seed : ℕ) (state : State) (box : Cuboid) → IsBoxedStep draft state box → StepIsConfined draft seed state box
step_is_confined draft seed state box step = λ next serial is there.
    (next_holds draft step.sound seed box step.closed state next (moves_are draft seed state step.sound step.fits step.left) is serial
    (safe_in draft state step.fits box serial there)).inside
