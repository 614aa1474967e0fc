-- What commands keep: each state fits its configuration, serials stay in order, and the step's number stays.
use Rattle.std.proofs.Common.{◌≡◌, ℕ, zero, suc, ◌+◌, ◌*◌, ◌≤◌, ◌<◌, ℤ, Bool, true, false, not, if◌then◌else◌, List, [], ◌∷◌, ◌++◌, length, All, filter, unsigned_abs, inl, inr, ◌⊎◌, refl, sym, ap, subst, arith}
use Rattle.std.specs.Prelude.{nat_lt}
use Rattle.std.specs.List.{list_all}
use Rattle.std.proofs.lemmas.Bool.Decides.{nat_tests}
use Rattle.std.proofs.lemmas.Int.{ints}
use Rattle.std.proofs.lemmas.List.{length-append}
use Rattle.std.proofs.lemmas.List.Elements.{All-nil, All-cons, All-head, All-tail, All-append, All-filter}
use Rattle.std.proofs.lemmas.List.Sums.{length-filter, count_by-le-length}
use Rattle.smol_geom.specs.declared.place.Place.{Place}
use Rattle.smol_types.specs.declared.command.Act.{Act}
use Rattle.smol_types.specs.declared.command.Act.TheVariants as act
use Rattle.smol_types.specs.declared.command.Command.{Command}
use Rattle.smol_types.specs.declared.draft.Draft.{Draft}
use Rattle.smol_types.specs.declared.state.Mol.{Mol}
use Rattle.smol_types.specs.declared.state.State.{State}
use Rattle.smol_types.specs.declared.wall.Wall.{Wall}
use Rattle.smol_types.specs.Commands.{IsAct, IsCommand}
use Rattle.smol_types.specs.Coordinates.{AreCoordinates}
use Rattle.smol_types.specs.Limits.{farthest, last_serial}
use Rattle.smol_types.specs.Sound.{IsSound}
use Rattle.smol_types.specs.State.{Ascend, Fits, reach}
use Rattle.smol_types.specs.Walls.{AreBetween, AreWalls, IsAxis, LiesBetween}
use Rattle.smol_meaning.specs.Commands.{effect_of, filter_ranked, holds_of, is_hit, is_meant, map_ranked, molecules_at, performed, turned_into, with_mols, with_more}
use Rattle.smol_meaning.specs.Placed.{IsPlaced}
use Rattle.smol_meaning.specs.Stretch.{Stretch, Over, becomes, idle, is_over, prints}
use Rattle.smol_meaning.proofs.Diffusing.{Fits-placed}
use Rattle.smol_meaning.proofs.Kept.{Ascend-append, Ascend-filter, Ascend-from}

-- a part of a run that leaves its step: each of its states fits, and not many serials are given
pub record KeepsStep (draft : Draft) (state : State) (more : ℕ) (stretch : Stretch) : Type 0 where
  pub last : Fits draft stretch.last
  pub states : All (Fits draft) stretch.states
  pub next : stretch.last.next ≤ state.next + more
  pub step : stretch.last.step ≡ state.step

-- a state with other molecules, which fit as well
refits : (draft : Draft) (state : State) (mols : List Mol) (next : ℕ) → Fits draft state → Ascend 0 next mols → next ≤ last_serial → length mols ≤ draft.max_mol → All (IsPlaced draft (reach state.step)) mols → Fits draft (record state { mols = mols; next = next })
refits draft state mols next fits ascend low few placed = record {
  serials = ascend;
  next = low;
  species = λ i d within. (placed i d within).species;
  count = few;
  step = fits.step;
  axes = λ i d within. (placed i d within).place.axes;
  places = λ i d within. (placed i d within).place.coordinates;
}

-- molecules that pass a test by their rank are some of them
All-filter_ranked : (p : ℕ → Mol → Bool) (P : Mol → Type 0) (rank : ℕ) (mols : List Mol) → All P mols → All P (filter_ranked p rank mols)
All-filter_ranked p P rank [] all = All-nil P
All-filter_ranked p P rank (mol ∷ mols) all =
    let more = All-filter_ranked p P (rank + 1) mols (All-tail P mol mols all) in
    elim (p rank mol) as (λ b. All P (if b then mol ∷ filter_ranked p (rank + 1) mols else filter_ranked p (rank + 1) mols))
    [ true ↦ All-cons P mol _ (All-head P mol mols all) more | false ↦ more ]

length-filter_ranked : (p : ℕ → Mol → Bool) (rank : ℕ) (mols : List Mol) → length (filter_ranked p rank mols) ≤ length mols
length-filter_ranked p rank [] = omega arith
length-filter_ranked p rank (mol ∷ mols) =
    let more = length-filter_ranked p (rank + 1) mols in
    elim (p rank mol) as (λ b. length (if b then mol ∷ filter_ranked p (rank + 1) mols else filter_ranked p (rank + 1) mols) ≤ length (mol ∷ mols))
    [ true ↦ omega (arith, more) | false ↦ omega (arith, more) ]

Ascend-filter_ranked : (p : ℕ → Mol → Bool) (rank least next : ℕ) (mols : List Mol) → Ascend least next mols → Ascend least next (filter_ranked p rank mols)
Ascend-filter_ranked p rank least next [] ascend = ascend
Ascend-filter_ranked p rank least next (mol ∷ mols) ascend =
    let more = Ascend-filter_ranked p (rank + 1) (mol.serial + 1) next mols ascend.1 in
    elim (p rank mol) as (λ b. Ascend least next (if b then mol ∷ filter_ranked p (rank + 1) mols else filter_ranked p (rank + 1) mols))
    [ true ↦ (ascend.0, more) | false ↦ Ascend-from least (mol.serial + 1) next _ (let low = ascend.0 in omega arith) more ]

-- molecules that are mapped one by one
All-map_ranked : (f : ℕ → Mol → Mol) (P : Mol → Type 0) → ((rank : ℕ) (mol : Mol) → P mol → P (f rank mol)) → (rank : ℕ) (mols : List Mol) → All P mols → All P (map_ranked f rank mols)
All-map_ranked f P keeps rank [] all = All-nil P
All-map_ranked f P keeps rank (mol ∷ mols) all =
    All-cons P (f rank mol) _ (keeps rank mol (All-head P mol mols all)) (All-map_ranked f P keeps (rank + 1) mols (All-tail P mol mols all))

length-map_ranked : (f : ℕ → Mol → Mol) (rank : ℕ) (mols : List Mol) → length (map_ranked f rank mols) ≡ length mols
length-map_ranked f rank [] = refl
length-map_ranked f rank (mol ∷ mols) = ap suc (length-map_ranked f (rank + 1) mols)

Ascend-map_ranked : (f : ℕ → Mol → Mol) → ((rank : ℕ) (mol : Mol) → (f rank mol).serial ≡ mol.serial) → (rank least next : ℕ) (mols : List Mol) → Ascend least next mols → Ascend least next (map_ranked f rank mols)
Ascend-map_ranked f same rank least next [] ascend = ascend
Ascend-map_ranked f same rank least next (mol ∷ mols) ascend =
    let P : ℕ → Type 0 = λ serial. (least ≤ serial) × Ascend (serial + 1) next (map_ranked f (rank + 1) mols) in
    subst P (sym (same rank mol)) (ascend.0, Ascend-map_ranked f same (rank + 1) (mol.serial + 1) next mols ascend.1)

-- molecules that are added at a place
Ascend-molecules_at : (serial species : ℕ) (place : Place) (n : ℕ) → Ascend serial (serial + n) (molecules_at serial species place n)
Ascend-molecules_at serial species place zero = omega arith
Ascend-molecules_at serial species place (suc n) =
    (omega arith, subst (λ next. Ascend (serial + 1) next (molecules_at (serial + 1) species place n)) (omega arith) (Ascend-molecules_at (serial + 1) species place n))

length-molecules_at : (serial species : ℕ) (place : Place) (n : ℕ) → length (molecules_at serial species place n) ≡ n
length-molecules_at serial species place zero = refl
length-molecules_at serial species place (suc n) = ap suc (length-molecules_at (serial + 1) species place n)

All-molecules_at : (P : Mol → Type 0) (serial species : ℕ) (place : Place) (n : ℕ) → ((serial : ℕ) → P (record { serial = serial; species = species; place = place })) → All P (molecules_at serial species place n)
All-molecules_at P serial species place zero each = All-nil P
All-molecules_at P serial species place (suc n) each =
    All-cons P _ _ (each serial) (All-molecules_at P (serial + 1) species place n each)

coordinate_small : (number : ℕ) (lower upper : Wall) (x : ℤ) → IsAxis number lower upper → LiesBetween lower upper x → unsigned_abs x ≤ farthest
coordinate_small number lower upper x axis between =
    let low = axis.lower_size in
    let high = axis.upper_size in
    let above = between.above in
    let below = between.below in
    omega (arith, ints)

-- coordinates between walls are those of a place
between_are : (size number dims : ℕ) (walls : List Wall) (xs : List ℤ) → farthest ≤ size → AreWalls number walls → length walls ≡ 2 * dims → AreBetween walls xs → AreCoordinates size dims xs
between_are size number dims [] [] far walls count between = tt
between_are size number zero [] (x ∷ xs) far walls count between = (between.0, between_are size number zero [] xs far walls count between.1)
between_are size number (suc dims) [] (x ∷ xs) far walls count between = absurd (omega arith)
between_are size number dims (lower ∷ []) xs far walls count between = absurd walls
between_are size number dims (lower ∷ upper ∷ more) [] far walls count between = absurd between
between_are size number zero (lower ∷ upper ∷ more) (x ∷ xs) far walls count between = absurd (omega arith)
between_are size number (suc dims) (lower ∷ upper ∷ more) (x ∷ xs) far walls count between =
    let small = coordinate_small number lower upper x walls.0 between.0 in
    (between.0.odd, omega arith, between_are size (number + 1) dims more xs far walls.1 (omega arith) between.1)

-- nothing happens, or something is printed
pub nothing_kept : (draft : Draft) (state : State) → Fits draft state → KeepsStep draft state 1000000 (idle state)
nothing_kept draft state fits = record { last = fits; states = All-nil (Fits draft); next = omega arith; step = refl }

-- the state became one that fits
becomes_kept : (draft : Draft) (state new : State) → Fits draft new → new.next ≤ state.next + 1000000 → new.step ≡ state.step → KeepsStep draft state 1000000 (becomes new)
becomes_kept draft state new fits low same =
    record { last = fits; states = All-cons (Fits draft) new [] fits (All-nil (Fits draft)); next = low; step = same }

killed_kept : (draft : Draft) (state : State) (test : Mol → Bool) → Fits draft state → KeepsStep draft state 1000000 (becomes (with_mols state (filter test state.mols)))
killed_kept draft state test fits =
    let count = fits.count in
    becomes_kept draft state (with_mols state (filter test state.mols))
    (refits draft state (filter test state.mols) state.next fits (Ascend-filter test 0 state.next state.mols fits.serials) fits.next
    (omega (arith, length-filter test state.mols, count_by-le-length test state.mols))
    (All-filter test (IsPlaced draft (reach state.step)) state.mols (Fits-placed draft state fits)))
    (omega arith) refl

hit_kept : (draft : Draft) (state : State) (test : ℕ → Mol → Bool) → Fits draft state → KeepsStep draft state 1000000 (becomes (with_mols state (filter_ranked test 0 state.mols)))
hit_kept draft state test fits =
    let count = fits.count in
    becomes_kept draft state (with_mols state (filter_ranked test 0 state.mols))
    (refits draft state (filter_ranked test 0 state.mols) state.next fits (Ascend-filter_ranked test 0 0 state.next state.mols fits.serials) fits.next
    (omega (arith, length-filter_ranked test 0 state.mols))
    (All-filter_ranked test (IsPlaced draft (reach state.step)) 0 state.mols (Fits-placed draft state fits)))
    (omega arith) refl

-- a molecule that may be turned into a species that there is
turned_placed : (draft : Draft) (most to : ℕ) (hit : Bool) (mol : Mol) → to < length draft.species → IsPlaced draft most mol → IsPlaced draft most (if hit then turned_into to mol else mol)
turned_placed draft most to true mol there placed = record { species = there; place = placed.place }
turned_placed draft most to false mol there placed = placed

turned_serial : (to : ℕ) (hit : Bool) (mol : Mol) → (if hit then turned_into to mol else mol).serial ≡ mol.serial
turned_serial to true mol = refl
turned_serial to false mol = refl

turned_kept : (draft : Draft) (state : State) (hit : ℕ → Mol → Bool) (to : ℕ) → Fits draft state → to < length draft.species → KeepsStep draft state 1000000 (becomes (with_mols state (map_ranked (λ rank mol. if hit rank mol then turned_into to mol else mol) 0 state.mols)))
turned_kept draft state hit to fits there =
    let count = fits.count in
    let f : ℕ → Mol → Mol = λ rank mol. if hit rank mol then turned_into to mol else mol in
    becomes_kept draft state (with_mols state (map_ranked f 0 state.mols))
    (refits draft state (map_ranked f 0 state.mols) state.next fits
    (Ascend-map_ranked f (λ rank mol. turned_serial to (hit rank mol) mol) 0 0 state.next state.mols fits.serials) fits.next
    (omega (arith, length-map_ranked f 0 state.mols))
    (All-map_ranked f (IsPlaced draft (reach state.step)) (λ rank mol placed. turned_placed draft (reach state.step) to (hit rank mol) mol there placed) 0 state.mols (Fits-placed draft state fits)))
    (omega arith) refl

-- molecules that are added within the limit
added_kept : (draft : Draft) (state : State) (species n : ℕ) (place : Place) → IsSound draft → Fits draft state → state.next + 1000000 ≤ last_serial → species < length draft.species → n ≤ 1000000 → length place.0 ≡ 3 → AreBetween draft.walls place.0 → length state.mols + n ≤ draft.max_mol → KeepsStep draft state 1000000 (becomes (with_more state species place n))
added_kept draft state species n place sound fits room there few three between within =
    let far : farthest ≤ reach state.step = omega arith in
    let stands = between_are (reach state.step) 0 draft.dims draft.walls place.0 far sound.walls sound.wall_count between in
    let more = molecules_at state.next species place n in
    becomes_kept draft state (with_more state species place n)
    (refits draft state (state.mols ++ more) (state.next + n) fits
    (Ascend-append 0 state.next (state.next + n) state.mols more fits.serials (Ascend-molecules_at state.next species place n))
    (omega arith)
    (omega (arith, length-append state.mols more, length-molecules_at state.next species place n))
    (All-append (IsPlaced draft (reach state.step)) state.mols more (Fits-placed draft state fits)
    (All-molecules_at (IsPlaced draft (reach state.step)) state.next species place n
    (λ serial. record { species = there; place = record { axes = three; coordinates = stands } }))))
    (omega arith) refl

over_or_added : (draft : Draft) (state : State) (species n : ℕ) (place : Place) (over : Bool) → Fits draft state → (over ≡ false → KeepsStep draft state 1000000 (becomes (with_more state species place n))) → KeepsStep draft state 1000000 (if over then is_over state state.step else becomes (with_more state species place n))
over_or_added draft state species n place true fits added = record { last = fits; states = All-nil (Fits draft); next = omega arith; step = refl }
over_or_added draft state species n place false fits added = added refl

pub effect_kept : (draft : Draft) (seed c : ℕ) (state : State) (does : Act) → IsSound draft → Fits draft state → state.next + 1000000 ≤ last_serial → IsAct (length draft.species) (length draft.compartments) (length draft.outputs) draft.walls does → KeepsStep draft state 1000000 (effect_of draft seed c state does)
unfolding effect_of
effect_kept draft seed c state (act.CountHeader out) sound fits room does = record { last = fits; states = All-nil (Fits draft); next = omega arith; step = refl }
effect_kept draft seed c state (act.Count out) sound fits room does = record { last = fits; states = All-nil (Fits draft); next = omega arith; step = refl }
effect_kept draft seed c state (act.CountIn compartment out) sound fits room does = record { last = fits; states = All-nil (Fits draft); next = omega arith; step = refl }
effect_kept draft seed c state (act.List out) sound fits room does = record { last = fits; states = All-nil (Fits draft); next = omega arith; step = refl }
effect_kept draft seed c state (act.Positions who out) sound fits room does = record { last = fits; states = All-nil (Fits draft); next = omega arith; step = refl }
effect_kept draft seed c state (act.CountSpace who axis low high bins out) sound fits room does = record { last = fits; states = All-nil (Fits draft); next = omega arith; step = refl }
effect_kept draft seed c state (act.Moments who out) sound fits room does = record { last = fits; states = All-nil (Fits draft); next = omega arith; step = refl }
effect_kept draft seed c state (act.MeanSquare who at out) sound fits room does = record { last = fits; states = All-nil (Fits draft); next = omega arith; step = refl }
effect_kept draft seed c state (act.Radial first second radius bins out) sound fits room does = record { last = fits; states = All-nil (Fits draft); next = omega arith; step = refl }
effect_kept draft seed c state (act.Echo out text) sound fits room does = record { last = fits; states = All-nil (Fits draft); next = omega arith; step = refl }
effect_kept draft seed c state (act.Kill who) sound fits room does = killed_kept draft state (λ mol. not (is_meant who mol)) fits
effect_kept draft seed c state (act.KillProb who p) sound fits room does = hit_kept draft state (λ rank mol. not (is_hit seed c state.step who p rank mol)) fits
effect_kept draft seed c state (act.Replace who to p) sound fits room does = turned_kept draft state (is_hit seed c state.step who p) to fits does.1
effect_kept draft seed c state (act.PointSource species n place) sound fits room does =
    over_or_added draft state species n place (nat_lt draft.max_mol (length state.mols + n)) fits
    (λ test. added_kept draft state species n place sound fits room does.0 does.1 does.2 does.3 (grind (arith, nat_tests)))
effect_kept draft seed c state act.Stop sound fits room does = record { last = fits; states = All-nil (Fits draft); next = omega arith; step = refl }

-- a command keeps what its effect keeps, whether or not its tests hold
pub performed_kept : (draft : Draft) (seed c : ℕ) (state : State) (command : Command) → IsSound draft → Fits draft state → state.next + 1000000 ≤ last_serial → IsCommand (length draft.species) (length draft.compartments) (length draft.outputs) draft.walls command → KeepsStep draft state 1000000 (performed draft seed c state command)
performed_kept draft seed c state command sound fits room is =
    elim (list_all (holds_of state.mols) command.tests) as
    (λ held. KeepsStep draft state 1000000 (if held then effect_of draft seed c state command.act else idle state))
    [ true ↦ effect_kept draft seed c state command.act sound fits room is.does | false ↦ nothing_kept draft state fits ]

-- a part of a run that prints one piece at most, to an outlet that there is, and none where it is over
pub record PrintsOnce (count : ℕ) (stretch : Stretch) : Type 0 where
  pub pieces : (stretch.pieces ≡ []) ⊎ ((out : ℕ) × (text : List ℕ) × (out < count) × (stretch.pieces ≡ (out, text) ∷ []))
  pub over : (step : ℕ) → stretch.ending ≡ Over step → stretch.pieces ≡ []

piece_printed : (count : ℕ) (state : State) (out : ℕ) (text : List ℕ) → out < count → PrintsOnce count (prints state out text)
piece_printed count state out text within = record { pieces = inr (out, text, within, refl); over = λ step over. cc over }

silent : (count : ℕ) (stretch : Stretch) → stretch.pieces ≡ [] → PrintsOnce count stretch
silent count stretch none = record { pieces = inl none; over = λ step over. none }

over_or_silent : (count : ℕ) (over : Bool) (first second : Stretch) → first.pieces ≡ [] → second.pieces ≡ [] → PrintsOnce count (if over then first else second)
over_or_silent count true first second none_first none_second = silent count first none_first
over_or_silent count false first second none_first none_second = silent count second none_second

pub effect_prints : (draft : Draft) (seed c : ℕ) (state : State) (does : Act) → IsAct (length draft.species) (length draft.compartments) (length draft.outputs) draft.walls does → PrintsOnce (2 + length draft.outputs) (effect_of draft seed c state does)
unfolding effect_of
effect_prints draft seed c state (act.CountHeader out) does = piece_printed _ state out _ does
effect_prints draft seed c state (act.Count out) does = piece_printed _ state out _ does
effect_prints draft seed c state (act.CountIn compartment out) does = piece_printed _ state out _ does.1
effect_prints draft seed c state (act.List out) does = piece_printed _ state out _ does
effect_prints draft seed c state (act.Positions who out) does = piece_printed _ state out _ does.1
effect_prints draft seed c state (act.CountSpace who axis low high bins out) does = piece_printed _ state out _ does.4
effect_prints draft seed c state (act.Moments who out) does = piece_printed _ state out _ does.1
effect_prints draft seed c state (act.MeanSquare who at out) does = piece_printed _ state out _ does.2
effect_prints draft seed c state (act.Radial first second radius bins out) does = piece_printed _ state out _ does.5
effect_prints draft seed c state (act.Echo out text) does = piece_printed _ state out _ does
effect_prints draft seed c state (act.Kill who) does = silent _ _ refl
effect_prints draft seed c state (act.KillProb who p) does = silent _ _ refl
effect_prints draft seed c state (act.Replace who to p) does = silent _ _ refl
effect_prints draft seed c state (act.PointSource species n place) does = over_or_silent _ (nat_lt draft.max_mol (length state.mols + n)) _ _ refl refl
effect_prints draft seed c state act.Stop does = silent _ _ refl

pub performed_prints : (draft : Draft) (seed c : ℕ) (state : State) (command : Command) → IsCommand (length draft.species) (length draft.compartments) (length draft.outputs) draft.walls command → PrintsOnce (2 + length draft.outputs) (performed draft seed c state command)
performed_prints draft seed c state command is =
    elim (list_all (holds_of state.mols) command.tests) as
    (λ held. PrintsOnce (2 + length draft.outputs) (if held then effect_of draft seed c state command.act else idle state))
    [ true ↦ effect_prints draft seed c state command.act is.does | false ↦ silent _ (idle state) refl ]

pub nothing_printed : (count : ℕ) (state : State) → PrintsOnce count (idle state)
nothing_printed count state = silent count (idle state) refl
