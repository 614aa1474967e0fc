-- What of a list of molecules stays true when some of them leave it.
use Rattle.std.proofs.Common.{◌≡◌, ℕ, zero, suc, ◌+◌, ◌<◌, ◌≤◌, Bool, true, false, List, [], ◌∷◌, ◌++◌, length, All, Option, Some, None, filter, slice_get, get_or, cond, sym, ap, ◌∙◌, ⊎_elim, refl, arith}
use Rattle.std.specs.Prelude.{IfSome}
use Rattle.std.specs.List.{cons_option, filter_map, items_where_true}
use Rattle.std.proofs.lemmas.Bool.{cases_lt}
use Rattle.std.proofs.lemmas.Option.{get_or_from_slice_get, slice_get_within}
use Rattle.std.proofs.lemmas.List.Elements.{All-cons, All-head, All-nil, All-tail}
use Rattle.smol_types.specs.declared.state.Mol.{Mol}
use Rattle.smol_types.specs.State.{Ascend}

-- what holds of each item holds of the one at a place
pub item_at : {X : Type 0} (P : X → Type 0) (xs : List X) (number : ℕ) → number < length xs → All P xs → (x : X) × (slice_get xs number ≡ Some x) × P x
item_at P [] number within all = absurd (omega arith)
item_at P (x ∷ xs) zero within all = (x, refl, All-head P x xs all)
item_at P (x ∷ xs) (suc number) within all = item_at P xs number (omega arith) (All-tail P x xs all)

-- what holds of each thing that is made of an item holds of all of them
pub All-filter_map : {X Y : Type 0} (made : X → Option Y) (P : Y → Type 0) (xs : List X) → All (λ x. IfSome (made x) P) xs → All P (filter_map made xs)
All-filter_map made P [] all = All-nil P
All-filter_map {X} made P (x ∷ xs) all =
    let Q : X → Type 0 = λ x. IfSome (made x) P in
    first (made x) (All-head Q x xs all) (All-filter_map made P xs (All-tail Q x xs all))
  where
    first : (one : Option _) → IfSome one P → All P (filter_map made xs) → All P (cons_option one (filter_map made xs))
    first None holds more = more
    first (Some y) holds more = All-cons P y (filter_map made xs) holds more

pub length-filter_map : {X Y : Type 0} (made : X → Option Y) (xs : List X) → length (filter_map made xs) ≤ length xs
length-filter_map made [] = omega arith
length-filter_map made (x ∷ xs) = first (made x) (length-filter_map made xs)
  where
    first : (one : Option _) → length (filter_map made xs) ≤ length xs → length (cons_option one (filter_map made xs)) ≤ length (x ∷ xs)
    first None few = omega (arith, few)
    first (Some y) few = omega (arith, few)

-- what holds of all holds of those that are picked
pub All-picked : {X : Type 0} (P : X → Type 0) (picks : List Bool) (xs : List X) → All P xs → All P (items_where_true picks xs)
All-picked P [] xs all = All-nil P
All-picked P (pick ∷ picks) [] all = All-nil P
All-picked P (true ∷ picks) (x ∷ xs) all = All-cons P x _ (All-head P x xs all) (All-picked P picks xs (All-tail P x xs all))
All-picked P (false ∷ picks) (x ∷ xs) all = All-picked P picks xs (All-tail P x xs all)

-- serials that ascend from a number ascend from a lesser one
pub Ascend-from : (least more next : ℕ) (mols : List Mol) → least ≤ more → Ascend more next mols → Ascend least next mols
Ascend-from least more next [] less ascend = omega (arith, ascend)
Ascend-from least more next (mol ∷ mols) less ascend = (omega (arith, ascend.0), ascend.1)

-- and up to a greater one
pub Ascend-to : (least next more : ℕ) (mols : List Mol) → next ≤ more → Ascend least next mols → Ascend least more mols
Ascend-to least next more [] less ascend = omega (arith, ascend)
Ascend-to least next more (mol ∷ mols) less ascend = (ascend.0, Ascend-to (mol.serial + 1) next more mols less ascend.1)

pub Ascend-append : (least next more : ℕ) (xs ys : List Mol) → Ascend least next xs → Ascend next more ys → Ascend least more (xs ++ ys)
Ascend-append least next more [] ys first second = Ascend-from least next more ys first second
Ascend-append least next more (mol ∷ xs) ys first second = (first.0, Ascend-append (mol.serial + 1) next more xs ys first.1 second)

pub Ascend-filter : (test : Mol → Bool) (least next : ℕ) (mols : List Mol) → Ascend least next mols → Ascend least next (filter test mols)
Ascend-filter test least next [] ascend = ascend
Ascend-filter test least next (mol ∷ mols) ascend = first (test mol) (Ascend-filter test (mol.serial + 1) next mols ascend.1)
  where
    first : (here : Bool) → Ascend (mol.serial + 1) next (filter test mols) → Ascend least next (cond here (mol ∷ filter test mols) (filter test mols))
    first true more = (ascend.0, more)
    first false more = Ascend-from least (mol.serial + 1) next (filter test mols) (omega (arith, ascend.0)) more

-- what becomes of a molecule keeps its serial
abbrev pub KeepsSerial : (Mol → Option Mol) → Type 0
KeepsSerial made = (mol : Mol) → IfSome (made mol) (λ (after : Mol). after.serial ≡ mol.serial)

pub Ascend-filter_map : (made : Mol → Option Mol) → KeepsSerial made → (least next : ℕ) (mols : List Mol) → Ascend least next mols → Ascend least next (filter_map made mols)
Ascend-filter_map made keeps least next [] ascend = ascend
Ascend-filter_map made keeps least next (mol ∷ mols) ascend =
    first (made mol) (keeps mol) (Ascend-filter_map made keeps (mol.serial + 1) next mols ascend.1)
  where
    first : (one : Option Mol) → IfSome one (λ (after : Mol). after.serial ≡ mol.serial) → Ascend (mol.serial + 1) next (filter_map made mols)
        → Ascend least next (cons_option one (filter_map made mols))
    first None same more = Ascend-from least (mol.serial + 1) next (filter_map made mols) (omega (arith, ascend.0)) more
    first (Some after) same more =
        (omega (arith, ascend.0, same), Ascend-from (after.serial + 1) (mol.serial + 1) next (filter_map made mols) (omega (arith, same)) more)

Ascend-least : (least next j : ℕ) (mols : List Mol) (d : Mol) → Ascend least next mols → j < length mols → least ≤ (get_or mols j d).serial
Ascend-least least next j [] d ascend within = absurd (omega arith)
Ascend-least least next zero (mol ∷ mols) d ascend within = ascend.0
Ascend-least least next (suc j) (mol ∷ mols) d ascend within =
    let more = Ascend-least (mol.serial + 1) next j mols d ascend.1 (omega arith) in omega (arith, more, ascend.0)

-- an earlier molecule has the lower serial
pub Ascend-below : (least next i j : ℕ) (mols : List Mol) (d : Mol) → Ascend least next mols → i < j → j < length mols → (get_or mols i d).serial < (get_or mols j d).serial
Ascend-below least next i j [] d ascend less within = absurd (omega arith)
Ascend-below least next i zero (mol ∷ mols) d ascend less within = absurd (omega arith)
Ascend-below least next zero (suc j) (mol ∷ mols) d ascend less within =
    let more = Ascend-least (mol.serial + 1) next j mols d ascend.1 (omega arith) in omega (arith, more)
Ascend-below least next (suc i) (suc j) (mol ∷ mols) d ascend less within =
    Ascend-below (mol.serial + 1) next i j mols d ascend.1 (omega arith) (omega arith)

Ascend-same : (least next i j : ℕ) (mols : List Mol) (d : Mol) → Ascend least next mols → i < length mols → j < length mols
    → (get_or mols i d).serial ≡ (get_or mols j d).serial → i ≡ j
Ascend-same least next i j mols d ascend in_i in_j same =
    ⊎_elim
    (λ (less : i < j). absurd (omega (arith, same, Ascend-below least next i j mols d ascend less in_j)))
    (λ (rest : j ≤ i). ⊎_elim
    (λ (less : j < i). absurd (omega (arith, same, Ascend-below least next j i mols d ascend less in_i)))
    (λ (not_less : i ≤ j). let e : i ≡ j = omega arith in e)
    (cases_lt j i))
    (cases_lt i j)

-- a serial is that of one molecule alone
pub Ascend-one : (least next i j : ℕ) (mols : List Mol) (a b : Mol) → Ascend least next mols → slice_get mols i ≡ Some a → slice_get mols j ≡ Some b → a.serial ≡ b.serial → i ≡ j
Ascend-one least next i j mols a b ascend at_i at_j same =
    Ascend-same least next i j mols a ascend (slice_get_within mols i a at_i) (slice_get_within mols j b at_j)
    (ap (λ (mol : Mol). mol.serial) (get_or_from_slice_get mols i a a at_i) ∙ same ∙ ap (λ (mol : Mol). mol.serial) (sym (get_or_from_slice_get mols j b a at_j)))
