-- What is known of a line whose rule gives a value: each of its tests was passed, and each of its words had a value.
use Rattle.std.proofs.Common.{◌≡◌, ◌&&◌, Bool, true, false, List, ◌∷◌, Option, None, Some, Result, Ok, Err, refl}
use Rattle.smol_types.specs.declared.fault.Kind.{Kind}
use Rattle.smol_line.specs.Checks.{unless, once, passing, there, with_value}
use Rattle.smol_line.specs.LookingBack.{say}

-- the first test was passed, and so were the others
pub passed : {T : Type 0} (test : Option Kind) (tests : List (Option Kind)) (value : Result T Kind) (found : T) → passing (test ∷ tests) value ≡ Ok found → (test ≡ None) × (passing tests value ≡ Ok found)
passed None tests value found is = (refl, is)
passed (Some kind) tests value found is = absurd cc

-- there was a value, and what comes of it
pub valued : {T U F : Type 0} (value : Result T F) (next : T → Result U F) (found : U) → with_value value next ≡ Ok found → (x : T) × (value ≡ Ok x) × (next x ≡ Ok found)
valued (Ok x) next found is = (x, refl, is)
valued (Err kind) next found is = absurd cc

pub holds : (condition : Bool) (kind : Kind) → unless condition kind ≡ None → condition ≡ true
holds true kind is = refl
holds false kind is = absurd cc

-- a condition that held, and what passed behind it
pub held : {T : Type 0} (condition : Bool) (kind : Kind) (tests : List (Option Kind)) (value : Result T Kind) (last : T) → passing (unless condition kind ∷ tests) value ≡ Ok last → (condition ≡ true) × (passing tests value ≡ Ok last)
held condition kind tests value last is =
    let first = passed (unless condition kind) tests value last is in
    (holds condition kind first.0, first.1)

pub not_yet : {T : Type 0} (given : Option T) → once given ≡ None → given ≡ None
not_yet None is = refl
not_yet (Some value) is = absurd cc

pub is_there : {T : Type 0} (given : Option T) (kind : Kind) (found : T) → there given kind ≡ Ok found → given ≡ Some found
is_there None kind found is = absurd cc
is_there (Some value) kind found is = cc

-- a fault is no value
pub no_value : {T F P : Type 0} (fault : F) (value : T) → Err fault ≡ Ok value → P
no_value fault value is = absurd (cc)

-- two values of one result are the same
pub same_value : {T F : Type 0} (x y : T) → ◌≡◌ {A = Result T F} (Ok x) (Ok y) → x ≡ y
same_value x y is = cc

-- what is said is said by a value
pub said_by : {T S : Type 0} (said : T → S) (rule : Result T Kind) (more : S) → say said rule ≡ Ok more → (value : T) × (rule ≡ Ok value) × (said value ≡ more)
said_by said (Ok value) more is = (value, refl, cc)
said_by said (Err kind) more is = absurd cc

-- both of two conditions hold
pub both : (a b : Bool) → (a && b) ≡ true → (a ≡ true) × (b ≡ true)
both true b is = (refl, is)
both false b is = absurd cc

-- each of three conditions holds
pub three : (a b c : Bool) → (a && b && c) ≡ true → (a ≡ true) × (b ≡ true) × (c ≡ true)
three true true true is = (refl, refl, refl)
three true true false is = absurd cc
three true false c is = absurd cc
three false b c is = absurd cc
