-- Names are text, and the first fault of several names.
use Rattle.std.proofs.Common.{◌≡◌, ℕ, ◌<◌, ◌&&◌, Bool, true, false, not, nat_lt, List, [], ◌∷◌, ◌++◌, length, Option, None, Some, arith, refl, ap, ◌∙◌}
use Rattle.std.proofs.lemmas.Bool.Decides.{nat_tests}
use Rattle.std.specs.List.{list_all}
use Rattle.std.specs.Str.{IsAscii, IsUtf8}
use Rattle.std.proofs.lemmas.Str.{IsUtf8-from_ascii}
use Rattle.std.proofs.lemmas.Str.Ascii.{IsAscii-nil, IsAscii-cons}
use Rattle.smol_types.specs.declared.fault.Kind.{Kind}
use Rattle.smol_line.specs.Names.{is_letter, continues_name, is_reserved, is_name, first_fault, names_fault}

and_left : (a b : Bool) → (a && b) ≡ true → a ≡ true
and_left true b both = refl
and_left false b both = both

and_right : (a b : Bool) → (a && b) ≡ true → b ≡ true
and_right true b both = both
and_right false b both = absurd (let no : false ≡ true = both in cc)

letter_is_ascii : (byte : ℕ) → is_letter byte ≡ true → byte < 128
letter_is_ascii byte letter = grind (arith, nat_tests)

continues_is_ascii : (byte : ℕ) → continues_name byte ≡ true → byte < 128
continues_is_ascii byte continues = grind (arith, nat_tests)

all_are_ascii : (bytes : List ℕ) → list_all continues_name bytes ≡ true → IsAscii bytes
all_are_ascii [] all = IsAscii-nil
all_are_ascii (byte ∷ bytes) all =
    IsAscii-cons byte bytes
    (continues_is_ascii byte (and_left (continues_name byte) (list_all continues_name bytes) all))
    (all_are_ascii bytes (and_right (continues_name byte) (list_all continues_name bytes) all))

-- the bytes of a name are text
pub name_is_text : (word : List ℕ) → is_name word ≡ true → IsUtf8 word
name_is_text [] name = absurd (let no : false ≡ true = name in cc)
name_is_text (byte ∷ bytes) name =
    let few = nat_lt (length bytes) 64 in
    let free = not (is_reserved (byte ∷ bytes)) in
    let short = and_left (is_letter byte && list_all continues_name bytes && few) free name in
    let front = and_left (is_letter byte && list_all continues_name bytes) few short in
    IsUtf8-from_ascii (byte ∷ bytes)
    (IsAscii-cons byte bytes
    (letter_is_ascii byte (and_left (is_letter byte) (list_all continues_name bytes) front))
    (all_are_ascii bytes (and_right (is_letter byte) (list_all continues_name bytes) front)))

-- a name without a fault leaves the others to be tested
pub names_fault-next : (fault : List (List ℕ) → List ℕ → Option Kind) (known names : List (List ℕ)) (name : List ℕ) (rest : List (List ℕ)) → names ≡ name ∷ rest → fault known name ≡ None → names_fault fault known names ≡ names_fault fault (known ++ name ∷ []) rest
names_fault-next fault known names name rest is fine = ap (names_fault fault known) is ∙ ap (λ found. first_fault found (names_fault fault (known ++ name ∷ []) rest)) fine

-- and one with a fault has the first
pub names_fault-found : (fault : List (List ℕ) → List ℕ → Option Kind) (known names : List (List ℕ)) (name : List ℕ) (rest : List (List ℕ)) (kind : Kind) → names ≡ name ∷ rest → fault known name ≡ Some kind → names_fault fault known names ≡ Some kind
names_fault-found fault known names name rest kind is fails = ap (names_fault fault known) is ∙ ap (λ found. first_fault found (names_fault fault (known ++ name ∷ []) rest)) fails
