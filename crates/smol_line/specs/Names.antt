-- What counts as a name in a configuration, and the first fault of several names.
use Rattle.std.specs.Prelude.{ℕ, Bool, false, not, ◌&&◌, ◌||◌, ◌==◌, nat_le, nat_lt, List, [], ◌∷◌, ◌++◌, length, Option, None, Some, Result, Ok, codes, position, is_some}
use Rattle.std.specs.List.{list_all}
use Rattle.std.specs.Str.{bytes_eq}
use Rattle.smol_types.specs.declared.fault.Kind.{Kind}
use Rattle.smol_types.specs.declared.fault.Kind.TheVariants.{NotInProfile, RepeatedName}
use Rattle.smol_line.specs.Checks.{unless, passing}

abbrev pub is_letter : ℕ → Bool
is_letter byte = (nat_le 65 byte && nat_le byte 90) || (nat_le 97 byte && nat_le byte 122)

-- a byte that a name may go on with: a letter, a digit or a low line
abbrev pub continues_name : ℕ → Bool
continues_name byte = is_letter byte || (nat_le 48 byte && nat_le byte 57) || (byte == 95)

-- a word that means something else wherever a name may stand
abbrev pub is_reserved : List ℕ → Bool
is_reserved word =
    bytes_eq word (codes "all") || bytes_eq word (codes "empty") || bytes_eq word (codes "front") || bytes_eq word (codes "back")
    || bytes_eq word (codes "both") || bytes_eq word (codes "stdout") || bytes_eq word (codes "stderr")

-- a name begins with a letter, goes on with letters, digits and low lines, has at most 64 bytes and isn't reserved
abbrev pub is_name : List ℕ → Bool
is_name [] = false
is_name (byte ∷ bytes) = is_letter byte && list_all continues_name bytes && nat_lt (length bytes) 64 && not (is_reserved (byte ∷ bytes))

-- whether a name is one of these
abbrev pub is_named : List (List ℕ) → List ℕ → Bool
is_named names word = is_some (position (bytes_eq word) names)

-- the new name that a word gives, beside these names
abbrev pub new_name_in : List (List ℕ) → List ℕ → Result (List ℕ) Kind
new_name_in names word = passing (unless (is_name word) NotInProfile ∷ unless (not (is_named names word)) RepeatedName ∷ []) (Ok word)

-- the first of two faults
abbrev pub first_fault : Option Kind → Option Kind → Option Kind
first_fault None later = later
first_fault (Some kind) later = Some kind

-- the first fault of further names, by the fault that a name has behind those that are known
abbrev pub names_fault : (List (List ℕ) → List ℕ → Option Kind) → List (List ℕ) → List (List ℕ) → Option Kind
names_fault fault known [] = None
names_fault fault known (name ∷ names) = first_fault (fault known name) (names_fault fault (known ++ name ∷ []) names)
