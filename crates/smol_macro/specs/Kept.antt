-- How definitions are kept. This is no part of what a text means.
use Rattle.std.specs.Prelude.{ℕ, List, [], ◌∷◌, Option, option_map, option_and_then, Vec}
use Rattle.std.specs.Global.{Global}
use Rattle.std.specs.Map.{lookup}
use Rattle.smol_macro.specs.declared.definitions.Definitions.{Definitions}
use Rattle.smol_macro.specs.Meanings.{Meanings}
use Rattle.std.specs.Str.{bytes_eq}

-- the bytes of a kept meaning
abbrev pub meaning_of : Option (Vec ℕ Global) → Option (List ℕ)
meaning_of meaning = option_map (λ bytes. bytes.items) meaning

-- what a name stands for, by the entry of this name
abbrev pub meaning_in : List ℕ → List (Vec ℕ Global × Option (Vec ℕ Global)) → Option (List ℕ)
meaning_in name entries = option_and_then meaning_of (lookup (λ kept. bytes_eq name kept.items) entries)

-- what all names stand for
abbrev pub meanings_of : Definitions → Meanings
meanings_of definitions = λ name. meaning_in name definitions.meanings.entries

-- there isn't exactly one
abbrev pub IsNotOne : List (List ℕ) → Type 0
IsNotOne [] = Unit {0}
IsNotOne (word ∷ []) = ⊥
IsNotOne (word ∷ other ∷ words) = Unit {0}

-- there is one at least
abbrev pub HasWords : List (List ℕ) → Type 0
HasWords [] = ⊥
HasWords (word ∷ words) = Unit {0}
