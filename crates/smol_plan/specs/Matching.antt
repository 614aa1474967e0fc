-- Serial matching: first come, first served.
use Rattle.std.specs.Prelude.{ℕ, Bool, false, not, ◌||◌, ◌&&◌, List, [], ◌∷◌, slice_index_or}
use Rattle.smol_plan.specs.declared.pair.Pair.{Pair}
use Rattle.smol_plan.specs.Pair.{has_molecule}

-- whether neither molecule of a pair is in the set of taken ones
abbrev pub is_free : (ℕ → Bool) → Pair → Bool
is_free taken p = not (taken p.a || taken p.b)

-- the set of taken molecules after a pair: where it fires, both of its molecules are put in
abbrev pub taken_after : (ℕ → Bool) → Pair → ℕ → Bool
taken_after taken p m = taken m || (is_free taken p && has_molecule p m)

-- walk the list with a set of taken molecules: a pair fires where neither of its own is in the set
abbrev pub serial_from : (ℕ → Bool) → List Pair → List Bool
serial_from taken [] = []
serial_from taken (p ∷ pairs) = is_free taken p ∷ serial_from (taken_after taken p) pairs

-- serial matching: whether each pair fires, where no molecule is taken at first
abbrev pub serial : List Pair → List Bool
serial pairs = serial_from (λ _. false) pairs

-- whether the pair at a place fires in serial matching
abbrev pub fires : List Pair → ℕ → Bool
fires pairs j = slice_index_or (serial pairs) j false
