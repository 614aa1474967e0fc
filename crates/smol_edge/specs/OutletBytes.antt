-- The bytes of each outlet in a list of them.
use Rattle.std.specs.Prelude.{◌≡◌, ℕ, ◌+◌, ◌≤◌, List, [], take, slice_index_or}
use Rattle.std.proofs.Common.{arith}
use Rattle.std.proofs.lemmas.List.{length-take, get_or_past}

-- an outlet past those that are open has no bytes
pub blank : (opened : ℕ) (outlets : List (List ℕ)) (outlet : ℕ) → 2 + opened ≤ outlet
    → slice_index_or (take (2 + opened) outlets) outlet [] ≡ []
blank opened outlets outlet past =
    get_or_past (take (2 + opened) outlets) outlet [] (rw (length-take (2 + opened) outlets) (omega arith))
