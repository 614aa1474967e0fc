-- Serial matching, pair by pair.
use Rattle.std.proofs.Common.{◌≡◌, ℕ, zero, suc, ◌+◌, ◌<◌, Bool, true, false, not, ◌&&◌, ◌||◌, List, [], ◌∷◌, ◌++◌, length, get_or, drop, drop-cons, append_assoc, add-one, refl, sym, ◌∙◌, ap, arith}
use mathlib.Core.Path.{fun_ext}
use Rattle.smol_plan.specs.declared.pair.Pair.{Pair}
use Rattle.smol_plan.specs.Pair.{has_molecule, shares_molecule, pair_at, no_pair}
use Rattle.smol_plan.specs.Matching.{is_free, taken_after, serial_from, fires}
use Rattle.smol_plan.proofs.BelowLemmas.{any_below_front, any_below_or, any_below_same}
use Rattle.smol_plan.specs.Links.{any_below}

-- whether a molecule is taken after the first j pairs of a walk
abbrev pub taken_by : (ℕ → Bool) → List Pair → ℕ → ℕ → Bool
taken_by taken pairs j m =
    taken m || any_below (λ i. get_or (serial_from taken pairs) i false && has_molecule (pair_at pairs i) m) j

or_assoc : (a b c : Bool) → ((a || b) || c) ≡ (a || (b || c))
or_assoc true b c = refl
or_assoc false b c = refl

or-false : (a : Bool) → (a || false) ≡ a
or-false true = refl
or-false false = refl

taken_by-suc : (taken : ℕ → Bool) (p : Pair) (pairs : List Pair) (j m : ℕ) → taken_by taken (p ∷ pairs) (suc j) m ≡ taken_by (taken_after taken p) pairs j m
taken_by-suc taken p pairs j m =
    ap (λ b. taken m || b) (any_below_front (λ i. get_or (serial_from taken (p ∷ pairs)) i false && has_molecule (pair_at (p ∷ pairs) i) m) j) ∙ sym (or_assoc (taken m) (is_free taken p && has_molecule p m) _)

taken_by-zero : (taken : ℕ → Bool) (pairs : List Pair) (m : ℕ) → taken_by taken pairs zero m ≡ taken m
unfolding any_below
taken_by-zero taken pairs m = or-false (taken m)

-- a pair of a walk fires where neither of its molecules is taken after those before it
pub serial_from_at : (taken : ℕ → Bool) (pairs : List Pair) (j : ℕ) → j < length pairs → get_or (serial_from taken pairs) j false ≡ is_free (taken_by taken pairs j) (pair_at pairs j)
serial_from_at taken [] j l = absurd (omega arith)
serial_from_at taken (p ∷ pairs) zero l =
    rw (taken_by-zero taken (p ∷ pairs) p.a, taken_by-zero taken (p ∷ pairs) p.b) refl
serial_from_at taken (p ∷ pairs) (suc j) l =
    rw (taken_by-suc taken p pairs j (pair_at pairs j).a, taken_by-suc taken p pairs j (pair_at pairs j).b) (serial_from_at (taken_after taken p) pairs j (omega arith))

and_or : (a b c : Bool) → ((a && b) || (a && c)) ≡ ((b || c) && a)
and_or true true c = refl
and_or true false true = refl
and_or true false false = refl
and_or false true c = refl
and_or false false true = refl
and_or false false false = refl

-- a pair fires exactly where no earlier pair that shares a molecule with it fires
pub fires_at : (pairs : List Pair) (j : ℕ) → j < length pairs → fires pairs j ≡ not (any_below (λ i. shares_molecule (pair_at pairs i) (pair_at pairs j) && fires pairs i) j)
fires_at pairs j l =
    let p = pair_at pairs j in
    serial_from_at (λ _. false) pairs j l ∙ ap not (sym (any_below_or (λ i. fires pairs i && has_molecule (pair_at pairs i) p.a) (λ i. fires pairs i && has_molecule (pair_at pairs i) p.b) j) ∙ any_below_same _ _ j (λ i _. and_or (fires pairs i) (has_molecule (pair_at pairs i) p.a) (has_molecule (pair_at pairs i) p.b)))

-- the walk gives one answer for each pair
pub length-serial_from : (taken : ℕ → Bool) (pairs : List Pair) → length (serial_from taken pairs) ≡ length pairs
length-serial_from taken [] = refl
length-serial_from taken (p ∷ pairs) = ap suc (length-serial_from (taken_after taken p) pairs)

-- one more pair of a walk whose answers so far, before those for the rest, are all the answers
pub serial_more : (fired : List Bool) (taken next : ℕ → Bool) (pairs : List Pair) (answers : List Bool) (i : ℕ) (b : Bool) → i < length pairs → b ≡ is_free taken (pair_at pairs i) → ((m : ℕ) → next m ≡ taken_after taken (pair_at pairs i) m) → fired ++ serial_from taken (drop i pairs) ≡ answers → (fired ++ b ∷ []) ++ serial_from next (drop (i + 1) pairs) ≡ answers
serial_more fired taken next pairs answers i b l free after so_far =
    rw (append_assoc, free, add-one) (ap (λ rest. fired ++ rest) here ∙ so_far)
  where
    same : next ≡ taken_after taken (pair_at pairs i)
    same = fun_ext after

    here : (is_free taken (pair_at pairs i) ∷ serial_from next (drop (suc i) pairs)) ≡ serial_from taken (drop i pairs)
    here = rw (drop-cons pairs i no_pair l, same) refl
