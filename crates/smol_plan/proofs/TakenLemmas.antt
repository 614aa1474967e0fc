-- Which molecules are taken before a pair, and after it.
use Rattle.std.proofs.Common.{◌≡◌, ℕ, suc, ◌<◌, Bool, true, false, not, ◌&&◌, ◌||◌, List, length, refl, sym, ◌∙◌, ap, arith}
use Rattle.std.proofs.lemmas.Bool.{and_right}
use Rattle.smol_plan.specs.declared.pair.Pair.{Pair}
use Rattle.smol_plan.specs.declared.pair.Side.{Side}
use Rattle.smol_plan.specs.declared.pair.Side.TheVariants.{Low, High}
use Rattle.smol_plan.specs.declared.decision.Decision.{Decision}
use Rattle.smol_plan.specs.Pair.{molecule_at}
use Rattle.smol_plan.specs.Matching.{fires}
use Rattle.smol_plan.specs.Links.{has_at, any_below, is_taken_before, IsLastBefore}
use Rattle.smol_plan.specs.Decision.{is_taken_on, decision_after, TellsTaken}
use Rattle.smol_plan.proofs.BelowLemmas.{any_below_gap}
use Rattle.smol_plan.proofs.MatchingLemmas.{serial_from_at}
use Rattle.smol_plan.proofs.SideLemmas.{has_on_side}

-- a pair fires where neither of its molecules is taken before it
pub fires_free : (pairs : List Pair) (j : ℕ) → j < length pairs → fires pairs j ≡ not (is_taken_before pairs (molecule_at pairs j Low) j || is_taken_before pairs (molecule_at pairs j High) j)
fires_free pairs j l = serial_from_at (λ _. false) pairs j l

-- no earlier pair has the molecule, so that it is not taken
pub is_taken_before-none : (pairs : List Pair) (m j : ℕ) → ((i : ℕ) → i < j → has_at pairs m i ≡ false) → false ≡ is_taken_before pairs m j
unfolding any_below
is_taken_before-none pairs m j h =
    nothing_yet ∙ any_below_gap _ 0 j (omega arith) (λ k a b. and_right _ _ (h k b))
  where
    nothing_yet : false ≡ is_taken_before pairs m 0
    nothing_yet = refl

-- what the last earlier pair with the molecule says of it holds until this pair
pub is_taken_before-last : (pairs : List Pair) (m j i : ℕ) → IsLastBefore pairs m j i → is_taken_before pairs m (suc i) ≡ is_taken_before pairs m j
is_taken_before-last pairs m j i h =
    any_below_gap _ (suc i) j h.earlier (λ k a b. and_right _ _ (h.none_between k (omega arith) b))

-- what the source of a link says of the molecule
pub is_taken_before-source : (pairs : List Pair) (m j i : ℕ) (d : Decision) (t : Side) → IsLastBefore pairs m j i → TellsTaken pairs i d → molecule_at pairs i t ≡ m → is_taken_on d t ≡ is_taken_before pairs m j
is_taken_before-source pairs m j i d t last tells e =
    tells t ∙ ap (λ k. is_taken_before pairs k (suc i)) e ∙ is_taken_before-last pairs m j i last

or_swap : (a b : Bool) → (a || b) ≡ ((b && true) || a)
or_swap true true = refl
or_swap true false = refl
or_swap false true = refl
or_swap false false = refl

-- the decision after what is taken before the pair tells what is taken after it
pub TellsTaken-after : (pairs : List Pair) (j : ℕ) (d : Decision) (low high : Bool) → j < length pairs → low ≡ is_taken_before pairs (molecule_at pairs j Low) j → high ≡ is_taken_before pairs (molecule_at pairs j High) j → d ≡ decision_after low high → TellsTaken pairs j d
unfolding any_below
TellsTaken-after pairs j d low high l a b e side = go side
  where
    fired : not (low || high) ≡ fires pairs j
    fired = rw (a, b) (sym (fires_free pairs j l))

    more : (m : ℕ) (taken : Bool) → taken ≡ is_taken_before pairs m j → has_at pairs m j ≡ true → (taken || not (low || high)) ≡ is_taken_before pairs m (suc j)
    more m taken t h = rw (fired, t, h) (or_swap (is_taken_before pairs m j) (fires pairs j))

    go : (side : Side) → is_taken_on d side ≡ is_taken_before pairs (molecule_at pairs j side) (suc j)
    go Low =
        ap (λ x. is_taken_on x Low) e ∙ more (molecule_at pairs j Low) low a (has_on_side pairs (molecule_at pairs j Low) j Low refl)
    go High =
        ap (λ x. is_taken_on x High) e ∙ more (molecule_at pairs j High) high b (has_on_side pairs (molecule_at pairs j High) j High refl)
