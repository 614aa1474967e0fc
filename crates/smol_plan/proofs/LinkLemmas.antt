-- What the searches for earlier and later pairs give.
use Rattle.std.proofs.Common.{◌≡◌, ℕ, nat_lt, ◌<◌, Bool, true, false, List, length, Some, None, refl, sym, ◌∙◌, ⊎_elim}
use Rattle.std.proofs.lemmas.Bool.{lt-ltb, ltb-true}
use Rattle.smol_plan.specs.declared.pair.Pair.{Pair}
use Rattle.smol_plan.specs.declared.pair.Side.{Side}
use Rattle.smol_plan.specs.Pair.{molecule_at}
use Rattle.smol_plan.specs.Links.{has_at, last_below, source_of, IsLastBefore}
use Rattle.smol_plan.proofs.BelowLemmas.{FindsNone, FindsLast, last_below_cases, last_below_is}

-- the search for the source of a link, within the list
pub source_of-inside : (pairs : List Pair) (j : ℕ) (side : Side) → j < length pairs → source_of pairs j side ≡ last_below (has_at pairs (molecule_at pairs j side)) j
unfolding source_of
source_of-inside pairs j side l = rw (lt-ltb _ _ l) refl

-- there is a source, or there is none
pub data SourceIs (pairs : List Pair) (j : ℕ) (side : Side) : Type 0 where
  no_source : source_of pairs j side ≡ None → ((i : ℕ) → i < j → has_at pairs (molecule_at pairs j side) i ≡ false) → SourceIs pairs j side
  a_source : (i : ℕ) → source_of pairs j side ≡ Some i → IsLastBefore pairs (molecule_at pairs j side) j i → SourceIs pairs j side

pub source_cases : (pairs : List Pair) (j : ℕ) (side : Side) → j < length pairs → SourceIs pairs j side
source_cases pairs j side l =
    let m = molecule_at pairs j side in
    ⊎_elim
    (λ (h : FindsNone (has_at pairs m) j). no_source (source_of-inside pairs j side l ∙ h.is) h.none)
    (λ (h : (i : ℕ) × FindsLast (has_at pairs m) j i). a_source h.0 (source_of-inside pairs j side l ∙ h.1.is) record { earlier = h.1.below; has = h.1.passes; none_between = h.1.none_above })
    (last_below_cases (has_at pairs m) j)

-- the last earlier pair is the source
pub source_is : (pairs : List Pair) (j : ℕ) (side : Side) (i : ℕ) → j < length pairs → IsLastBefore pairs (molecule_at pairs j side) j i → source_of pairs j side ≡ Some i
source_is pairs j side i l h =
    source_of-inside pairs j side l ∙ last_below_is _ j i h.earlier h.has h.none_between

-- a link is of a pair of the list
pub link_inside : (pairs : List Pair) (j : ℕ) (side : Side) (i : ℕ) → source_of pairs j side ≡ Some i → j < length pairs
unfolding source_of
link_inside pairs j side i e = go (nat_lt j (length pairs)) refl
  where
    go : (b : Bool) → nat_lt j (length pairs) ≡ b → j < length pairs
    go true t = ltb-true _ _ t
    go false f = let none : None ≡ Some i = rw f at e in cc

-- what the source of a link is
pub source_tells : (pairs : List Pair) (j : ℕ) (side : Side) (i : ℕ) → source_of pairs j side ≡ Some i → IsLastBefore pairs (molecule_at pairs j side) j i
source_tells pairs j side i e = go (source_cases pairs j side (link_inside pairs j side i e))
  where
    go : SourceIs pairs j side → IsLastBefore pairs (molecule_at pairs j side) j i
    go (no_source n none) = let wrong : Some i ≡ None = sym e ∙ n in cc
    go (a_source k s last) = let same : k ≡ i = cc in rw (← same) last
