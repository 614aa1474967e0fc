-- Molecules that are out of reach of each other don't react.
use Rattle.std.proofs.Common.{◌≡◌, ℕ, zero, suc, ◌*◌, ◌<◌, ◌≤◌, Bool, true, false, ◌&&◌, ◌==◌, List, [], ◌∷◌, length, get_or, Option, None, Some, unsigned_abs, refl, sym, ap, ◌∙◌, subst, arith}
use Rattle.std.specs.Prelude.{◌||◌, if◌then◌else◌, max, nat_le, not}
use Rattle.std.specs.List.{list_any}
use Rattle.std.proofs.lemmas.Bool.{or_parts}
use Rattle.std.proofs.lemmas.Bool.Decides.{nat_tests}
use Rattle.std.proofs.lemmas.List.FromFn.{get_or-map-range_with_len, length-map-range_with_len}
use Rattle.smol_num.specs.declared.quantities.Micro.{Micro}
use Rattle.smol_geom.specs.declared.place.Place.{Place}
use Rattle.smol_geom.specs.Place.{gap, square_of_distance}
use Rattle.smol_types.specs.declared.draft.Draft.{Draft}
use Rattle.smol_types.specs.declared.reaction.Reaction.{Reaction}
use Rattle.smol_types.specs.Reactions.{reacts_together}
use Rattle.smol_meaning.specs.Encounters.{are_near}
use Rattle.smol_pairs.specs.Near.{are_within_on}
use Rattle.smol_pairs.specs.Reach.{in_ticks, is_out_of_reach, longer, longest_of, reach_by, reach_of, reaches_of}
use Rattle.smol_pairs.proofs.Distances.{too_far}

pub longer_none : (reach : Option ℕ) → longer reach None ≡ reach
longer_none None = refl
longer_none (Some reach) = refl

pub longer_in_turn : (one two three : Option ℕ) → longer (longer one two) three ≡ longer one (longer two three)
longer_in_turn None two three = refl
longer_in_turn (Some x) None three = refl
longer_in_turn (Some x) (Some y) None = refl
longer_in_turn (Some x) (Some y) (Some z) = ap Some (omega arith)

-- two places are farther apart on some axis than this reach. Without one all are
abbrev pub IsBeyond : Option ℕ → Place → Place → Type 0
IsBeyond None a b = Unit {0}
IsBeyond (Some reach) a b = is_out_of_reach reach a b ≡ true

out_of_less : (less most x y z : ℕ) → less ≤ most → not (nat_le x most && (nat_le y most && nat_le z most)) ≡ true
    → not (nat_le x less && (nat_le y less && nat_le z less)) ≡ true
out_of_less less most x y z within out = grind (arith, nat_tests)

-- what is beyond the longer of two reaches is beyond each
pub beyond_each : (one other : Option ℕ) (a b : Place) → IsBeyond (longer one other) a b → IsBeyond one a b × IsBeyond other a b
beyond_each None other a b out = (tt, out)
beyond_each (Some one) None a b out = (out, tt)
beyond_each (Some one) (Some other) a b out = (
  out_of_less one (max one other) (gap a b 0) (gap a b 1) (gap a b 2) (omega arith) out,
  out_of_less other (max one other) (gap a b 0) (gap a b 1) (gap a b 2) (omega arith) out,
)

-- a species that is none of the reactants doesn't react
neither : (p q r s : Bool) → p ≡ false → s ≡ false → ((p && q) || (r && s)) ≡ false
neither false q true false first second = refl
neither false q false false first second = refl
neither true q r s first second = absurd (cc)
neither false q r true first second = absurd (cc)

no_reactant : (a b : ℕ) (reactants : List ℕ) → list_any (λ (reactant : ℕ). reactant == a) reactants ≡ false → reacts_together a b reactants ≡ false
no_reactant a b [] none = refl
no_reactant a b (one ∷ []) none = refl
no_reactant a b (one ∷ two ∷ []) none =
    let first = or_parts (one == a) (list_any (λ (reactant : ℕ). reactant == a) (two ∷ [])) none in
    let second = or_parts (two == a) false first.1 in
    neither (one == a) (two == b) (one == b) (two == a) first.0 second.0
no_reactant a b (one ∷ two ∷ three ∷ more) none = refl

negated : (b : Bool) → not b ≡ true → b ≡ false
negated true e = absurd (cc)
negated false e = refl

not_near : (radius : Option Micro) (a b : Place) → IsBeyond (in_ticks radius) a b → are_near radius a b ≡ false
not_near None a b out = refl
not_near (Some radius) a b out =
    let most = 2 * unsigned_abs radius.0 in
    let far = too_far most a b (negated (are_within_on most a b 0 && (are_within_on most a b 1 && are_within_on most a b 2)) out) in
    let same : most * most ≡ 4 * (unsigned_abs radius.0 * unsigned_abs radius.0) = omega arith in
    subst (λ (square : ℕ). nat_le (square_of_distance a b) square ≡ false) same far

-- so places beyond the reach of a reaction leave it undone, whatever else it asks for
pub not_by : (a_species b_species : ℕ) (reaction : Reaction) (a b : Place) (rest : Bool) → IsBeyond (reach_by a_species reaction) a b
    → (reacts_together a_species b_species reaction.reactants && (are_near reaction.radius a b && rest)) ≡ false
not_by a_species b_species reaction a b rest out =
    cases (list_any (λ (reactant : ℕ). reactant == a_species) reaction.reactants) (reacts_together a_species b_species reaction.reactants)
    (no_reactant a_species b_species reaction.reactants) out
  where
    together_not_near : (together near : Bool) → near ≡ false → (together && (near && rest)) ≡ false
    together_not_near true false is = refl
    together_not_near false false is = refl
    together_not_near together true is = absurd (cc)

    cases : (has together : Bool) → (has ≡ false → together ≡ false) → IsBeyond (if has then in_ticks reaction.radius else None) a b
        → (together && (are_near reaction.radius a b && rest)) ≡ false
    cases true together without out = together_not_near together (are_near reaction.radius a b) (not_near reaction.radius a b out)
    cases false together without out = ap (λ (here : Bool). here && (are_near reaction.radius a b && rest)) (without refl)

-- and so do places beyond the reach of the second species
together_turned : (a b : ℕ) (reactants : List ℕ) → reacts_together a b reactants ≡ reacts_together b a reactants
together_turned a b [] = refl
together_turned a b (one ∷ []) = refl
together_turned a b (one ∷ two ∷ []) = or_turned ((one == a) && (two == b)) ((one == b) && (two == a))
  where
    or_turned : (p q : Bool) → (p || q) ≡ (q || p)
    or_turned true true = refl
    or_turned true false = refl
    or_turned false true = refl
    or_turned false false = refl
together_turned a b (one ∷ two ∷ three ∷ more) = refl

pub not_by_second : (a_species b_species : ℕ) (reaction : Reaction) (a b : Place) (rest : Bool) → IsBeyond (reach_by b_species reaction) a b
    → (reacts_together a_species b_species reaction.reactants && (are_near reaction.radius a b && rest)) ≡ false
not_by_second a_species b_species reaction a b rest out =
    ap (λ (together : Bool). together && (are_near reaction.radius a b && rest)) (together_turned a_species b_species reaction.reactants)
    ∙ not_by b_species a_species reaction a b rest out

pub beyond_first : (species : ℕ) (reaction : Reaction) (reactions : List Reaction) (a b : Place) → IsBeyond (reach_of species (reaction ∷ reactions)) a b
    → IsBeyond (reach_by species reaction) a b × IsBeyond (reach_of species reactions) a b
beyond_first species reaction reactions a b out = beyond_each (reach_by species reaction) (reach_of species reactions) a b out

-- the table has an entry for each species
pub reach_count : (draft : Draft) → length (reaches_of draft) ≡ length draft.species
reach_count draft = length-map-range_with_len (λ (species : ℕ). reach_of species draft.reactions) 0 (length draft.species)

pub reach_at : (draft : Draft) (species : ℕ) (d : Option ℕ) → species < length draft.species
    → get_or (reaches_of draft) species d ≡ reach_of species draft.reactions
reach_at draft species d there =
    get_or-map-range_with_len (λ (species : ℕ). reach_of species draft.reactions) 0 (length draft.species) species species d there (omega arith)

-- where no species reaches others, this one doesn't
both_none : (one other : Option ℕ) → longer one other ≡ None → (one ≡ None) × (other ≡ None)
both_none None other none = (refl, none)
both_none (Some one) None none = absurd (cc)
both_none (Some one) (Some other) none = absurd (cc)

all_none : (reaches : List (Option ℕ)) (i : ℕ) → i < length reaches → longest_of reaches ≡ None → get_or reaches i None ≡ None
all_none [] i inside none = absurd (omega arith)
all_none (reach ∷ reaches) zero inside none = (both_none reach (longest_of reaches) none).0
all_none (reach ∷ reaches) (suc i) inside none = all_none reaches i (omega arith) (both_none reach (longest_of reaches) none).1

pub no_reach : (draft : Draft) (species : ℕ) → species < length draft.species → longest_of (reaches_of draft) ≡ None
    → reach_of species draft.reactions ≡ None
no_reach draft species there none =
    let inside : species < length (reaches_of draft) = omega (arith, reach_count draft, there) in
    sym (reach_at draft species None there) ∙ all_none (reaches_of draft) species inside none
