-- What a good state tells of its links and pairs.
use Rattle.std.proofs.Common.{◌≡◌, ℕ, zero, suc, ◌+◌, ◌<◌, Bool, true, false, not, ◌&&◌, ◌==◌, List, length, Option, Some, None, ◌⊎◌, refl, sym, ◌∙◌, ap, inl, inr, ⊎_elim, arith, if◌then◌else◌}
use Rattle.std.specs.Option.{is_some}
use Rattle.std.proofs.lemmas.Bool.{cases_order, or_cases, both_ways, eqb-true, false≢true}
use Rattle.smol_plan.specs.declared.pair.Pair.{Pair}
use Rattle.smol_plan.specs.declared.pair.Side.{Side}
use Rattle.smol_plan.specs.declared.pair.Side.TheVariants.{Low, High}
use Rattle.smol_plan.specs.Pair.{molecule_at, pair_at, shares_molecule}
use Rattle.smol_plan.specs.Matching.{fires}
use Rattle.smol_plan.specs.Links.{has_at, source_of, is_link, IsLastBefore}
use Rattle.smol_plan.specs.Machine.{State, is_decided, is_fired, is_untold, left_of, is_beaten}
use Rattle.smol_plan.specs.Good.{Good, HasDecidedSource, IsOwed, IsSettled}
use Rattle.smol_plan.proofs.BelowLemmas.{any_below_same}
use Rattle.smol_plan.proofs.LinkLemmas.{SourceIs, no_source, a_source, source_cases}
use Rattle.smol_plan.proofs.MatchingLemmas.{fires_at}

-- a link has a decided source, or it has not
pub decided_source_cases : (pairs : List Pair) (state : State) (j : ℕ) (side : Side) → HasDecidedSource pairs state j side ⊎ ¬ HasDecidedSource pairs state j side
decided_source_cases pairs state j side = go (source_of pairs j side) refl
  where
    at_source : (i : ℕ) → source_of pairs j side ≡ Some i → (b : Bool) → is_decided state i ≡ b → HasDecidedSource pairs state j side ⊎ ¬ HasDecidedSource pairs state j side
    at_source i e true d = inl record { source = i; is = e; decided = d }
    at_source i e false d = inr (λ h. let both : Some h.source ≡ Some i = sym h.is ∙ e in let same : h.source ≡ i = cc in both_ways (is_decided state i) d (rw same at h.decided))

    go : (o : Option ℕ) → source_of pairs j side ≡ o → HasDecidedSource pairs state j side ⊎ ¬ HasDecidedSource pairs state j side
    go None e = inr (λ h. let both : Some h.source ≡ None = sym h.is ∙ e in cc)
    go (Some i) e = at_source i e (is_decided state i) refl

-- all links of the pair are told
abbrev pub AllTold : List Pair → State → ℕ → Type 0
AllTold pairs state j = (side : Side) → is_link pairs j side ≡ true → state.told j side ≡ true

both_none : (u v : Bool) → (if u then 1 else 0) + (if v then 1 else 0) ≡ 0 → (u ≡ false) × (v ≡ false)
both_none true true e = absurd (omega arith)
both_none true false e = absurd (omega arith)
both_none false true e = absurd (omega arith)
both_none false false e = (refl, refl)

told_since : (a b : Bool) → (a && not b) ≡ false → a ≡ true → b ≡ true
told_since true true e h = refl
told_since true false e h = absurd (false≢true (sym e))
told_since false b e h = absurd (false≢true h)

untold_since : (a b : Bool) → (a ≡ true → b ≡ true) → (a && not b) ≡ false
untold_since true true h = refl
untold_since true false h = absurd (false≢true (h refl))
untold_since false b h = refl

-- a counter is 0 exactly where all links are told
pub AllTold-from_left : (pairs : List Pair) (state : State) (j : ℕ) → left_of pairs state j ≡ 0 → AllTold pairs state j
AllTold-from_left pairs state j e Low =
    told_since _ _ (both_none (is_untold pairs state j Low) (is_untold pairs state j High) e).0
AllTold-from_left pairs state j e High =
    told_since _ _ (both_none (is_untold pairs state j Low) (is_untold pairs state j High) e).1

pub left_of-zero : (pairs : List Pair) (state : State) (j : ℕ) → AllTold pairs state j → left_of pairs state j ≡ 0
left_of-zero pairs state j h = rw (untold_since _ _ (h Low), untold_since _ _ (h High)) refl

-- a told link has a decided source
pub told_source : (pairs : List Pair) (state : State) → Good pairs state → (j : ℕ) (side : Side) → state.told j side ≡ true → HasDecidedSource pairs state j side
told_source pairs state g j side e = ⊎_elim
    (λ h. h)
    (λ (h : ¬ HasDecidedSource pairs state j side). absurd (both_ways _ (g.quiet j side h).untold e))
    (decided_source_cases pairs state j side)

-- an owed link has a decided source too, and is owed by one worker
pub owed_source : (pairs : List Pair) (state : State) → Good pairs state → (w j : ℕ) (side : Side) → state.owes w j side ≡ true → HasDecidedSource pairs state j side
owed_source pairs state g w j side e = ⊎_elim
    (λ h. h)
    (λ (h : ¬ HasDecidedSource pairs state j side). absurd (both_ways _ ((g.quiet j side h).nobody w) e))
    (decided_source_cases pairs state j side)

pub owed_once : (pairs : List Pair) (state : State) → Good pairs state → (w j : ℕ) (side : Side) → state.owes w j side ≡ true → IsOwed state j side
owed_once pairs state g w j side e = ⊎_elim
    (λ (h : IsSettled state j side). absurd (both_ways _ (h.nobody w) e))
    (λ h. h)
    (g.linked j side (owed_source pairs state g w j side e))

some_value : (o : Option Bool) → is_some o ≡ true → (b : Bool) × (o ≡ Some b)
some_value None e = absurd (false≢true e)
some_value (Some b) e = (b, refl)

-- a decided pair has the value of serial matching
pub decided_value : (pairs : List Pair) (state : State) → Good pairs state → (i : ℕ) → is_decided state i ≡ true → state.decision i ≡ Some (fires pairs i)
decided_value pairs state g i e =
    let d = some_value (state.decision i) e in
    d.1 ∙ ap Some (g.decided i d.0 d.1).value

pub decided_told : (pairs : List Pair) (state : State) → Good pairs state → (i : ℕ) → is_decided state i ≡ true → AllTold pairs state i
decided_told pairs state g i e =
    let d = some_value (state.decision i) e in
    AllTold-from_left pairs state i (g.decided i d.0 d.1).all_told

pub decided_inside : (pairs : List Pair) (state : State) → Good pairs state → (i : ℕ) → is_decided state i ≡ true → i < length pairs
decided_inside pairs state g i e =
    let d = some_value (state.decision i) e in
    (g.decided i d.0 d.1).in_list

-- a pair has a molecule on one of its sides
pub on_a_side : (pairs : List Pair) (m k : ℕ) → has_at pairs m k ≡ true → (side : Side) × (molecule_at pairs k side ≡ m)
on_a_side pairs m k e = ⊎_elim
    (λ (h : ((pair_at pairs k).a == m) ≡ true). (Low, eqb-true _ _ h))
    (λ (h : ((pair_at pairs k).b == m) ≡ true). (High, eqb-true _ _ h))
    (or_cases _ _ e)

-- each earlier pair that has a molecule of this one is decided
abbrev pub EarlierDecided : List Pair → State → ℕ → Type 0
EarlierDecided pairs state j =
    (side : Side) (i : ℕ) → i < j → has_at pairs (molecule_at pairs j side) i ≡ true → is_decided state i ≡ true

EarlierDecided-step : (pairs : List Pair) (state : State) → Good pairs state → (j : ℕ) → j < length pairs → AllTold pairs state j → ((k : ℕ) → k < j → k < length pairs → AllTold pairs state k → EarlierDecided pairs state k) → EarlierDecided pairs state j
EarlierDecided-step pairs state g j l t before side i h e = go (source_cases pairs j side l)
  where
    further : (k : ℕ) → IsLastBefore pairs (molecule_at pairs j side) j k → is_decided state k ≡ true → i < k → is_decided state i ≡ true
    further k last d lt =
        let at = on_a_side pairs _ k last.has in
        before k last.earlier (decided_inside pairs state g k d) (decided_told pairs state g k d) at.0 i lt (rw at.1 e)

    go : SourceIs pairs j side → is_decided state i ≡ true
    go (no_source n none) = absurd (both_ways _ (none i h) e)
    go (a_source k s last) =
        let src = told_source pairs state g j side (t side (rw s refl)) in
        let both : Some src.source ≡ Some k = sym src.is ∙ s in
        let same : src.source ≡ k = cc in
        let d : is_decided state k ≡ true = rw same at src.decided in
        ⊎_elim
        (λ (q : i ≡ k). rw q d)
        (λ q. ⊎_elim (further k last d) (λ (r : k < i). absurd (both_ways _ (last.none_between i r h) e)) q)
        (cases_order i k)

EarlierDecided-below : (pairs : List Pair) (state : State) → Good pairs state → (bound j : ℕ) → j < bound → j < length pairs → AllTold pairs state j → EarlierDecided pairs state j
EarlierDecided-below pairs state g zero j b l t = absurd (omega arith)
EarlierDecided-below pairs state g (suc bound) j b l t =
    EarlierDecided-step pairs state g j l t (λ k kj. EarlierDecided-below pairs state g bound k (omega arith))

-- where all links of a pair are told, each earlier pair on its molecules is decided
pub EarlierDecided-from_told : (pairs : List Pair) (state : State) → Good pairs state → (j : ℕ) → j < length pairs → AllTold pairs state j → EarlierDecided pairs state j
EarlierDecided-from_told pairs state g j = EarlierDecided-below pairs state g (suc j) j (omega arith)

and_same : (b x y : Bool) → (b ≡ true → x ≡ y) → (b && x) ≡ (b && y)
and_same true x y h = h refl
and_same false x y h = refl

-- where all links of a pair are told, it is beaten exactly where serial matching refuses it
pub is_beaten-fires : (pairs : List Pair) (state : State) → Good pairs state → (j : ℕ) → j < length pairs → AllTold pairs state j → not (is_beaten pairs state j) ≡ fires pairs j
is_beaten-fires pairs state g j l t =
    ap not (any_below_same _ _ j (λ i h. and_same _ _ _ (value i h))) ∙ sym (fires_at pairs j l)
  where
    decided : (i : ℕ) → i < j → shares_molecule (pair_at pairs i) (pair_at pairs j) ≡ true → is_decided state i ≡ true
    decided i h e = ⊎_elim
        (EarlierDecided-from_told pairs state g j l t Low i h)
        (EarlierDecided-from_told pairs state g j l t High i h)
        (or_cases _ _ e)

    value : (i : ℕ) → i < j → shares_molecule (pair_at pairs i) (pair_at pairs j) ≡ true → is_fired state i ≡ fires pairs i
    value i h e = rw (decided_value pairs state g i (decided i h e)) refl
