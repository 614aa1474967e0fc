-- Each step on a sound board leaves a sound board, in the state that its event leaves.
use Rattle.std.proofs.Common.{◌≡◌, ℕ, ◌<◌, ◌≤◌, ◌++◌, Bool, true, false, List, length, get_or, set, take, drop, replicate, length-set, Some, None, refl, sym, ◌∙◌, ap, ⊎_elim, arith}
use Rattle.std.proofs.lemmas.Bool.{cases_lt}
use Rattle.std.proofs.lemmas.List.{get_or_read, get_or_past, get_or-replicate, length-replicate}
use Rattle.smol_plan.specs.declared.pair.Pair.{Pair}
use Rattle.smol_plan.specs.declared.pair.Side.{Side}
use Rattle.smol_plan.specs.declared.pair.Side.TheVariants.{Low, High}
use Rattle.smol_plan.specs.declared.event.Event.{Event}
use Rattle.smol_plan.specs.declared.event.Event.TheVariants.{Take, Decide, Tell}
use Rattle.smol_plan.specs.declared.decision.Decision.{Decision}
use Rattle.smol_plan.specs.declared.pair_state.PairState.{PairState}
use Rattle.smol_plan.specs.Matching.{fires}
use Rattle.smol_plan.specs.Pair.{IsOrdered}
use Rattle.smol_plan.specs.Links.{is_number}
use Rattle.smol_plan.specs.Machine.{State, first_state, slice_count, IsEnabled, effect}
use Rattle.smol_plan.specs.PairState.{fresh, told_of, ower_of, fired_of}
use Rattle.smol_plan.specs.Good.{Good}
use Rattle.smol_plan.specs.Law.{OfWorkers}
use Rattle.smol_plan.specs.Board.{Board, IsWellKept, state_of, state_from, standing_at, after_slice, after_owing, after_telling}
use Rattle.smol_plan.specs.Decision.{TellsTaken}
use Rattle.smol_plan.proofs.GoodKept.{Good-effect, Good-first}
use Rattle.smol_plan.proofs.ProgressLemmas.{OfWorkers-first, OfWorkers-effect}
use Rattle.smol_plan.proofs.PlanLemmas.{written_back}
use Rattle.smol_plan.proofs.PairStateLemmas.{after_both, take_is, take_decisions, decide_is, decide_decisions, tell_is, tell_decisions}
use Rattle.smol_plan.proofs.StateLemmas.{State-same}

-- the new board is sound, and in the state that the event leaves
pub record IsStep (old new : Board) (event : Event) : Type 0 where
  pub sound : IsWellKept new
  pub effect_is : state_of new ≡ effect old.pairs (state_of old) event

abbrev pub with_parts : Board → List Bool → List PairState → Board
with_parts board slices standings =
    record { pairs = board.pairs; workers = board.workers; slices = slices; standings = standings }

-- a step that has the effect of an enabled event
IsStep-from_effect : (board : Board) (slices : List Bool) (standings : List PairState) (event : Event) → IsWellKept board → IsEnabled board.pairs board.workers (state_of board) event → length slices ≡ length board.slices → length standings ≡ length board.standings → state_of (with_parts board slices standings) ≡ effect board.pairs (state_of board) event → ((j : ℕ) (d : Decision) → (standing_at standings j).decision ≡ Some d → TellsTaken board.pairs j d) → IsStep board (with_parts board slices standings) event
IsStep-from_effect board slices standings event h enabled as_many_slices as_many is tells =
    record {
      sound = record {
        ordered = h.ordered;
        one_each = as_many ∙ h.one_each;
        all_slices = as_many_slices ∙ h.all_slices;
        good = good;
        of_workers = of_workers;
        tells_taken = tells;
      };
      effect_is = is;
    }
  where
    good : Good board.pairs (state_of (with_parts board slices standings))
    good = rw is (Good-effect board.pairs (state_of board) event enabled.allowed h.good)

    of_workers : OfWorkers board.workers (state_of (with_parts board slices standings))
    of_workers =
        rw is (OfWorkers-effect board.pairs board.workers (state_of board) event enabled h.of_workers)

-- a slice is taken
pub IsStep-take : (board : Board) (next : List PairState) (worker slice : ℕ) → IsWellKept board → IsEnabled board.pairs board.workers (state_of board) (Take worker slice) → length next ≡ length board.standings → ((j : ℕ) → j < length board.pairs → standing_at next j ≡ after_slice board.pairs worker slice j (standing_at board.standings j)) → IsStep board (with_parts board (set board.slices slice true) next) (Take worker slice)
IsStep-take board next worker slice h enabled as_many given =
    let inside : slice < length board.slices = omega (arith, enabled.in_range.1, h.all_slices) in
    IsStep-from_effect board (set board.slices slice true) next (Take worker slice) h enabled (length-set board.slices slice true) as_many (take_is board.pairs board.slices board.standings next worker slice h.one_each as_many inside enabled.allowed h.good given) (λ j d e. h.tells_taken j d (sym (take_decisions board.pairs board.slices board.standings next worker slice h.one_each as_many inside enabled.allowed h.good given j) ∙ e))

-- a pair is decided
pub IsStep-decide : (board : Board) (next : List PairState) (worker pair : ℕ) (d : Decision) → IsWellKept board → IsEnabled board.pairs board.workers (state_of board) (Decide worker pair) → length next ≡ length board.standings → d.fired ≡ fires board.pairs pair → TellsTaken board.pairs pair d → ((j : ℕ) → j < length board.pairs → standing_at next j ≡ after_both board.pairs pair worker j (standing_at (set board.standings pair (record (standing_at board.standings pair) { decision = Some d; holder = None })) j)) → IsStep board (with_parts board board.slices next) (Decide worker pair)
IsStep-decide board next worker pair d h enabled as_many fired tells given =
    IsStep-from_effect board board.slices next (Decide worker pair) h enabled refl as_many (decide_is board.pairs board.slices board.standings next worker pair d h.one_each as_many h.good enabled.allowed fired given) all_tell
  where
    all_tell : (j : ℕ) (x : Decision) → (standing_at next j).decision ≡ Some x → TellsTaken board.pairs j x
    all_tell j x e = ⊎_elim
        (λ (this : (j ≡ pair) × (x ≡ d)). rw (this.0, this.1) tells)
        (λ was. h.tells_taken j x was)
        (decide_decisions board.pairs board.slices board.standings next worker pair d h.one_each as_many h.good enabled.allowed fired given j x e)

-- a link is told
pub IsStep-tell : (board : Board) (worker pair : ℕ) (side : Side) → IsWellKept board → IsEnabled board.pairs board.workers (state_of board) (Tell worker pair side) → IsStep board (with_parts board board.slices (set board.standings pair (after_telling board.pairs pair side worker (standing_at board.standings pair)))) (Tell worker pair side)
IsStep-tell board worker pair side h enabled =
    IsStep-from_effect board board.slices (set board.standings pair (after_telling board.pairs pair side worker (standing_at board.standings pair))) (Tell worker pair side) h enabled refl (length-set board.standings pair (after_telling board.pairs pair side worker (standing_at board.standings pair))) (tell_is board.pairs board.slices board.standings worker pair side h.one_each h.good enabled.allowed) (λ j d e. h.tells_taken j d (sym (tell_decisions board.pairs board.slices board.standings worker pair side h.one_each h.good enabled.allowed j) ∙ e))

-- a pair is decided, as it is written: first its standing, then what it makes owed by the one molecule and by the other
pub IsStep-decide_written : (board : Board) (worker pair len : ℕ) (d : Decision) (old : PairState) (first low second high : List PairState) → IsWellKept board → IsEnabled board.pairs board.workers (state_of board) (Decide worker pair) → len ≡ length board.standings → old ≡ get_or board.standings pair old → d.fired ≡ fires board.pairs pair → TellsTaken board.pairs pair d → first ≡ set board.standings pair (record old { decision = Some d; holder = None }) → length low ≡ length first → ((j : ℕ) → j < length board.pairs → standing_at low j ≡ after_owing board.pairs pair Low worker j (standing_at first j)) → second ≡ take len (low ++ drop (length low) (set board.standings pair (record old { decision = Some d; holder = None }))) → length high ≡ length second → ((j : ℕ) → j < length board.pairs → standing_at high j ≡ after_owing board.pairs pair High worker j (standing_at second j)) → IsStep board (with_parts board board.slices (take len (high ++ drop (length high) (take len (low ++ drop (length low) (set board.standings pair (record old { decision = Some d; holder = None }))))))) (Decide worker pair)
IsStep-decide_written board worker pair len d old first low second high h enabled is_len at fired tells first_is low_len low_given second_is high_len high_given =
    rw whole_high (IsStep-decide board high worker pair d h enabled as_many fired tells given)
  where
    written : List PairState
    written = set board.standings pair (record old { decision = Some d; holder = None })

    written_len : length written ≡ length board.standings
    written_len =
        length-set board.standings pair (record old { decision = Some d; holder = None })

    inside : pair < length board.standings
    inside = omega (arith, enabled.in_range.1, h.one_each)

    same : written ≡ set board.standings pair (record (standing_at board.standings pair) { decision = Some d; holder = None })
    same =
        ap (λ (s : PairState). set board.standings pair (record s { decision = Some d; holder = None })) (get_or_read board.standings pair old inside at fresh)

    low_as_many : length low ≡ length written
    low_as_many = low_len ∙ ap length first_is

    whole_low : take len (low ++ drop (length low) written) ≡ low
    whole_low = written_back low written len low_as_many (omega (arith, is_len, written_len))

    second_low : second ≡ low
    second_low = second_is ∙ whole_low

    high_as_many : length high ≡ length (take len (low ++ drop (length low) written))
    high_as_many = high_len ∙ ap length second_is

    whole_high : take len (high ++ drop (length high) (take len (low ++ drop (length low) written))) ≡ high
    whole_high =
        written_back high (take len (low ++ drop (length low) written)) len high_as_many (omega (arith, is_len, written_len, low_as_many, ap length whole_low))

    as_many : length high ≡ length board.standings
    as_many = omega (arith, high_as_many, ap length whole_low, low_as_many, written_len)

    given : (j : ℕ) → j < length board.pairs → standing_at high j ≡ after_both board.pairs pair worker j (standing_at (set board.standings pair (record (standing_at board.standings pair) { decision = Some d; holder = None })) j)
    given j l =
        high_given j l ∙ ap (λ xs. after_owing board.pairs pair High worker j (standing_at xs j)) second_low ∙ ap (after_owing board.pairs pair High worker j) (low_given j l ∙ ap (λ xs. after_owing board.pairs pair Low worker j (standing_at xs j)) (first_is ∙ same))

-- the machine of which nothing has happened
pub first_is : (slices pairs : ℕ) → state_from (replicate slices false) (replicate pairs fresh) ≡ first_state
first_is slices pairs =
    State-same _ _ (λ k. nothing_taken k) (λ k. ap (λ (s : PairState). fired_of s.decision) (nothing_stands k)) (λ k side. ap (λ s. told_of s side) (nothing_stands k) ∙ untold side) (λ w k. ap (λ (s : PairState). is_number w s.holder) (nothing_stands k)) (λ w k side. ap (λ s. is_number w (ower_of s side)) (nothing_stands k) ∙ unowed w side)
  where
    anywhere : {X : Type 0} (n k : ℕ) (x : X) → get_or (replicate n x) k x ≡ x
    anywhere n k x = ⊎_elim
        (λ (l : k < n). get_or-replicate n k x x l)
        (λ (l : n ≤ k). get_or_past (replicate n x) k x (omega (arith, length-replicate n x)))
        (cases_lt k n)

    nothing_taken : (k : ℕ) → get_or (replicate slices false) k false ≡ false
    nothing_taken k = anywhere slices k false

    nothing_stands : (k : ℕ) → standing_at (replicate pairs fresh) k ≡ fresh
    nothing_stands k = anywhere pairs k fresh

    untold : (side : Side) → told_of fresh side ≡ false
    untold Low = refl
    untold High = refl

    unowed : (w : ℕ) (side : Side) → is_number w (ower_of fresh side) ≡ false
    unowed w Low = refl
    unowed w High = refl

pub IsWellKept-first : (pairs : List Pair) (workers : ℕ) → IsOrdered pairs → IsWellKept record { pairs = pairs; workers = workers; slices = replicate (slice_count pairs) false; standings = replicate (length pairs) fresh }
IsWellKept-first pairs workers ordered =
    record {
      ordered = ordered;
      one_each = length-replicate (length pairs) fresh;
      all_slices = length-replicate (slice_count pairs) false;
      good = rw (first_is (slice_count pairs) (length pairs)) (Good-first pairs);
      of_workers = rw (first_is (slice_count pairs) (length pairs)) (OfWorkers-first workers);
      tells_taken = λ j d e. undecided j d e;
    }
  where
    undecided : (j : ℕ) (d : Decision) → (standing_at (replicate (length pairs) fresh) j).decision ≡ Some d → TellsTaken pairs j d
    undecided j d e =
        let none : fired_of (standing_at (replicate (length pairs) fresh) j).decision ≡ None = ap (λ (s : State). s.decision j) (first_is (slice_count pairs) (length pairs)) in
        let wrong : Some d.fired ≡ None = sym (ap fired_of e) ∙ none in
        cc
