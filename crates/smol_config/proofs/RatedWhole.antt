-- A file whose first-order reactions all have rates is refused for other faults alone.
use Rattle.std.proofs.Common.{◌≡◌, ◌≢◌, ℕ, Bool, true, false, List, ◌∷◌, length, All, Option, None, Some, Result, Ok, Err, IfErr, unsigned_abs}
use Rattle.std.specs.List.{list_all}
use Rattle.smol_types.specs.declared.fault.Kind.{Kind}
use Rattle.smol_types.specs.declared.fault.Kind.TheVariants.{Missing, OutOfRange, ProbabilitySum, TooMany}
use Rattle.smol_types.specs.declared.fault.Need.{Need}
use Rattle.smol_types.specs.declared.fault.Need.TheVariants.{Dim, Boundaries, TimeStop, TimeStep}
use Rattle.smol_types.specs.declared.draft.Draft.{Draft}
use Rattle.smol_line.specs.declared.axes.Axes.{Axes}
use Rattle.smol_line.specs.Axes.{is_walled}
use Rattle.smol_line.specs.Checks.{unless, passing, with_value, there}
use Rattle.smol_line.specs.Fault.{Fault, at_line}
use Rattle.smol_blocks.specs.Blocks.{block_of, opening_line}
use Rattle.smol_reactions.specs.Content.{chances_of, reactions_of}
use Rattle.smol_reactions.specs.Rates.{HasRate}
use Rattle.smol_reactions.proofs.RatedAlone.{rates_enough, rates_leave_all}
use Rattle.smol_config.specs.declared.times.Times.{Times}
use Rattle.smol_config.specs.Said.{Said}
use Rattle.smol_config.specs.Axes.{axes_of}
use Rattle.smol_config.specs.Times.{times_of}
use Rattle.smol_config.specs.Reactions.{reactions_said}
use Rattle.smol_config.specs.Blocks.{blocks_said}
use Rattle.smol_config.specs.Content.{content_of}
use Rattle.smol_config.specs.Whole.{behind_blocks, bounded, closed_in, has_chances, has_difstep, has_few_steps, has_room, has_words, needed_from, needed_in, whole_in}

-- another fault than that probabilities exceed 1
abbrev pub IsOther : Kind → Type 0
IsOther kind = kind ≢ ProbabilitySum

abbrev pub IsOtherFault : Fault → Type 0
IsOtherFault fault = IsOther fault.kind

-- where each test that may fail tells another fault, the outcome does
test_other : {T : Type 0} → (b : Bool) (kind : Kind) (tests : List (Option Kind)) (value : Result T Kind) → IsOther kind → IfErr (passing tests value) IsOther → IfErr (passing (unless b kind ∷ tests) value) IsOther
test_other true kind tests value other rest = rest
test_other false kind tests value other rest = other

test_holds : {T : Type 0} → (b : Bool) (kind : Kind) (tests : List (Option Kind)) (value : Result T Kind) → b ≡ true → IfErr (passing tests value) IsOther → IfErr (passing (unless b kind ∷ tests) value) IsOther
test_holds true kind tests value holds rest = rest
test_holds false kind tests value holds rest = absurd (let no : false ≡ true = holds in cc)

there_other : {T U : Type 0} → (given : Option T) (kind : Kind) (next : T → Result U Kind) → IsOther kind → ((value : T) → IfErr (next value) IsOther) → IfErr (with_value (there given kind) next) IsOther
there_other None kind next other more = other
there_other (Some value) kind next other more = more value

missing_other : (need : Need) → IsOther (Missing need)
missing_other need same = absurd cc

-- what a file can't do without
needed_other : (axes : Axes) (times : Times) → IfErr (needed_from axes times) IsOther
unfolding needed_from
needed_other axes times =
    there_other axes.dims (Missing Dim) _ (missing_other Dim)
    (λ dims.
    test_other (is_walled dims 0 axes.x) (Missing (Boundaries 0)) _ _ (missing_other (Boundaries 0))
    (test_other (is_walled dims 1 axes.y) (Missing (Boundaries 1)) _ _ (missing_other (Boundaries 1))
    (test_other (is_walled dims 2 axes.z) (Missing (Boundaries 2)) _ _ (missing_other (Boundaries 2))
    (there_other times.stop (Missing TimeStop) _ (missing_other TimeStop)
    (λ stop.
    there_other times.step (Missing TimeStep) _ (missing_other TimeStep) (λ step. tt))))))

-- what is too much
bounded_other : (chances : List (Option ℕ)) (draft : Draft) → has_chances chances draft ≡ true → has_words draft ≡ true → IfErr (bounded chances draft) IsOther
unfolding bounded
bounded_other chances draft shared enough =
    test_other (has_few_steps draft) TooMany _ _ (λ same. absurd cc)
    (test_other (list_all has_difstep draft.species) OutOfRange _ _ (λ same. absurd cc)
    (test_holds (has_chances chances draft) ProbabilitySum _ _ shared
    (test_holds (has_words draft) ProbabilitySum _ _ enough
    (test_other (has_room draft) TooMany _ _ (λ same. absurd cc) tt))))

with_other : {T U : Type 0} → (found : Result T Kind) (next : T → Result U Kind) → IfErr found IsOther → ((value : T) → IfErr (next value) IsOther) → IfErr (with_value found next) IsOther
with_other (Ok value) next other more = more value
with_other (Err kind) next other more = other

at_line_other : {T : Type 0} → (line : ℕ) (found : Result T Kind) → IfErr found IsOther → IfErr (at_line line found) IsOtherFault
at_line_other line (Ok value) other = tt
at_line_other line (Err kind) other = other

closed_other : (before : List Said) → All HasRate (reactions_of (reactions_said before)) → IfErr (closed_in before) IsOtherFault
unfolding closed_in content_of
closed_other before rated =
    at_line_other 0 _
    (with_other (needed_in before) _ (needed_other (axes_of before) (times_of before))
    (λ needed.
    bounded_other (chances_of (reactions_said before)) (content_of needed before)
    (rates_leave_all (length (content_of needed before).species) (unsigned_abs needed.step) (reactions_said before) rated)
    (rates_enough (length (content_of needed before).species) (unsigned_abs needed.step) (reactions_of (reactions_said before)) rated)))

behind_other : (opening : Option ℕ) (found : Result Draft Fault) → IfErr found IsOtherFault → IfErr (behind_blocks opening found) IsOtherFault
behind_other None found other = other
behind_other (Some line) found other = λ same. absurd cc

pub rated_accepted : (before : List Said) → All HasRate (reactions_of (reactions_said before)) → IfErr (whole_in before) IsOtherFault
unfolding whole_in
rated_accepted before rated = behind_other (opening_line (block_of (blocks_said before))) (closed_in before) (closed_other before rated)
