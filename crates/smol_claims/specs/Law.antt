-- Each step of a seat is an event of the machine on the spelled state, or none.
use Rattle.std.specs.Prelude.{ℕ, ◌≡◌, ◌<◌, ◌-◌, true, ◌==◌, List, [], ◌∷◌, ◌++◌, length, slice_index, slice_set, MatchBool}
use mathlib.Core.Option as maybe
use lib.ListN.{get_elem?}
use Rattle.atomic_table.specs.Table.{keeps, stepped, opening}
use Rattle.smol_plan.specs.declared.pair.Pair.{Pair}
use Rattle.smol_plan.specs.declared.event.Event.{Event}
use Rattle.smol_plan.specs.declared.event.Event.TheVariants.{Take, Decide, Tell}
use Rattle.smol_plan.specs.Machine.{State, slice_count, first_state, effect, IsAllowed}
use Rattle.smol_claims.specs.declared.view.Link.{Link}
use Rattle.smol_claims.specs.declared.view.View.{View}
use Rattle.smol_claims.specs.View.{has, has_link, newcomer, spent, view_taking, view_looking, view_deciding, view_telling, view_splitting, view_of_new, view_joining}
use Rattle.smol_claims.specs.Layout.{slice_at, counter_at, decision_at}
use Rattle.smol_claims.specs.Code.{code_of, serial_decision}
use Rattle.smol_claims.specs.Spelled.{spelled}
use Rattle.smol_claims.specs.Rule.{WordsAndViews, KeepsRule}
use Rattle.smol_claims.specs.Fresh.{AreFresh}

-- the state that words and views spell
abbrev pub spelled_by : List Pair → WordsAndViews → State
spelled_by pairs s = spelled pairs s.words s.views

-- under the rule, a seat that is not spent has the view
pub record HasSeat (pairs : List Pair) (workers : ℕ) (s : WordsAndViews) (id : ℕ) (v : View) : Type 0 where
  pub rule : KeepsRule pairs workers s
  pub there : get_elem? s.views id ≡ maybe.some v
  pub share : 0 < v.share

-- what a word is
abbrev pub found_at : WordsAndViews → ℕ → ℕ
found_at s i = slice_index s.words i

-- the word i becomes n, and the view of the seat w
abbrev pub after : WordsAndViews → ℕ → ℕ → ℕ → View → WordsAndViews
after s i n id w = stepped s i n id [] w keeps

-- the rule is kept, and the step was the event, which was allowed
pub record MakesEvent (pairs : List Pair) (workers : ℕ) (s : WordsAndViews) (event : Event) (next : WordsAndViews) : Type 0 where
  pub rule : KeepsRule pairs workers next
  pub allowed : IsAllowed (spelled_by pairs s) event
  pub effect_is : spelled_by pairs next ≡ effect pairs (spelled_by pairs s) event

-- the rule is kept, and the same state is spelled
pub record MakesNoEvent (pairs : List Pair) (workers : ℕ) (s next : WordsAndViews) : Type 0 where
  pub rule : KeepsRule pairs workers next
  pub same : spelled_by pairs next ≡ spelled_by pairs s

-- a matching of which nothing has happened spells the first state
abbrev pub OpensFirst : Type 0
OpensFirst =
    (pairs : List Pair) (workers : ℕ) (words : List ℕ) → 0 < workers → AreFresh pairs words →
    KeepsRule pairs workers (opening words [] (newcomer pairs workers workers))
    × (spelled pairs words (newcomer pairs workers workers ∷ []) ≡ first_state)

-- a take is the machine's take where it found the slice untaken, and else none
abbrev pub TakeIsEvent : Type 0
TakeIsEvent =
    (pairs : List Pair) (workers : ℕ) (s : WordsAndViews) (id : ℕ) (v : View) (slice : ℕ) →
    HasSeat pairs workers s id v → slice < slice_count pairs →
    let is_new = found_at s (slice_at slice) == 0 in
    let next = after s (slice_at slice) 1 id (view_taking v slice is_new) in
    MatchBool is_new (MakesEvent pairs workers s (Take id slice) next) (MakesNoEvent pairs workers s next)

-- a look is none
abbrev pub LookIsNoEvent : Type 0
LookIsNoEvent =
    (pairs : List Pair) (workers : ℕ) (s : WordsAndViews) (id : ℕ) (v : View) (j : ℕ) →
    HasSeat pairs workers s id v → j < length pairs →
    let found = found_at s (decision_at pairs j) in
    MakesNoEvent pairs workers s (after s (decision_at pairs j) found id (view_looking v j found))

-- a decision is the machine's
abbrev pub DecideIsEvent : Type 0
DecideIsEvent =
    (pairs : List Pair) (workers : ℕ) (s : WordsAndViews) (id : ℕ) (v : View) (j : ℕ) →
    HasSeat pairs workers s id v → has v.held j ≡ true →
    MakesEvent pairs workers s (Decide id j) (after s (decision_at pairs j) (code_of (serial_decision pairs j)) id (view_deciding v j))

-- a tell is the machine's
abbrev pub TellIsEvent : Type 0
TellIsEvent =
    (pairs : List Pair) (workers : ℕ) (s : WordsAndViews) (id : ℕ) (v : View) (l : Link) →
    HasSeat pairs workers s id v → has_link v.owed l.pair l.side ≡ true →
    let found = found_at s (counter_at pairs l.pair) in
    MakesEvent pairs workers s (Tell id l.pair l.side) (after s (counter_at pairs l.pair) (found - 1) id (view_telling v l (found == 1)))

-- a split is none
abbrev pub SplitIsNoEvent : Type 0
SplitIsNoEvent =
    (pairs : List Pair) (workers : ℕ) (s : WordsAndViews) (id : ℕ) (v : View) →
    HasSeat pairs workers s id v → 1 < v.share →
    MakesNoEvent pairs workers s (record s { views = slice_set s.views id (view_splitting v) ++ view_of_new v ∷ [] })

-- a join is none
abbrev pub JoinIsNoEvent : Type 0
JoinIsNoEvent =
    (pairs : List Pair) (workers : ℕ) (s : WordsAndViews) (id : ℕ) (v : View) (other : ℕ) (w : View) →
    HasSeat pairs workers s id v → ¬ (other ≡ id) → get_elem? s.views other ≡ maybe.some w →
    w.held ≡ [] → w.owed ≡ [] →
    MakesNoEvent pairs workers s (record s { views = slice_set (slice_set s.views id (view_joining v w)) other spent })
