-- The state of the machine that words and views spell.
use Rattle.std.specs.Prelude.{ℕ, Bool, false, not, ◌&&◌, ◌==◌, nat_lt, List, length, slice_index, Option, Some, None}
use Rattle.std.specs.Option.{is_some}
use Rattle.smol_plan.specs.declared.pair.Pair.{Pair}
use Rattle.smol_plan.specs.declared.pair.Side.{Side}
use Rattle.smol_plan.specs.Links.{source_of, any_below}
use Rattle.smol_plan.specs.Machine.{State, slice_count}
use Rattle.smol_plan.specs.PairState.{fired_of}
use Rattle.smol_claims.specs.declared.view.View.{View}
use Rattle.smol_claims.specs.View.{has, has_link, view_at}
use Rattle.smol_claims.specs.Layout.{slice_at, decision_at}
use Rattle.smol_claims.specs.Code.{decision_in}

-- whether the words say that a slice is taken
abbrev pub is_taken_in : List Pair → List ℕ → ℕ → Bool
is_taken_in pairs words slice = nat_lt slice (slice_count pairs) && (slice_index words (slice_at slice) == 1)

-- whether the words say that a pair fired, where they say that it is decided
abbrev pub fired_in : List Pair → List ℕ → ℕ → Option Bool
fired_in pairs words j = fired_of (decision_in (slice_index words (decision_at pairs j)))

-- whether the words say that the source of a link is decided
abbrev pub is_decided_in : List Pair → List ℕ → Option ℕ → Bool
is_decided_in pairs words None = false
is_decided_in pairs words (Some i) = is_some (fired_in pairs words i)

-- whether some seat owes the link
abbrev pub is_owed : List View → ℕ → Side → Bool
is_owed views j side = any_below (λ w. has_link (view_at views w).owed j side) (length views)

-- the spelled state: each seat is a worker of the machine, and a link is told where its source is decided and no seat owes it
abbrev pub spelled : List Pair → List ℕ → List View → State
spelled pairs words views =
    record {
      taken = is_taken_in pairs words;
      decision = fired_in pairs words;
      told = λ j side. is_decided_in pairs words (source_of pairs j side) && not (is_owed views j side);
      holds = λ w j. has (view_at views w).held j;
      owes = λ w j side. has_link (view_at views w).owed j side;
    }
