-- How the machine is kept, and the state that it is in.
use Rattle.std.specs.Prelude.{ℕ, ◌≡◌, ◌+◌, Bool, false, not, ◌&&◌, ◌==◌, if◌then◌else◌, List, length, slice_index_or, Some, None}
use Rattle.smol_plan.specs.declared.pair.Pair.{Pair}
use Rattle.smol_plan.specs.declared.pair.Side.{Side}
use Rattle.smol_plan.specs.declared.pair.Side.TheVariants.{Low, High}
use Rattle.smol_plan.specs.declared.decision.Decision.{Decision}
use Rattle.smol_plan.specs.declared.pair_state.PairState.{PairState}
use Rattle.smol_plan.specs.Pair.{IsOrdered}
use Rattle.smol_plan.specs.Links.{source_of, is_link, is_number, comes_by}
use Rattle.smol_plan.specs.Machine.{State, slice_of, slice_count, has_no_link}
use Rattle.smol_plan.specs.Good.{Good}
use Rattle.smol_plan.specs.Law.{OfWorkers}
use Rattle.smol_plan.specs.Decision.{TellsTaken}
use Rattle.smol_plan.specs.PairState.{fresh, told_of, ower_of, set_told, set_ower, fired_of}

-- the pairs, how many workers there are, which slices are taken, and how it stands with each pair
pub record Board : Type 0 where
  pub pairs : List Pair
  pub workers : ℕ
  pub slices : List Bool
  pub standings : List PairState

-- how it stands with the pair at a place
abbrev pub standing_at : List PairState → ℕ → PairState
standing_at standings j = slice_index_or standings j fresh

-- the state that is kept
abbrev pub state_from : List Bool → List PairState → State
state_from slices standings =
    record {
      taken = λ s. slice_index_or slices s false;
      decision = λ j. fired_of (standing_at standings j).decision;
      told = λ j side. told_of (standing_at standings j) side;
      holds = λ w j. is_number w (standing_at standings j).holder;
      owes = λ w j side. is_number w (ower_of (standing_at standings j) side);
    }

-- the state of the machine
abbrev pub state_of : Board → State
state_of board = state_from board.slices board.standings

-- the machine is kept as it should be, and its state is good
pub record IsWellKept (board : Board) : Type 0 where
  pub ordered : IsOrdered board.pairs
  pub one_each : length board.standings ≡ length board.pairs
  pub all_slices : length board.slices ≡ slice_count board.pairs
  pub good : Good board.pairs (state_of board)
  pub of_workers : OfWorkers board.workers (state_of board)
  pub tells_taken : (j : ℕ) (d : Decision) → (standing_at board.standings j).decision ≡ Some d → TellsTaken board.pairs j d

-- the standing of the pair j after a worker takes the slice: it gets the pair where that is of the slice and has no link
abbrev pub after_slice : List Pair → ℕ → ℕ → ℕ → PairState → PairState
after_slice pairs worker slice j s =
    if (slice_of j == slice) && has_no_link pairs j then record s { holder = Some worker } else s

-- the standing of the pair k after the worker owes the link that comes from the pair j by this molecule
abbrev pub after_owing : List Pair → ℕ → Side → ℕ → ℕ → PairState → PairState
after_owing pairs j side worker k s =
    let low = if comes_by pairs j side k Low then set_ower s Low (Some worker) else s in
    if comes_by pairs j side k High then set_ower low High (Some worker) else low

-- how many links of a pair are not told
abbrev pub untold_count : List Pair → ℕ → PairState → ℕ
untold_count pairs j s =
    (if is_link pairs j Low && not (told_of s Low) then 1 else 0) + (if is_link pairs j High && not (told_of s High) then 1 else 0)

-- the standing of a pair after the worker tells its link on a side: the last link told gives it the pair
abbrev pub after_telling : List Pair → ℕ → Side → ℕ → PairState → PairState
after_telling pairs j side worker s =
    let t = set_ower (set_told s side) side None in
    if untold_count pairs j t == 0 then record t { holder = Some worker } else t

-- the source of a link is decided, and tells which of its molecules are taken
pub record SourceTells (pairs : List Pair) (standings : List PairState) (i : ℕ) : Type 0 where
  pub decision : Decision
  pub is : (standing_at standings i).decision ≡ Some decision
  pub tells : TellsTaken pairs i decision

abbrev pub SourcesTell : List Pair → List PairState → ℕ → Type 0
SourcesTell pairs standings j =
    (side : Side) (i : ℕ) → source_of pairs j side ≡ Some i → SourceTells pairs standings i
