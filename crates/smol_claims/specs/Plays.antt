-- What each kind of step tells the seat that makes it: its view after the step, and what it can know from then on.
use Rattle.std.specs.Prelude.{ℕ, ◌≡◌, ◌<◌, ◌⊎◌, true, false, ◌==◌, length, Some, Option, None, if◌then◌else◌, Bool}
use Rattle.atomic_table.specs.Table.{Me, Step}
use Rattle.smol_plan.specs.declared.pair.Side.{Side}
use Rattle.smol_plan.specs.Matching.{fires}
use Rattle.smol_plan.specs.Links.{source_of}
use Rattle.smol_plan.specs.Machine.{slice_count}
use Rattle.smol_claims.specs.declared.view.Link.{Link}
use Rattle.smol_claims.specs.declared.view.View.{View}
use Rattle.smol_claims.specs.View.{has, free_pairs, view_taking, view_looking, view_deciding, view_telling}
use Rattle.smol_claims.specs.Layout.{slice_at, counter_at, decision_at}
use Rattle.smol_claims.specs.Code.{IsCodeOf}

-- what a seat knows, and the slots that it has taken, of which there are none here
abbrev pub SeatKnows : Type 0
SeatKnows = Me (Unit {0}) View

abbrev pub SeatStep : Type 0
SeatStep = Step (Unit {0})

-- the seat neither holds the pair nor has decided it
pub record IsNew (v : View) (j : ℕ) : Type 0 where
  pub held : has v.held j ≡ false
  pub mine : has v.mine j ≡ false

-- a take of the slice that found this word
pub record TakesSlice (v : View) (slice found : ℕ) (w : View) : Type 0 where
  pub view : w ≡ view_taking v slice (found == 0)
  -- the pairs that it holds now are new to it
  pub new : found ≡ 0 → (j : ℕ) → has (free_pairs v.pairs slice) j ≡ true → IsNew v j

-- the seat holds the pair, or has decided it
abbrev pub HoldsOrDecided : View → ℕ → Type 0
HoldsOrDecided v j = (has v.held j ≡ true) ⊎ (has v.mine j ≡ true)

-- the pair is the source of a link of a pair that the seat holds or has decided
pub record IsSourceFor (v : View) (j : ℕ) : Type 0 where
  pub pair : ℕ
  pub side : Side
  pub has_it : HoldsOrDecided v pair
  pub source : source_of v.pairs pair side ≡ Some j

-- the seat can know that the pair is decided
abbrev pub KnowsDecided : View → ℕ → Type 0
KnowsDecided v j = (has v.mine j ≡ true) ⊎ IsSourceFor v j

-- a look at the pair that found this word
pub record LooksAt (v : View) (j found : ℕ) (w : View) : Type 0 where
  pub view : w ≡ view_looking v j found
  pub code : IsCodeOf v.pairs j found
  pub known : KnowsDecided v j → found ≡ 0 → ⊥

-- a look at the pair that was answered so: by the word that it found, and never by nothing of a pair that the seat can
-- know to be decided
pub record Sees (v : View) (j : ℕ) (answer : Option Bool) (w : View) : Type 0 where
  pub word : ℕ
  pub view : w ≡ view_looking v j word
  pub answer_is : answer ≡ (if word == 0 then None else Some (fires v.pairs j))
  pub known : KnowsDecided v j → answer ≡ Some (fires v.pairs j)

-- a decision of the pair
pub record Decides (v : View) (j : ℕ) (w : View) : Type 0 where
  pub view : w ≡ view_deciding v j
  pub new : has v.mine j ≡ false

-- a tell of the link that found this counter
pub record TellsLink (v : View) (l : Link) (found : ℕ) (w : View) : Type 0 where
  pub view : w ≡ view_telling v l (found == 1)
  pub new : found ≡ 1 → IsNew v l.pair

-- what a step on a word of a slice tells
abbrev pub told_by_take : SeatStep → SeatKnows → ℕ → SeatKnows → Type 0
told_by_take move me found me' =
    (me'.1 ≡ me.1) × ((slice : ℕ) → slice < slice_count me.0.pairs → move.word ≡ slice_at slice → TakesSlice me.0 slice found me'.0)

-- what a load of a word of a pair's decision tells
abbrev pub told_by_look : SeatStep → SeatKnows → ℕ → SeatKnows → Type 0
told_by_look move me found me' =
    (me'.1 ≡ me.1) × ((j : ℕ) → j < length me.0.pairs → move.word ≡ decision_at me.0.pairs j → LooksAt me.0 j found me'.0)

-- what a step on a word of a pair's decision tells
abbrev pub told_by_decision : SeatStep → SeatKnows → ℕ → SeatKnows → Type 0
told_by_decision move me found me' =
    (me'.1 ≡ me.1) × ((j : ℕ) → j < length me.0.pairs → move.word ≡ decision_at me.0.pairs j → Decides me.0 j me'.0)

-- what a step on a counter tells, where it is for the link on this side
abbrev pub told_by_tell : Side → SeatStep → SeatKnows → ℕ → SeatKnows → Type 0
told_by_tell side move me found me' =
    (me'.1 ≡ me.1) × ((j : ℕ) → j < length me.0.pairs → move.word ≡ counter_at me.0.pairs j
    → TellsLink me.0 (record { pair = j; side = side }) found me'.0)
