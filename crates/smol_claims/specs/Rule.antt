-- What holds of the words and views of a matching between any two steps.
use Rattle.std.specs.Prelude.{ℕ, ◌≡◌, ◌<◌, ◌≤◌, true, List, [], length, slice_index, sum_by, Some}
use Rattle.std.specs.Option.{is_some}
use mathlib.Core.Option as maybe
use lib.ListN.{get_elem?}
use Rattle.atomic_table.specs.Table as table
use Rattle.smol_plan.specs.declared.pair.Pair.{Pair}
use Rattle.smol_plan.specs.Machine.{slice_count, left_of}
use Rattle.smol_plan.specs.Good.{Good}
use Rattle.smol_claims.specs.declared.view.Look.{Look}
use Rattle.smol_claims.specs.declared.view.View.{View}
use Rattle.smol_claims.specs.View.{has, view_at}
use Rattle.smol_claims.specs.Layout.{slice_at, counter_at, decision_at, claim_word_count}
use Rattle.smol_claims.specs.Code.{IsCodeOf}
use Rattle.smol_claims.specs.Spelled.{is_taken_in, fired_in, spelled}

-- the words and the views
abbrev pub WordsAndViews : Type 0
WordsAndViews = table.State (Unit {0}) View

-- the seat has nothing
pub record IsEmpty (v : View) : Type 0 where
  pub held : v.held ≡ []
  pub owed : v.owed ≡ []
  pub mine : v.mine ≡ []

-- what a seat knows is so
pub record IsTrueView (pairs : List Pair) (workers : ℕ) (words : List ℕ) (v : View) : Type 0 where
  -- a seat that is not spent has the plan and the number of workers
  pub plan : 0 < v.share → v.pairs ≡ pairs
  pub of : 0 < v.share → v.workers ≡ workers
  -- the slices that it has seen taken are taken
  pub seen : (slice : ℕ) → slice < v.seen → is_taken_in pairs words slice ≡ true
  -- the pairs that it has decided are decided
  pub mine : (j : ℕ) → has v.mine j ≡ true → is_some (fired_in pairs words j) ≡ true
  -- its last look found 0 or what serial matching decides of the pair
  pub last : (look : Look) → v.last ≡ Some look → IsCodeOf pairs look.pair look.word
  -- a spent seat has nothing
  pub spent : v.share ≡ 0 → IsEmpty v

-- some seat has decided the pair
abbrev pub IsOfSome : List View → ℕ → Type 0
IsOfSome views j = (w : ℕ) × (has (view_at views w).mine j ≡ true)

-- what holds between any two steps
pub record KeepsRule (pairs : List Pair) (workers : ℕ) (s : WordsAndViews) : Type 0 where
  -- there are as many words as the plan wants, the first is 0, and those of slices are 0 or 1
  pub wide : length s.words ≡ claim_word_count pairs
  pub first : slice_index s.words 0 ≡ 0
  pub slices : (slice : ℕ) → slice < slice_count pairs → slice_index s.words (slice_at slice) ≤ 1
  -- the words and views spell a good state
  pub good : Good pairs (spelled pairs s.words s.views)
  -- a counter is the number of links that are not told
  pub counters : (j : ℕ) → j < length pairs → slice_index s.words (counter_at pairs j) ≡ left_of pairs (spelled pairs s.words s.views) j
  -- a pair's word is 0 or what serial matching decides of it
  pub codes : (j : ℕ) → j < length pairs → IsCodeOf pairs j (slice_index s.words (decision_at pairs j))
  -- what each seat knows is so
  pub views : (id : ℕ) (v : View) → get_elem? s.views id ≡ maybe.some v → IsTrueView pairs workers s.words v
  -- the shares add up to the number of workers
  pub shares : sum_by (λ (v : View). v.share) s.views ≡ workers
  -- each decided pair was decided by some seat
  pub owners : (j : ℕ) → is_some (fired_in pairs s.words j) ≡ true → IsOfSome s.views j
