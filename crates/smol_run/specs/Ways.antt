-- Where molecules go in the run that the words ask for.
use Rattle.std.specs.Prelude.{◌≡◌, ℕ, ◌<◌, Bool, true, List, [], Option, None, Some, Result, Ok, Err, All, slice_index_or}
use Rattle.smol_geom.specs.declared.cuboid.Cuboid.{Cuboid}
use Rattle.smol_types.specs.declared.draft.Draft.{Draft}
use Rattle.smol_types.specs.State.{Fits}
use Rattle.smol_config.specs.Reader.{config_of}
use Rattle.smol_macro.specs.Refusal.{Refusal}
use Rattle.smol_macro.specs.Including.{expanded}
use Rattle.smol_meaning.specs.Box.{Confines, IsClosed, IsInside}
use Rattle.smol_meaning.specs.Crossing.{CrossesNone}
use Rattle.smol_meaning.specs.Motion.{Move}
use Rattle.smol_meaning.specs.Run.{run_of}
use Rattle.smol_meaning.specs.Seen.{IsClosedBox, plates_of}
use Rattle.smol_meaning.specs.Stretch.{Stretch}
use Rattle.smol_sweep.specs.Seeds.{seed_at}
use Rattle.smol_confined.specs.Laws.{EventsOfRunAreConfined, RunIsConfined}
use Rattle.smol_run.specs.declared.words.Job.{Job}
use Rattle.smol_run.specs.declared.words.Job.TheVariants.{File, Make}
use Rattle.smol_run.specs.Generated.{generated}
use Rattle.smol_run.specs.Outcome.{seed_of}

-- no way of the run crosses a face that reflects what the molecule is then, each way that starts inside a box that is closed for some
-- species, that as which it sets out among them, stays in it, and each state fits the configuration. A molecule that is inside a closed
-- reflecting box in one state is inside it in each later one, or gone; and in each step the products of what is inside are inside, and
-- no molecule inside reacts with one outside
pub record GoesSafely (draft : Draft) (seed : ℕ) (run : Stretch) : Type 0 where
  pub crosses_none : All (λ (move : Move). CrossesNone (plates_of draft) move.species move.from move.by) run.moves
  pub confined : All (λ (move : Move). (among : ℕ → Bool) (box : Cuboid) → among move.species ≡ true → IsClosed draft.dims (plates_of draft) among box
      → IsInside box move.from → Confines (plates_of draft) move.species move.from move.by box) run.moves
  pub states : All (Fits draft) run.states
  pub stays : (box : Cuboid) → IsClosedBox draft box → RunIsConfined run box
  pub events : (box : Cuboid) → IsClosedBox draft box → EventsOfRunAreConfined draft seed run box

-- the seeds of the runs that are made: one run has its own seed, and so many have seeds that follow one another from the first on
abbrev pub IsSeedOf : Option ℕ → ℕ → ℕ → Type 0
IsSeedOf None first seed = seed ≡ first
IsSeedOf (Some count) first seed = (number : ℕ) × (number < count) × (seed ≡ seed_at first number)

-- each run of this text, where it is accepted and the run begins, goes safely
abbrev pub TextGoesSafely : Option ℕ → Option ℕ → List ℕ → Type 0
TextGoesSafely given runs text =
    (draft : Draft) (seed : ℕ) (run : Stretch) → config_of text ≡ Ok draft → IsSeedOf runs (seed_of given draft) seed
    → run_of draft seed ≡ Ok run → GoesSafely draft seed run

-- each run of an expanded text, where there is one
abbrev pub FilesGoSafely : Option ℕ → Option ℕ → Result (List ℕ) Refusal → Type 0
FilesGoSafely given runs (Ok text) = TextGoesSafely given runs text
FilesGoSafely given runs (Err refusal) = Unit {0}

-- each run that the words ask for over these files goes safely, where there is one
abbrev pub JobGoesSafely : Option Job → List (List ℕ) → (List ℕ → Option (List ℕ)) → Type 0
JobGoesSafely None words contents = Unit {0}
JobGoesSafely (Some (File index seed workers runs)) words contents =
    FilesGoSafely seed runs (expanded contents (slice_index_or words index []))
JobGoesSafely (Some (Make n)) words contents = TextGoesSafely None None (generated n)
