-- How a run ends, and what it writes: the result of a call.
use Rattle.std.specs.Prelude.{ℕ, zero, suc, ◌+◌, List, [], ◌∷◌, ◌++◌, Option, None, Some, Result, Ok, Err, codes, slice_index_or, unwrap_or}
use Rattle.std.specs.Fmt.{decimal}
use Rattle.smol_edge.specs.Outlets.{Piece}
use Rattle.smol_types.specs.declared.draft.Draft.{Draft}
use Rattle.smol_types.specs.Fault.{kind_text}
use Rattle.smol_line.specs.Fault.{Fault}
use Rattle.smol_config.specs.Reader.{config_of}
use Rattle.smol_macro.specs.Refusal.{Refusal, at, no_file, kind_text as macro_text}
use Rattle.smol_macro.specs.Including.{expanded}
use Rattle.smol_meaning.specs.Placement.{NoPlace}
use Rattle.smol_meaning.specs.Stretch.{Ending, GoesOn, Stopped, Over, Stretch}
use Rattle.smol_meaning.specs.Run.{run_of}
use Rattle.smol_sweep.specs.declared.outcome.Outcome.{Outcome as End}
use Rattle.smol_sweep.specs.Seeds.{seed_at}
use Rattle.smol_sweep.specs.Table.{table_of}
use Rattle.smol_loop.specs.EndOfRun.{end_of_run}
use Rattle.smol_run.specs.declared.status.Status.{Status}
use Rattle.smol_run.specs.declared.status.Status.TheVariants as status
use Rattle.smol_run.specs.declared.words.Job.{Job}
use Rattle.smol_run.specs.declared.words.Job.TheVariants.{File, Make}
use Rattle.smol_run.specs.Generated.{generated}
use Rattle.smol_run.specs.Words.{job_of}

-- a status, the names of the files that are opened for writing, and the bytes that are written, each with its outlet
pub record Outcome : Type 0 where
  pub status : Status
  pub names : List (List ℕ)
  pub pieces : List Piece

-- a line on standard error
abbrev pub error_line : List ℕ → List Piece
error_line line = (1, line ++ codes "\n") ∷ []

-- the words are refused
abbrev pub misused : Outcome
misused = record {
  status = status.Usage;
  names = [];
  pieces = error_line (codes "usage: smol FILE [--seed N] [--workers N] [--runs N] or smol --make N");
}

-- the text is refused at a line, or as a whole at line 0
abbrev pub refused : ℕ → List ℕ → Outcome
refused line why = record {
  status = status.Refused;
  names = [];
  pieces = error_line (codes "line " ++ decimal line ++ codes ": " ++ why);
}

-- a molecule finds no place, which is told by the line of its statement and its serial
abbrev pub no_place_line : ℕ → ℕ → List ℕ
no_place_line line serial = codes "line " ++ decimal line ++ codes ": no place found for molecule " ++ decimal serial

-- a step, or a command at the state of a step, makes too many molecules
abbrev pub over_line : ℕ → List ℕ
over_line step = codes "step " ++ decimal step ++ codes ": more than max_mol molecules"

-- a run with these output files that printed these pieces and ended so
abbrev pub outcome_of_ending : List (List ℕ) → List Piece → Ending → Outcome
outcome_of_ending names pieces GoesOn = record { status = status.Done; names = names; pieces = pieces }
outcome_of_ending names pieces Stopped = record { status = status.Done; names = names; pieces = pieces }
outcome_of_ending names pieces (Over step) = record { status = status.Over; names = names; pieces = pieces ++ error_line (over_line step) }

-- a run that begins, and one that doesn't since a molecule finds no place: its output files are opened all the same
abbrev pub outcome_of_run : List (List ℕ) → Result Stretch NoPlace → Outcome
outcome_of_run names (Ok stretch) = outcome_of_ending names stretch.pieces stretch.ending
outcome_of_run names (Err none) =
    record { status = status.Refused; names = names; pieces = error_line (no_place_line none.line none.serial) }

-- what becomes of so many runs whose seeds follow one another, of which the first has this number
abbrev pub ends_from : Draft → ℕ → ℕ → ℕ → List End
ends_from draft first number zero = []
ends_from draft first number (suc left) = end_of_run draft (seed_at first number) ∷ ends_from draft first (number + 1) left

-- so many runs, of which the first has this seed, print their table alone, whatever becomes of them. No file is opened
abbrev pub outcome_of_runs : Draft → ℕ → ℕ → Outcome
outcome_of_runs draft first count =
    record { status = status.Done; names = []; pieces = (0, table_of first (ends_from draft first 0 count)) ∷ [] }

-- a configuration is run once, or as many times as the words say
abbrev pub outcome_by : Option ℕ → Draft → ℕ → Outcome
outcome_by None draft seed = outcome_of_run draft.outputs (run_of draft seed)
outcome_by (Some count) draft seed = outcome_of_runs draft seed count

-- the seed of a run, or of the first: that of the words, else that of the configuration, else 0
abbrev pub seed_of : Option ℕ → Draft → ℕ
seed_of given draft = unwrap_or given (unwrap_or draft.seed 0)

-- an accepted text is run, and another is refused at its first fault
abbrev pub outcome_of_config : Option ℕ → Option ℕ → Result Draft Fault → Outcome
outcome_of_config seed runs (Ok draft) = outcome_by runs draft (seed_of seed draft)
outcome_of_config seed runs (Err fault) = refused fault.line (kind_text fault.kind)

-- a text ends as what it says as a configuration, where the words give this seed or none, and this number of runs or none
abbrev pub outcome_of_text : Option ℕ → Option ℕ → List ℕ → Outcome
outcome_of_text seed runs text = outcome_of_config seed runs (config_of text)

-- files end as their expanded text does, or are refused at a line of it. Where one that is asked for isn't there, they have no outcome
abbrev pub outcome_of_files : Option ℕ → Option ℕ → Result (List ℕ) Refusal → Option Outcome
outcome_of_files seed runs (Ok text) = Some (outcome_of_text seed runs text)
outcome_of_files seed runs (Err (at line kind)) = Some (refused line (macro_text kind))
outcome_of_files seed runs (Err no_file) = None

-- the text is what the file that is named expands to, or the one that is made, which is run once and without a seed of the words
abbrev pub outcome_of_job : Option Job → List (List ℕ) → (List ℕ → Option (List ℕ)) → Option Outcome
outcome_of_job None words contents = Some misused
outcome_of_job (Some (File index seed workers runs)) words contents =
    outcome_of_files seed runs (expanded contents (slice_index_or words index []))
outcome_of_job (Some (Make n)) words contents = Some (outcome_of_text None None (generated n))

-- what the words of the command line give over these files
abbrev pub outcome_of : List (List ℕ) → (List ℕ → Option (List ℕ)) → Option Outcome
outcome_of words contents = outcome_of_job (job_of words) words contents
