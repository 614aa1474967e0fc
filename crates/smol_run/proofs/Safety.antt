-- Every run goes safely.
use Rattle.std.proofs.Common.{ℕ, List, [], Option, None, Some, IfSome, Result, Ok, Err, get_or}
use Rattle.std.specs.Prelude.{slice_index_or}
use Rattle.smol_edge.specs.Source.{Reading}
use Rattle.smol_config.proofs.WholeSound.{accepted_is_sound}
use Rattle.smol_macro.specs.Refusal.{Refusal}
use Rattle.smol_macro.specs.Including.{expanded}
use Rattle.smol_meaning.specs.Seen.{plates_of}
use Rattle.smol_meaning.proofs.Courses.{run_confines, run_is_kept}
use Rattle.smol_meaning.proofs.Crossings.{crosses_none}
use Rattle.smol_confined.proofs.Filling.{events_of_run_are_confined}
use Rattle.smol_confined.proofs.Linked.{run_is_confined}
use Rattle.smol_run.specs.declared.words.Job.{Job}
use Rattle.smol_run.specs.declared.words.Job.TheVariants.{File, Make}
use Rattle.smol_run.specs.Generated.{generated}
use Rattle.smol_run.specs.Ways.{FilesGoSafely, JobGoesSafely, TextGoesSafely}

text_safe : (given runs : Option ℕ) (text : List ℕ) → TextGoesSafely given runs text
text_safe given runs text draft seed run accepted is_seed ran =
    let sound = accepted_is_sound text draft accepted in
    record {
      crosses_none = λ i d within. crosses_none (plates_of draft) (get_or run.moves i d).species (get_or run.moves i d).from (get_or run.moves i d).by;
      confined = run_confines draft seed run sound ran;
      states = (run_is_kept draft seed run sound ran).0;
      stays = λ box closed. run_is_confined draft seed run box sound ran closed;
      events = λ box closed. events_of_run_are_confined draft seed run box sound ran closed;
    }

files_safe : (given runs : Option ℕ) (outcome : Result (List ℕ) Refusal) → FilesGoSafely given runs outcome
files_safe given runs (Ok text) = text_safe given runs text
files_safe given runs (Err refusal) = tt

job_safe : (job : Option Job) (words : List (List ℕ)) (contents : List ℕ → Option (List ℕ)) → JobGoesSafely job words contents
job_safe None words contents = tt
job_safe (Some (File index seed workers runs)) words contents = files_safe seed runs (expanded contents (slice_index_or words index []))
job_safe (Some (Make n)) words contents = text_safe None None (generated n)

-- whatever the words and the files are
pub all_safe : (job : Option Job) (words : List (List ℕ)) (a : Option Reading) → IfSome a (λ reading. JobGoesSafely job words reading.contents)
all_safe job words None = tt
all_safe job words (Some reading) = job_safe job words reading.contents
