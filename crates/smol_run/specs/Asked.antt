-- Of which names a source is asked.
use Rattle.std.specs.Prelude.{◌≡◌, ℕ, List, [], Option, None, Some, slice_index_or}
use Rattle.smol_edge.specs.Source.{Reading}
use Rattle.smol_macro.specs.Files.{AsksFront}
use Rattle.smol_macro.specs.Including.{files_of}
use Rattle.smol_run.specs.declared.words.Job.{Job}
use Rattle.smol_run.specs.declared.words.Job.TheVariants.{File, Make}

-- of the source only the file that the words name was asked for, and then those that it asks for, up to where the call ended
abbrev pub AsksForJob : Option Job → List (List ℕ) → Reading → Reading → Type 0
AsksForJob None words before after = after ≡ before
AsksForJob (Some (Make n)) words before after = after ≡ before
AsksForJob (Some (File index seed workers runs)) words before after =
    AsksFront (λ contents. files_of contents (slice_index_or words index [])) before after
