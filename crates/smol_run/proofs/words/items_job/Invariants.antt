use Rattle.std.proofs.Common.{◌≡◌, ◌<◌, ◌≤◌, ◌-◌, length, map, drop, string_bytes, IfSome}
use Rattle.smol_run.specs.Words.{AreRuns, AreWorkers, items_of, items_job}
use Rattle.smol_run.proofs.Items.{job_of_more}
use Rattle.smol_run.proofs.words.items_job.Given as goal

abbrev pub invariant-loop-index : goal.invariant-loop-index
invariant-loop-index l = record {
  within : l.index ≤ length l.words;
  named : IfSome l.found.name (λ index. index < length l.words);
  workers : IfSome l.found.workers AreWorkers;
  runs : IfSome l.found.runs AreRuns;
  same : items_job (map string_bytes l.words) ≡ job_of_more l.found (items_of l.index (drop l.index (map string_bytes l.words)));
}

abbrev pub decreases-loop-index : goal.decreases-loop-index
decreases-loop-index l = length l.words - l.index
