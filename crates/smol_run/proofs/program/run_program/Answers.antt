use Rattle.std.proofs.Common.{map, string_bytes}
use Rattle.smol_edge.specs.Source.{Reading}
use Rattle.smol_run.specs.declared.stop.Stop.{Stop}
use Rattle.smol_run.specs.Outcome.{outcome_of}
use Rattle.smol_run.specs.Words.{job_of}
use Rattle.smol_run.proofs.Cuts.{front_told}
use Rattle.smol_run.proofs.PlainFiles.{all_plain_same}
use Rattle.smol_run.proofs.Safety.{all_safe}
use Rattle.smol_run.proofs.Statuses.{absent_is_lost, definite_ends, read_failed, usage_is_misuse, write_failed}
use Rattle.smol_run.proofs.program.run_program.Goals as goal

pub returns-clause-outcome : goal.returns-clause-outcome
returns-clause-outcome g c =
    definite_ends (λ (reading : Reading). outcome_of (map (λ word. string_bytes word) c.args.words.now) reading.contents) c.run_words-made.result c.status_told.result
    (g.S.Source.told c.args.source.now) _ _ c.status_told.ensures c.run_words-made.ensures.ended

pub returns-clause-front : goal.returns-clause-front
returns-clause-front g c =
    front_told {E = Stop} (λ (reading : Reading). outcome_of (map (λ word. string_bytes word) c.args.words.now) reading.contents) c.run_words-made.result
    (g.S.Source.told c.args.source.now) _ _ c.run_words-made.ensures.ended

pub returns-clause-absent : goal.returns-clause-absent
returns-clause-absent g c =
    absent_is_lost (λ (reading : Reading). outcome_of (map (λ word. string_bytes word) c.args.words.now) reading.contents) c.run_words-made.result c.status_told.result
    (g.S.Source.told c.args.source.now) c.status_told.ensures c.run_words-made.ensures.absent

pub returns-clause-ways : goal.returns-clause-ways
returns-clause-ways g c =
    let words = map (λ word. string_bytes word) c.args.words.now in
    all_safe (job_of words) words (g.S.Source.told c.args.source.now)

pub returns-clause-plain : goal.returns-clause-plain
returns-clause-plain g c =
    let words = map (λ word. string_bytes word) c.args.words.now in
    all_plain_same (job_of words) words (g.S.Source.told c.args.source.now)

pub returns-clause-input : goal.returns-clause-input
returns-clause-input g c =
    read_failed (job_of (map (λ word. string_bytes word) c.args.words.now)) c.run_words-made.result c.status_told.result _ _
    c.status_told.ensures c.run_words-made.ensures.fits c.run_words-made.ensures.reads

pub returns-clause-output : goal.returns-clause-output
returns-clause-output g c =
    write_failed (job_of (map (λ word. string_bytes word) c.args.words.now)) c.run_words-made.result c.status_told.result _ _
    c.status_told.ensures c.run_words-made.ensures.fits c.run_words-made.ensures.writes

pub returns-clause-usage : goal.returns-clause-usage
returns-clause-usage g c =
    usage_is_misuse (job_of (map (λ word. string_bytes word) c.args.words.now)) c.run_words-made.result c.status_told.result
    c.status_told.ensures c.run_words-made.ensures.fits
