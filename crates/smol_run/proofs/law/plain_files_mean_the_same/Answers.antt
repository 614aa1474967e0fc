use Rattle.smol_run.proofs.PlainFiles.{plain_file_same, same_words}
use Rattle.smol_run.proofs.law.plain_files_mean_the_same.Goals as goal

pub returns-clause-same : goal.returns-clause-same
returns-clause-same c = plain_file_same

pub returns-clause-words : goal.returns-clause-words
returns-clause-words c = same_words
