use Rattle.smol_macro.proofs.PlainFile.{plain-long, plain-same}
use Rattle.smol_macro.proofs.law.plain_files_say_the_same.Goals as goal

pub returns-clause-too_long : goal.returns-clause-too_long
returns-clause-too_long c = plain-long

pub returns-clause-same : goal.returns-clause-same
returns-clause-same c = plain-same
