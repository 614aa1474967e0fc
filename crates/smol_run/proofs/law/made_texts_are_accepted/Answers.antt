use Rattle.smol_run.proofs.MadeRead.{made_is_accepted}
use Rattle.smol_run.proofs.law.made_texts_are_accepted.Goals as goal

pub returns : goal.returns
returns c = λ n some few. made_is_accepted n few
