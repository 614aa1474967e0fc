use Rattle.smol_config.proofs.RatedWhole.{rated_accepted}
use Rattle.smol_config.proofs.law.rates_never_exceed_1.Goals as goal

pub returns : goal.returns
returns c = rated_accepted
