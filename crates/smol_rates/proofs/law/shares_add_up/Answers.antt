use Rattle.smol_rates.proofs.Sharing.{share_whole, shares_join}
use Rattle.smol_rates.proofs.law.shares_add_up.Goals as goal

pub returns : goal.returns
returns c = record { joined = shares_join; whole = share_whole }
