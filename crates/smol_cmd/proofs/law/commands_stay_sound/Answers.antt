use Rattle.smol_cmd.proofs.Sound.{commands_stay_sound}
use Rattle.smol_cmd.proofs.law.commands_stay_sound.Goals as goal

pub returns : goal.returns
returns c = commands_stay_sound
