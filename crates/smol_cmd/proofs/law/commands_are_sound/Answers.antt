use Rattle.smol_cmd.proofs.Sound.{commands_are_few, commands_are_sound}
use Rattle.smol_cmd.proofs.law.commands_are_sound.Goals as goal

pub returns-clause-sound : goal.returns-clause-sound
returns-clause-sound c = commands_are_sound

pub returns-clause-room : goal.returns-clause-room
returns-clause-room c = commands_are_few
