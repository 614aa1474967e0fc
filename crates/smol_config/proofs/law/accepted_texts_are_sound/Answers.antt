use Rattle.smol_config.proofs.WholeSound.{accepted_is_sound}
use Rattle.smol_config.proofs.law.accepted_texts_are_sound.Goals as goal

pub returns : goal.returns
returns c = accepted_is_sound
