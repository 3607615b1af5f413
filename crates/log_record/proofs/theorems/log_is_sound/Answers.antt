use Rattle.log_record.proofs.Sound.{log_is_sound_lem}
use Rattle.log_record.proofs.theorems.log_is_sound.Goals as goal

pub returns : goal.returns
returns c = log_is_sound_lem
