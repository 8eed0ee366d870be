-- One more write.
use Rattle.resolution.proofs.SoundLaws.{sound_more}
use Rattle.resolution.proofs.write.all_sound.Goals as goal

pub loop-change-preserved : goal.loop-change-preserved
loop-change-preserved c =
    sound_more c.loop-change.yielded c.in-Some.change c.loop-change.sound c.in_ok-sound.sound c.loop-change.invariant c.in_ok-sound.ensures
