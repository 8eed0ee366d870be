use Rattle.std.proofs.Common.{[], refl}
use Rattle.stored_tier.proofs.OverLaws.{caused_stopped, caused_then}
use Rattle.stored_tier.proofs.SettlingLaws.{ended_caused, flush_ended, settled_over, sound_settled}
use Rattle.stored_tier.proofs.tier.Tier.settle.Goals as goal

pub returns-in-Err-clause-performs : goal.returns-in-Err-clause-performs
returns-in-Err-clause-performs g c =
    flush_ended g.P.Disk.state g.P.Disk.possible c.args.self.now _ c.args.journal.now c.flush_tail.new.journal c.args.site.now c.flush_tail.new.disk c.in-Err.reply c.in-Err.ensures.flushes c.in-Err.ensures.cause

pub returns-in-Ok-clause-performs : goal.returns-in-Ok-clause-performs
returns-in-Ok-clause-performs g c =
    settled_over g.P.Disk.state g.P.Disk.possible c.args.self.now c.apply-applied.new.self c.rotate_if_long-turned.new.self c.args.journal.now c.flush_tail.new.journal _ c.args.site.now c.flush_tail.new.disk c.apply-applied.new.site c.rotate_if_long-turned.new.site
    c.apply-applied.result c.rotate_if_long-turned.result c.round_ended.result c.in-Ok.ensures.flushes c.in-Ok.ensures.cause c.apply-applied.ensures.certain c.apply-applied.ensures.performs c.rotate_if_long-turned.ensures.performs c.round_ended.ensures

pub returns-in-Err-clause-sound : goal.returns-in-Err-clause-sound
returns-in-Err-clause-sound g c = sound_settled c.args.self.now _ c.requires refl ([], refl)

pub returns-in-Err-clause-cause : goal.returns-in-Err-clause-cause
returns-in-Err-clause-cause g c = caused_stopped _ _ _ c.in-Err.reply c.in-Err.ensures.cause

pub returns-in-Ok-clause-cause : goal.returns-in-Ok-clause-cause
returns-in-Ok-clause-cause g c =
    ended_caused c.args.journal.now c.flush_tail.new.journal _ _ _ c.apply-applied.result c.rotate_if_long-turned.result c.round_ended.result c.flush_tail.ensures.none
    (caused_then _ _ _ _ _ c.in-Ok.ensures.cause c.apply-applied.ensures.disk c.apply-applied.ensures.cause) c.rotate_if_long-turned.ensures.cause c.round_ended.ensures
