use Rattle.std.proofs.Common.{refl}
use Rattle.std.specs.Prelude.{Err, Ok}
use Rattle.outside.specs.Bank.{TellsSchema}
use Rattle.cache_engine.proofs.BeginningLaws.{began_at, begun}
use Rattle.stored_tier.proofs.OthersLaws.{schema_reads}
use Rattle.cache_engine.proofs.beginning.begin.Goals as goal

pub returns-in-Err-clause-later : goal.returns-in-Err-clause-later
returns-in-Err-clause-later g c =
    began_at _ _ (TellsSchema (Err c.in-Err.error)) (schema_reads (Err c.in-Err.error)) c.in-Err.ensures.told
    c.in-Err.ensures.cause.later c.in-Err.ensures.crash.later c.in-Err.ensures.cause.shared

pub returns-in-Err-new_tier-clause-later : goal.returns-in-Err-new_tier-clause-later
returns-in-Err-new_tier-clause-later g c =
    began_at _ _ (TellsSchema (Ok c.in-Ok.schema)) (schema_reads (Ok c.in-Ok.schema)) c.in-Ok.ensures.told
    c.in-Ok.ensures.cause.later c.in-Ok.ensures.crash.later c.in-Ok.ensures.cause.shared

pub returns-in-Ok-new_tier-clause-later : goal.returns-in-Ok-new_tier-clause-later
returns-in-Ok-new_tier-clause-later g c =
    began_at _ _ (TellsSchema (Ok c.in-Ok.schema)) (schema_reads (Ok c.in-Ok.schema)) c.in-Ok.ensures.told
    c.in-Ok.ensures.cause.later c.in-Ok.ensures.crash.later c.in-Ok.ensures.cause.shared

pub returns-in-Ok-new_tier-clause-begins : goal.returns-in-Ok-new_tier-clause-begins
returns-in-Ok-new_tier-clause-begins g c = (
  begun c.opened_law.ensures c.in-Ok-new_tier.tier c.in-Ok.schema c.args.start c.args.pace _ _
      c.in-Ok.ensures.told c.in-Ok-new_tier.ensures.fresh,
  refl,
  refl,
)

pub returns-in-Ok-new_tier-clause-order : goal.returns-in-Ok-new_tier-clause-order
returns-in-Ok-new_tier-clause-order g c = record { sound = c.in-Ok-new_tier.ensures.sound; ready = tt }
