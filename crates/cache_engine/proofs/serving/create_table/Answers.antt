use Rattle.std.proofs.Common.{◌++◌, ◌∷◌, [], ◌∙◌, ap, subst}
use Rattle.std.specs.Prelude.{Err, Ok}
use Rattle.outside.specs.Bank.{Defines}
use Rattle.outside.specs.declared.fault.BankError.TheVariants.{Failed}
use Rattle.cache_engine.specs.Growing.{Learns}
use Rattle.propagators.proofs.CertainLaws.{bank_certain}
use Rattle.cache_engine.proofs.CreatingLaws.{done_caused, failed_caused, table_made, table_unmade, table_unsure}
use Rattle.cache_engine.proofs.serving.create_table.Goals as goal

pub returns-in-Ok-clause-performs : goal.returns-in-Ok-clause-performs
returns-in-Ok-clause-performs g c =
    table_made c.others_shown_law.ensures.entries c.table_shown_law.ensures.told c.args.tier.now _ _ _ c.args.declaration.now
    c.in_ok-def.def c.in-Ok.field-0 c.done.result c.done.ensures
    (record { free = c.in_ok-def.ensures.told; made = c.in_ok-def.ensures.def }) c.if-tier.false
    (record {
      told = c.in-Ok.ensures.told;
      faults = c.in-Ok.ensures.cause.later;
      moment = c.in-Ok.ensures.crash.later;
      shares = c.in-Ok.ensures.cause.shared;
    })
    (subst (Learns c.args.tier.now c.learn.new.tier)
    (c.in_ok-schema.ensures ∙ ap (λ defs. defs ++ c.in_ok-def.def ∷ []) c.as_slice.ensures) c.learn.ensures.learns)

pub returns-in-Ok-clause-cause : goal.returns-in-Ok-clause-cause
returns-in-Ok-clause-cause g c =
    done_caused _ _ (Defines c.in_ok-def.def (Ok c.in-Ok.field-0)) 0 c.done.result
    (record {
      told = c.in-Ok.ensures.told;
      faults = c.in-Ok.ensures.cause.later;
      moment = c.in-Ok.ensures.crash.later;
      shares = c.in-Ok.ensures.cause.shared;
    })
    c.done.ensures

pub returns-in-Err-Failed-clause-performs : goal.returns-in-Err-Failed-clause-performs
returns-in-Err-Failed-clause-performs g c =
    table_unsure c.others_shown_law.ensures.entries c.table_shown_law.ensures.untold c.args.tier.now _ _
    c.args.declaration.now c.in_ok-def.def c.faulty.result c.faulty.ensures
    (record { free = c.in_ok-def.ensures.told; made = c.in_ok-def.ensures.def })
    (record {
      told = rw c.in-Err-Failed.field-0-is at c.in-Err-Failed.ensures.told;
      faults = c.in-Err-Failed.ensures.cause.later;
      moment = c.in-Err-Failed.ensures.crash.later;
      shares = c.in-Err-Failed.ensures.cause.shared;
    })

pub returns-in-Err-Failed-clause-cause : goal.returns-in-Err-Failed-clause-cause
returns-in-Err-Failed-clause-cause g c =
    failed_caused _ _ (Defines c.in_ok-def.def (Err Failed)) c.faulty.result
    (record {
      told = rw c.in-Err-Failed.field-0-is at c.in-Err-Failed.ensures.told;
      faults = c.in-Err-Failed.ensures.cause.later;
      moment = c.in-Err-Failed.ensures.crash.later;
      shares = c.in-Err-Failed.ensures.cause.shared;
    })
    c.faulty.ensures (c.in-Err-Failed.ensures.cause.failed (ap (λ e. Err e) c.in-Err-Failed.field-0-is))

pub returns-clause-performs : goal.returns-clause-performs
returns-clause-performs g c =
    table_unmade c.others_shown_law.ensures.around c.args.tier.now _ _ c.args.declaration.now c.in_ok-def.def
    (record { free = c.in_ok-def.ensures.told; made = c.in_ok-def.ensures.def })
    (record {
      told = rw c.in-Err-Memory.field-0-is at c.in-Err-Memory.ensures.told;
      faults = c.in-Err-Memory.ensures.cause.later;
      moment = c.in-Err-Memory.ensures.crash.later;
      shares = c.in-Err-Memory.ensures.cause.shared;
    })

pub returns-in-Ok-clause-certain : goal.returns-in-Ok-clause-certain
returns-in-Ok-clause-certain g c = bank_certain g.P.Disk.state g.P.Disk.possible g.met.P.Disk.certain c.args.site.now c.define.new.self _ c.in-Ok.ensures.told c.in-Ok.ensures.crash

pub returns-in-Err-Failed-clause-certain : goal.returns-in-Err-Failed-clause-certain
returns-in-Err-Failed-clause-certain g c = bank_certain g.P.Disk.state g.P.Disk.possible g.met.P.Disk.certain c.args.site.now c.define.new.self _ c.in-Err-Failed.ensures.told c.in-Err-Failed.ensures.crash

pub returns-clause-certain : goal.returns-clause-certain
returns-clause-certain g c = bank_certain g.P.Disk.state g.P.Disk.possible g.met.P.Disk.certain c.args.site.now c.define.new.self _ c.in-Err-Memory.ensures.told c.in-Err-Memory.ensures.crash
