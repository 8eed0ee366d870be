use Rattle.std.proofs.Common.{sym, ◌∙◌}
use Rattle.std.specs.Prelude.{Err, Ok}
use Rattle.outside.specs.declared.fault.BankError.TheVariants.{Memory}
use Rattle.propagators.proofs.CertainLaws.{bank_certain}
use Rattle.cache_engine.proofs.AskingLaws.{asked_and_told, asked_in_vain, not_asked}
use Rattle.stored_tier.proofs.OthersLaws.{schema_reads}
use Rattle.cache_engine.proofs.schema.ask_schema.Goals as goal

pub returns-then-not-has_to_ask-clause-performs : goal.returns-then-not-has_to_ask-clause-performs
returns-then-not-has_to_ask-clause-performs g c =
    not_asked c.args.tier.now _ c.args.line.now (sym c.has_to_ask.ensures ∙ c.if-not-has_to_ask.true)

pub returns-in-Err-clause-performs : goal.returns-in-Err-clause-performs
returns-in-Err-clause-performs g c =
    asked_in_vain c.others_shown_law.ensures.around c.args.tier.now _ _ c.args.line.now (Err c.in-Err.error) c.in-Err.error
    c.bank_fault.result c.bank_fault.ensures (sym c.has_to_ask.ensures ∙ c.if-not-has_to_ask.false)
    (record {
      told = c.in-Err.ensures.told;
      faults = c.in-Err.ensures.cause.later;
      moment = c.in-Err.ensures.crash.later;
      shares = c.in-Err.ensures.cause.shared;
    })
    (schema_reads (Err c.in-Err.error))

pub returns-in-Err-name_grown-clause-performs : goal.returns-in-Err-name_grown-clause-performs
returns-in-Err-name_grown-clause-performs g c =
    asked_in_vain c.others_shown_law.ensures.around c.args.tier.now _ _ c.args.line.now (Ok c.in-Ok.schema) Memory
    c.faulty.result c.faulty.ensures (sym c.has_to_ask.ensures ∙ c.if-not-has_to_ask.false)
    (record {
      told = c.in-Ok.ensures.told;
      faults = c.in-Ok.ensures.cause.later;
      moment = c.in-Ok.ensures.crash.later;
      shares = c.in-Ok.ensures.cause.shared;
    })
    (schema_reads (Ok c.in-Ok.schema))

pub returns-in-Ok-name_grown-clause-performs : goal.returns-in-Ok-name_grown-clause-performs
returns-in-Ok-name_grown-clause-performs g c =
    asked_and_told c.others_shown_law.ensures.around c.table_shown_law.ensures.schema c.args.tier.now _ _ _ c.args.line.now
    c.in-Ok.schema (sym c.has_to_ask.ensures ∙ c.if-not-has_to_ask.false)
    (record {
      told = c.in-Ok.ensures.told;
      faults = c.in-Ok.ensures.cause.later;
      moment = c.in-Ok.ensures.crash.later;
      shares = c.in-Ok.ensures.cause.shared;
    })
    c.learn.ensures.learns

pub returns-in-Err-clause-certain : goal.returns-in-Err-clause-certain
returns-in-Err-clause-certain g c = bank_certain g.P.Disk.state g.P.Disk.possible g.met.P.Disk.certain c.args.site.now c.schema.new.self _ c.in-Err.ensures.told c.in-Err.ensures.crash

pub returns-in-Err-name_grown-clause-certain : goal.returns-in-Err-name_grown-clause-certain
returns-in-Err-name_grown-clause-certain g c = bank_certain g.P.Disk.state g.P.Disk.possible g.met.P.Disk.certain c.args.site.now c.schema.new.self _ c.in-Ok.ensures.told c.in-Ok.ensures.crash

pub returns-in-Ok-name_grown-clause-certain : goal.returns-in-Ok-name_grown-clause-certain
returns-in-Ok-name_grown-clause-certain g c = bank_certain g.P.Disk.state g.P.Disk.possible g.met.P.Disk.certain c.args.site.now c.schema.new.self _ c.in-Ok.ensures.told c.in-Ok.ensures.crash
