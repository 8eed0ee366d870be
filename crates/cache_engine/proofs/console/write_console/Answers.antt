use Rattle.propagators.proofs.CertainLaws.{bank_certain}
use Rattle.cache_engine.proofs.ConsoleSteps.{refused_caused, writes_caused}
use Rattle.cache_engine.proofs.WritingLaws.{console_written}
use Rattle.cache_engine.proofs.console.write_console.Goals as goal

pub returns-in-Ok-clause-serves : goal.returns-in-Ok-clause-serves
returns-in-Ok-clause-serves g c =
    console_written c.args.tier.now c.args.writes.now _ _ c.in-Ok.changes _ c.foreign-end.result _
    c.as_slice.ensures c.in-Ok.ensures c.foreign-end.ensures.told c.foreign-end.ensures.cause.later c.foreign-end.ensures.crash.later
    c.foreign-end.ensures.cause.shared c.reply_to_writes.ensures

pub returns-in-Ok-clause-cause : goal.returns-in-Ok-clause-cause
returns-in-Ok-clause-cause g c =
    writes_caused _ _ c.as_slice.result.now c.foreign-end.result c.reply_to_writes.result
    (record {
      told = c.foreign-end.ensures.told;
      faults = c.foreign-end.ensures.cause.later;
      moment = c.foreign-end.ensures.crash.later;
      shares = c.foreign-end.ensures.cause.shared;
    })
    c.reply_to_writes.ensures c.foreign-end.ensures.cause.failed

pub returns-in-Err-clause-cause : goal.returns-in-Err-clause-cause
returns-in-Err-clause-cause g c = refused_caused _ c.in-Err.refused c.refuse.result c.refuse.ensures

pub returns-in-Ok-clause-certain : goal.returns-in-Ok-clause-certain
returns-in-Ok-clause-certain g c =
    bank_certain g.P.Disk.state g.P.Disk.possible g.met.P.Disk.certain c.args.site.now c.foreign-end.new.self _
    c.foreign-end.ensures.told c.foreign-end.ensures.crash
